-- Which keys a Root gives a role, and whether enough of them signed.
use Rattle.std.specs.Prelude.{ℕ, ◌++◌, ◌&&◌, List, Bool, nat_le, bytes_eq, count_by, Option, option_to_list}
use Rattle.std.specs.List.{list_any, list_all}
use Rattle.up_sign.specs.Envelopes.{is_satisfied}
use Rattle.up_sign.specs.Hmac.{key_id}
use Rattle.up_sign.specs.Schemes.{Rules}
use Rattle.up_sign.specs.declared.envelope.Envelope.{Envelope}
use Rattle.up_roles.specs.declared.root.RootKey.{RootKey}
use Rattle.up_roles.specs.declared.root.RoleKeys.{RoleKeys}
use Rattle.up_roles.specs.declared.root.RootFile.{RootFile}

-- what a vehicle verifies with: the scheme, the public part that a Root's text of a key shows, if it shows one, and the public
-- parts that the vehicle holds itself
pub record Verifier : Type 0 where
  pub rules : Rules
  pub public_in : List ℕ → Option (List ℕ)
  pub held : List (List ℕ)

-- by a scheme, what it reads of a shown text, and the public parts that are held
abbrev pub verifier : Rules → (List ℕ → Option (List ℕ)) → List (List ℕ) → Verifier
verifier rules public_in held = record { rules = rules; public_in = public_in; held = held }

-- the public parts that a Root's key may have: the one that is shown, and those that are held
abbrev pub candidates : Verifier → RootKey → List (List ℕ)
candidates v key = option_to_list (v.public_in key.shown) ++ v.held

-- the public part has the key's identifier
abbrev pub is_of : RootKey → List ℕ → Bool
is_of key p = bytes_eq (key_id p) key.keyid

-- a key of the scheme, with a public part that is shown so
abbrev pub is_known : Verifier → RootKey → Bool
is_known v key = bytes_eq key.method v.rules.method && list_any (λ p. is_of key p && bytes_eq (v.rules.shown p) key.shown) (candidates v key)

-- each key of the Root is one
abbrev pub are_known : Verifier → RootFile → Bool
are_known v root =
    list_all (is_known v) root.root.keys && list_all (is_known v) root.targets.keys && list_all (is_known v) root.snapshot.keys
    && list_all (is_known v) root.timestamp.keys

-- the key is satisfied by the envelope, however many signatures it has of it
abbrev pub has_signed : Verifier → Envelope → RootKey → Bool
has_signed v e key = list_any (λ p. is_of key p && is_satisfied v.rules e p) (candidates v key)

-- at least the threshold of the role's keys are
abbrev pub is_signed_for : Verifier → RoleKeys → Envelope → Bool
is_signed_for v role e = nat_le role.threshold (count_by (has_signed v e) role.keys)
