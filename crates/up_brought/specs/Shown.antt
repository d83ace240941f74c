-- The keys that a Root shows, and what is signed for its roles, as whoever verifies reads it: from texts alone.
use Rattle.std.specs.Prelude.{ℕ, ◌&&◌, List, Bool, false, unwrap_or, option_map, Option, Some, None, option_and_then, if◌then◌else◌, is_some, map, not, filter_map, bytes_eq, Result, Ok}
use Rattle.std.specs.List.{list_all, list_any}
use Rattle.up_canon.specs.Names.{are_distinct}
use Rattle.up_canon.specs.Steps.{◌>>=◌, unless}
use Rattle.up_canon.specs.declared.refusal.Refusal.{Refusal}
use Rattle.up_canon.specs.declared.refusal.Refusal.TheVariants.{NotCanonical}
use Rattle.up_sign.specs.Hmac.{key_id}
use Rattle.up_shown.specs.Showing.{Showing}
use Rattle.up_sign.specs.Envelopes.{is_satisfied, is_accepted}
use Rattle.up_sign.specs.Formats.{envelope_text}
use Rattle.up_sign.specs.declared.envelope.Envelope.{Envelope}
use Rattle.up_roles.specs.Root.{all_keys}
use Rattle.up_roles.specs.declared.root.RootKey.{RootKey}
use Rattle.up_roles.specs.declared.root.RoleKeys.{RoleKeys}
use Rattle.up_roles.specs.declared.root.RootFile.{RootFile}

-- the public part, if the key is of this scheme and under its identifier
abbrev pub if_named : Showing → RootKey → List ℕ → Option (List ℕ)
if_named k key p = if bytes_eq key.keyid (key_id p) && bytes_eq key.method k.rules.method then Some p else None

-- the public part of a key of a Root
abbrev pub public_of : Showing → RootKey → Option (List ℕ)
public_of k key = option_and_then (if_named k key) (k.read_shown key.shown)

-- the key signed
abbrev pub has_signed : Showing → Envelope → RootKey → Bool
has_signed k envelope key = unwrap_or (option_map (is_satisfied k.rules envelope) (public_of k key)) false

-- vehicles refuse a Root in which a key has none
abbrev pub shows_keys : Showing → RootFile → Bool
shows_keys k file = list_all (λ key. is_some (public_of k key)) (all_keys file)

abbrev pub names_of : List RootKey → List (List ℕ)
names_of keys = map (λ key. key.keyid) keys

-- the identifiers of all keys of a Root
abbrev pub key_names : RootFile → List (List ℕ)
key_names file = names_of (all_keys file)

-- no key stands in two roles
abbrev pub roles_are_apart : RootFile → Bool
roles_are_apart file = are_distinct (key_names file)

-- no key stands in both files
abbrev pub files_are_apart : RootFile → RootFile → Bool
files_are_apart a b = list_all (λ name. not (list_any (bytes_eq name) (key_names b))) (key_names a)

-- enough of the keys that a Root lists for a role signed
abbrev pub accepts : Showing → RoleKeys → Envelope → Bool
accepts k role envelope = is_accepted k.rules (filter_map (public_of k) role.keys) role.threshold envelope

-- what a text means, if it is the one spelling of its envelope
unfoldable pub in_one_spelling : {F : Type 0} → (List ℕ → Result (F × Envelope) Refusal) → List ℕ → Result (F × Envelope) Refusal
in_one_spelling reading text = do
  read ← reading text
  not_canonical ← unless (bytes_eq text (envelope_text read.1)) NotCanonical
  Ok read
