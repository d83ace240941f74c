-- The keys of the roles: which fit, which can sign, and what they are hashed.
use Rattle.std.specs.Prelude.{ℕ, ◌&&◌, List, Bool, length, map, is_none, ⊤, Result, codes}
use Rattle.std.specs.List.{list_all}
use Rattle.up_canon.specs.Names.{is_from_to, first_repeated}
use Rattle.up_canon.specs.Steps.{◌>>=◌, unless}
use Rattle.up_canon.specs.declared.refusal.Refusal.{Refusal}
use Rattle.up_canon.specs.declared.refusal.Refusal.TheVariants.{BadShape}
use Rattle.up_sign.specs.Schemes.{Rules}
use Rattle.up_sign.specs.Envelopes.{identifier, key_block}
use Rattle.up_metadata.specs.declared.keys.RoleSecrets.{RoleSecrets}
use Rattle.up_metadata.specs.declared.keys.RepoKeys.{RepoKeys}
use Rattle.up_metadata.specs.declared.keys.KeySet.{KeySet}
use Rattle.up_metadata.specs.declared.hashed_keys.HashedRoleKeys.{HashedRoleKeys}
use Rattle.up_metadata.specs.declared.hashed_keys.HashedRepoKeys.{HashedRepoKeys}
use Rattle.up_metadata.specs.declared.hashed_keys.HashedKeySet.{HashedKeySet}

-- 1 to 256 bytes that the scheme takes as a secret
abbrev pub secret_fits : Rules → List ℕ → Bool
secret_fits k secret = is_from_to 1 256 (length secret) && k.secret_fits secret

-- ---- the keys of a role

-- 1 to 4 keys that fit, with distinct identifiers
abbrev pub keys_fit : Rules → RoleSecrets → Bool
keys_fit k role =
    is_from_to 1 4 (length role.keys) && list_all (secret_fits k) role.keys && is_none (first_repeated (map (identifier k) role.keys))

-- 1 to their number
abbrev pub threshold_fits : RoleSecrets → Bool
threshold_fits role = is_from_to 1 (length role.keys) role.threshold

abbrev pub role_fits : Rules → RoleSecrets → Bool
role_fits k role = keys_fit k role && threshold_fits role

abbrev pub repository_fits : Rules → RepoKeys → Bool
repository_fits k keys = role_fits k keys.root && role_fits k keys.targets && role_fits k keys.snapshot && role_fits k keys.timestamp

-- the keys of both repositories
abbrev pub key_set_fits : Rules → KeySet → Bool
key_set_fits k keys = repository_fits k keys.director && repository_fits k keys.image

-- ---- which can sign

-- 1 to 4 secrets that fit; nothing is asked of their identifiers or of the threshold
abbrev pub can_sign : Rules → RoleSecrets → Bool
can_sign k role = is_from_to 1 4 (length role.keys) && list_all (secret_fits k) role.keys

abbrev pub roles_can_sign : Rules → RepoKeys → Bool
roles_can_sign k keys = can_sign k keys.root && can_sign k keys.targets && can_sign k keys.snapshot && can_sign k keys.timestamp

abbrev pub all_can_sign : Rules → KeySet → Bool
all_can_sign k keys = roles_can_sign k keys.director && roles_can_sign k keys.image

-- ---- the keys, hashed

-- of the keys of a role, in order
abbrev pub hashed_role : Rules → RoleSecrets → List (List ℕ)
hashed_role k role = map (key_block k) role.keys

-- of the three roles whose files are made together
abbrev pub hashed_roles : Rules → RepoKeys → HashedRoleKeys
hashed_roles k keys = record { targets = hashed_role k keys.targets; snapshot = hashed_role k keys.snapshot; timestamp = hashed_role k keys.timestamp }

-- of all four roles of a repository
abbrev pub hashed_repo : Rules → RepoKeys → HashedRepoKeys
hashed_repo k keys = record { root = hashed_role k keys.root; roles = hashed_roles k keys }

-- of the keys of both repositories
abbrev pub hashed_key_set : Rules → KeySet → HashedKeySet
hashed_key_set k keys = record { director = hashed_repo k keys.director; image = hashed_repo k keys.image }

-- ---- the first fault

unfoldable pub check_role : Rules → RoleSecrets → Result ⊤ Refusal
check_role k role = do
  bad_keys ← unless (keys_fit k role) (BadShape (codes "keys"))
  unless (threshold_fits role) (BadShape (codes "threshold"))

unfoldable pub check_repository : Rules → RepoKeys → Result ⊤ Refusal
check_repository k keys = do
  bad_root ← check_role k keys.root
  bad_targets ← check_role k keys.targets
  bad_snapshot ← check_role k keys.snapshot
  check_role k keys.timestamp

unfoldable pub check_keys : Rules → KeySet → Result ⊤ Refusal
check_keys k keys = do
  bad_director ← check_repository k keys.director
  check_repository k keys.image
