-- The keys of a line that founds or rotates.
use Rattle.std.specs.Prelude.{ℕ, ◌^◌, List, nat_lt, Result, Ok, codes}
use Rattle.serde_json.specs.Data.{Data}
use Rattle.up_canon.specs.HexText.{hex_of}
use Rattle.up_canon.specs.Members.{object_in, list_in, count_in}
use Rattle.up_canon.specs.Readers.{fitting}
use Rattle.up_canon.specs.Steps.{◌>>=◌, each}
use Rattle.up_canon.specs.declared.refusal.Refusal.{Refusal}
use Rattle.up_metadata.specs.declared.keys.RoleSecrets.{RoleSecrets}
use Rattle.up_metadata.specs.declared.keys.RepoKeys.{RepoKeys}
use Rattle.up_metadata.specs.declared.keys.KeySet.{KeySet}

-- a key, 1 to 256 bytes in hexadecimal digits
unfoldable pub key_of : List ℕ → Data → Result (List ℕ) Refusal
key_of place value = hex_of 2 512 place value

-- a number of 32 bits
unfoldable pub threshold_in : Data → Result ℕ Refusal
threshold_in d = do
  threshold ← count_in (codes "threshold") d
  fitting (λ n. nat_lt n (2 ^ 32)) (codes "threshold") threshold

-- the keys of a role, not yet read
unfoldable pub key_list_in : List ℕ → Data → Result (List Data) Refusal
key_list_in name d = do
  role ← object_in name d
  list_in (codes "keys") role

unfoldable pub role_in : List ℕ → Data → Result RoleSecrets Refusal
role_in name d = do
  role ← object_in name d
  values ← list_in (codes "keys") role
  keys ← each (key_of (codes "keys")) values
  threshold ← threshold_in role
  Ok (record { keys = keys; threshold = threshold })

-- the keys of a repository's root role, not yet read: they come first
unfoldable pub root_list_in : List ℕ → Data → Result (List Data) Refusal
root_list_in name d = do
  repository ← object_in name d
  key_list_in (codes "root") repository

unfoldable pub repository_in : List ℕ → Data → Result RepoKeys Refusal
repository_in name d = do
  repository ← object_in name d
  root ← role_in (codes "root") repository
  targets ← role_in (codes "targets") repository
  snapshot ← role_in (codes "snapshot") repository
  timestamp ← role_in (codes "timestamp") repository
  Ok (record { root = root; targets = targets; snapshot = snapshot; timestamp = timestamp })

unfoldable pub key_set_in : Data → Result KeySet Refusal
key_set_in d = do
  director ← repository_in (codes "director") d
  image ← repository_in (codes "image") d
  Ok (record { director = director; image = image })
