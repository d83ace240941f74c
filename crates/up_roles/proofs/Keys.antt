-- The keys of the four roles in one object.
use Rattle.std.proofs.Common.{◌≡◌, List, [], ◌∷◌, ◌++◌, map, refl, ap, ◌∙◌}
use Rattle.serde_json.specs.Data.{Members, no_members, put, object}
use Rattle.up_canon.specs.Build.{members_with, object_with}
use Rattle.up_roles.specs.Root.{all_keys, key_member, put_keys}
use Rattle.up_roles.specs.declared.root.RootKey.{RootKey}
use Rattle.up_roles.specs.declared.root.RootFile.{RootFile}

put_keys-append : (xs ys : List RootKey) (ms : Members) → put_keys (xs ++ ys) ms ≡ put_keys xs (put_keys ys ms)
put_keys-append [] ys ms = refl
put_keys-append (x ∷ xs) ys ms = ap (λ (rest : Members). put x.keyid (key_member x).1 rest) (put_keys-append xs ys ms)

pub members_with-keys : (xs : List RootKey) → members_with (map key_member xs) ≡ put_keys xs no_members
members_with-keys [] = refl
members_with-keys (x ∷ xs) = ap (λ (rest : Members). put x.keyid (key_member x).1 rest) (members_with-keys xs)

-- one role after another
pub keys_in_turn : (file : RootFile) → object_with (map key_member (all_keys file)) ≡ object (put_keys file.root.keys (put_keys file.targets.keys (put_keys file.snapshot.keys (put_keys file.timestamp.keys no_members))))
keys_in_turn file =
    ap object (members_with-keys (all_keys file)
    ∙ put_keys-append (file.root.keys ++ file.targets.keys ++ file.snapshot.keys) file.timestamp.keys no_members
    ∙ put_keys-append (file.root.keys ++ file.targets.keys) file.snapshot.keys (put_keys file.timestamp.keys no_members)
    ∙ put_keys-append file.root.keys file.targets.keys (put_keys file.snapshot.keys (put_keys file.timestamp.keys no_members)))
