use Rattle.std.proofs.Common.{◌≡◌, ◌++◌, ◌∷◌, [], All, map, drop, pos}
use Rattle.up_store.proofs.Common.{enumerate_from, Int, Text, Blob, FitRoleKey, role_key_row, repository_word}
use Rattle.up_store.proofs.keys.make_role.Given as goal

abbrev pub invariant-loop-place : goal.invariant-loop-place
invariant-loop-place l =
    (map role_key_row l.fn.made.items ++ map (λ key. Int (pos l.root) ∷ Text (repository_word l.repository) ∷ Text l.role ∷ Int (pos key.0) ∷ Blob key.1 ∷ Int (pos l.keys.threshold) ∷ []) (enumerate_from 0 l.key-items)
    ≡ map role_key_row l.made.items ++ map (λ key. Int (pos l.root) ∷ Text (repository_word l.repository) ∷ Text l.role ∷ Int (pos key.0) ∷ Blob key.1 ∷ Int (pos l.keys.threshold) ∷ []) (enumerate_from l.place (drop l.place l.key-items)))
    × All FitRoleKey l.made.items
