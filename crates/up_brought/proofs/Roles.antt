-- What holds of the keys of each role holds of all of them.
use Rattle.std.proofs.Common.{◌≡◌, List, ◌++◌, Bool, ap, ◌∙◌}
use Rattle.std.specs.Prelude.{◌&&◌}
use Rattle.std.specs.List.{list_all}
use Rattle.std.proofs.lemmas.List.Folds.{list_all-append}

pub each_role : {X : Type 0} (p : X → Bool) (a b c d : List X) → list_all p (a ++ (b ++ (c ++ d))) ≡ (list_all p a && (list_all p b && (list_all p c && list_all p d)))
each_role p a b c d =
    list_all-append p a (b ++ (c ++ d))
    ∙ ap (λ x. list_all p a && x) (list_all-append p b (c ++ d) ∙ ap (λ x. list_all p b && x) (list_all-append p c d))
