-- What is told of the keys in a text that was found.
use Rattle.std.proofs.Common.{◌≡◌, ℕ, List, Bool, Option, Ok, Err, Result, IfOk, IfErr, refl, sym, ap, subst, ◌∙◌, codes}
use Rattle.sqlite.specs.State.{State}
use Rattle.up_roles.specs.declared.repository.Repository.TheVariants.{Director}
use Rattle.up_rows.specs.Lookups.{text_held}
use Rattle.up_rows.specs.StateRows.{StateRows}
use Rattle.up_tables.specs.declared.open.SchemaVersion.{SchemaVersion}
use Rattle.up_tables.specs.Stands.{IfClean}
use Rattle.up_store.specs.Connections.{KeepsAs}
use Rattle.up_file.specs.Schemes.{are_keys_of}

pub keys_told : {E F : Type 0} (fault : F) (old : State) (method : List ℕ) (found : Option (List ℕ)) (answer : Result Bool E) (result : Result Bool F)
    → IfOk answer (λ all. all ≡ are_keys_of method found) → ((all : Bool) → answer ≡ Ok all → result ≡ Ok all) → IfErr answer (λ _. result ≡ Err fault)
    → ((version : SchemaVersion) (rows : StateRows) → IfClean (KeepsAs version rows) old → found ≡ text_held rows Director (codes "root.json"))
    → IfOk result (λ told. (version : SchemaVersion) (rows : StateRows) → IfClean (KeepsAs version rows) old → told ≡ are_keys_of method (text_held rows Director (codes "root.json")))
keys_told fault old method found (Ok all) result is told memory there =
    subst (λ r. IfOk r (λ told. (version : SchemaVersion) (rows : StateRows) → IfClean (KeepsAs version rows) old → told ≡ are_keys_of method (text_held rows Director (codes "root.json"))))
    (sym (told all refl)) (λ version rows keeps. is ∙ ap (are_keys_of method) (there version rows keeps))
keys_told fault old method found (Err e) result is told memory there =
    subst (λ r. IfOk r (λ told. (version : SchemaVersion) (rows : StateRows) → IfClean (KeepsAs version rows) old → told ≡ are_keys_of method (text_held rows Director (codes "root.json"))))
    (sym memory) tt
