use Rattle.std.proofs.Common.{◌≡◌, None, length, refl, sym, ap, ◌∙◌, arith}
use Rattle.std.specs.Prelude.{option_map}
use Rattle.up_machine.specs.State.{Chain, root_number, image_root_number, key_set}
use Rattle.up_machine.specs.Rows.{founding_row}
use Rattle.up_machine.proofs.Decided.{keys_passed}
use Rattle.up_machine.proofs.Keeping.{there}
use Rattle.up_machine.proofs.FoundingRows.{none_there, unfounded, has_files, root_is_due}
use Rattle.up_machine.proofs.RootDecisions.{found_again, found_done}
use Rattle.up_machine.proofs.decide_root.first_root.Goals as goal

pub returns-then-is_founded-clause-decided : goal.returns-then-is_founded-clause-decided
returns-then-is_founded-clause-decided c = λ k at keys moment good s sound founded.
    let some = there (founding_row s) (sym founded ∙ c.if-is_founded.true) in
    found_again k s at keys moment good (has_files s some.0 (sym some.1))

pub returns-clause-decided : goal.returns-clause-decided
returns-clause-decided c = λ k at keys moment good s sound founded.
    let none = unfounded s (sym (none_there (founding_row s) (sym founded ∙ c.if-is_founded.false))) in
    let first : root_number s ≡ 0 = ap (λ (chain : Chain). length chain.texts) (sound.repositories.unfounded none).director_is in
    let image_first : image_root_number s ≡ 0 = ap (λ (chain : Chain). length chain.texts) (sound.repositories.unfounded none).image_is in
    (found_done k s at keys moment good none, root_is_due k s at keys 1 1 1 c.args.hashed None (omega (arith, first)) (omega (arith, image_first)) (sym (ap (option_map (λ files. key_set s)) none)))

pub returns-clause-fits : goal.returns-clause-fits
returns-clause-fits c = λ k at keys moment good hashed.
    record { keys_fit = keys_passed k keys _ good; hashed = hashed; before = tt; number = refl; image_number = refl; version = refl; moment = moment }
