use Rattle.std.proofs.Common.{◌≡◌, true, false, Some, None, sym, ap, ◌∙◌}
use Rattle.std.specs.Prelude.{option_copied}
use Rattle.std.specs.FinMap as table
use Rattle.up_machine.specs.Repositories.{same_image}
use Rattle.up_machine.proofs.FoundingRows.{unfounded, has_files}
use Rattle.up_machine.proofs.RootDecisions.{image_unfounded, image_there, image_taken, image_new}
use Rattle.up_machine.proofs.decide_register.decide_image.Goals as goal

pub returns-in_default-clause-decided : goal.returns-in_default-clause-decided
returns-in_default-clause-decided c = λ k s row old.
    image_unfounded k s c.args.at c.args.image.now c.requires (unfounded s (sym c.in_default.is ∙ row))

pub returns-then-same_image-clause-decided : goal.returns-then-same_image-clause-decided
returns-then-same_image-clause-decided c = λ k s row old.
    let found : table.get s.images c.args.image.now.file ≡ Some c.in-Some-old.old.now = sym old ∙ ap option_copied c.in-Some-old.is in
    let same : same_image c.args.image.now c.in-Some-old.old.now ≡ true = sym c.same_image.ensures ∙ c.if-same_image.true in
    image_there k s c.args.at c.args.image.now c.in-Some-old.old.now c.requires (has_files s c.in-Some.founding (sym c.in-Some.is ∙ row)) found same

pub returns-else-same_image-clause-decided : goal.returns-else-same_image-clause-decided
returns-else-same_image-clause-decided c = λ k s row old.
    let found : table.get s.images c.args.image.now.file ≡ Some c.in-Some-old.old.now = sym old ∙ ap option_copied c.in-Some-old.is in
    let other : same_image c.args.image.now c.in-Some-old.old.now ≡ false = sym c.same_image.ensures ∙ c.if-same_image.false in
    image_taken k s c.args.at c.args.image.now c.in-Some-old.old.now c.requires (has_files s c.in-Some.founding (sym c.in-Some.is ∙ row)) found other

pub returns-in-None-clause-decided : goal.returns-in-None-clause-decided
returns-in-None-clause-decided c = λ k s row old.
    let there = sym c.in-Some.is ∙ row in
    let none : table.get s.images c.args.image.now.file ≡ None = sym old ∙ ap option_copied c.in-None.is in
    (sym there, none, image_new k s c.args.at c.args.image.now c.requires (has_files s c.in-Some.founding there) none)
