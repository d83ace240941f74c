use Rattle.std.proofs.Common.{◌<◌, ◌≤◌, sym, ap, ◌∙◌, subst, arith}
use Rattle.std.specs.Prelude.{IsTrue, IfSome}
use Rattle.up_machine.specs.Due.{CanMakeFiles}
use Rattle.up_machine.specs.RowsFit.{founding_fits}
use Rattle.up_machine.specs.Repositories.{stamped}
use Rattle.up_machine.specs.Due.{HasFounding}
use Rattle.up_machine.proofs.NewFiles.{files_can_be_made}
use Rattle.up_machine.proofs.FoundingRows.{founding_of, unfounded, has_files, row_with, files_are_due}
use Rattle.up_machine.proofs.RootDecisions.{refresh_unfounded, refresh_not_greater, refresh_done}
use Rattle.up_machine.proofs.decide_register.decide_refresh.Goals as goal

pub returns-in_default-clause-decided : goal.returns-in_default-clause-decided
returns-in_default-clause-decided c = λ k s row.
    refresh_unfounded k s c.args.at c.args.version c.requires (unfounded s (sym c.in_default.is ∙ row))

pub returns-then-get-old-clause-decided : goal.returns-then-get-old-clause-decided
returns-then-get-old-clause-decided c = λ k s row.
    let there = sym c.in-Some.is ∙ row in
    let of = founding_of s c.in-Some.old there in
    let version = ap (λ f. f.image_version) of.1 in
    let value = c.get.ensures.value in
    let test = c.if-get-old.true in
    let low : c.args.version ≤ s.image_version = omega (arith, version, value, test) in
    refresh_not_greater k s c.args.at c.args.version c.requires (has_files s c.in-Some.old there) low

pub returns-clause-decided : goal.returns-clause-decided
returns-clause-decided c = λ k s row.
    let there = sym c.in-Some.is ∙ row in
    let of = founding_of s c.in-Some.old there in
    let version = ap (λ f. f.image_version) of.1 in
    let value = c.get.ensures.value in
    let test = c.if-get-old.false in
    let above : s.image_version < c.args.version = omega (arith, version, value, test) in
    let founding = c.with_version.ensures ∙ ap (λ v. row_with c.in-Some.old v c.args.at) c.get-2.ensures.value in (
      refresh_done k s c.args.at c.args.version c.requires (has_files s c.in-Some.old there) above,
      subst (HasFounding (stamped k s c.args.at c.args.version)) (sym founding) (files_are_due k s s.images c.args.at c.args.version c.in-Some.old (sym there)),
    )

pub returns-clause-fits : goal.returns-clause-fits
returns-clause-fits c = λ k fit.
    let old = c.in-Some.old in
    let fits : IsTrue (founding_fits k old) = subst (λ o. IfSome o (λ f. IsTrue (founding_fits k f))) c.in-Some.is fit in
    let value = c.get.ensures.value in
    let value' = c.get-2.ensures.value in
    let most = c.get-2.ensures.limit in
    let test = c.if-get-old.false in
    subst (CanMakeFiles k) (sym c.with_version.ensures) (files_can_be_made k (row_with old c.get-2.result c.args.at) fits (omega (arith, value, value', test)) (omega (arith, most)) c.requires)
