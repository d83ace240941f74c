use Rattle.std.proofs.Common.{◌≡◌, ◌+◌, ◌<◌, ◌≤◌, Some, sym, ◌∙◌, subst, arith}
use Rattle.std.specs.Prelude.{IfSome, IsTrue}
use Rattle.up_canon.specs.Canon.{max_count}
use Rattle.up_machine.specs.State.{root_number, image_root_number}
use Rattle.up_machine.specs.Repositories.{stamped, with_root}
use Rattle.up_machine.specs.RowsFit.{founding_fits}
use Rattle.up_machine.specs.Due.{HasRoot}
use Rattle.up_machine.proofs.Decided.{keys_passed}
use Rattle.up_machine.proofs.NewFiles.{version_in_limits}
use Rattle.up_machine.proofs.FoundingRows.{unfounded, has_files, root_number_is, image_root_number_is, as_full, version_number, old_before, root_is_due}
use Rattle.up_machine.proofs.RootDecisions.{rotate_unfounded, rotate_full, neither_full, rotate_limit, rotate_done}
use Rattle.up_machine.proofs.decide_root.next_root.Goals as goal

pub returns-in_default-clause-decided : goal.returns-in_default-clause-decided
returns-in_default-clause-decided c = λ k at keys moment good s sound row.
    rotate_unfounded k s at keys moment good (unfounded s (sym c.in_default.is ∙ row))

pub returns-then-are_roots_full-clause-decided : goal.returns-then-are_roots_full-clause-decided
returns-then-are_roots_full-clause-decided c = λ k at keys moment good s sound row.
    let there = sym c.in-Some.is ∙ row in
    let full = sym (as_full s c.in-Some.old there) ∙ sym c.are_roots_full.ensures ∙ c.if-are_roots_full.true in
    rotate_full k s at keys moment good (has_files s c.in-Some.old there) full

pub returns-then-old-ge-MAX_COUNT-clause-decided : goal.returns-then-old-ge-MAX_COUNT-clause-decided
returns-then-old-ge-MAX_COUNT-clause-decided c = λ k at keys moment good s sound row.
    let there = sym c.in-Some.is ∙ row in
    let room = sym (as_full s c.in-Some.old there) ∙ sym c.are_roots_full.ensures ∙ c.if-are_roots_full.false in
    let version = version_number s c.in-Some.old there in
    let test = c.if-old-ge-MAX_COUNT.true in
    let limit : max_count ≤ s.image_version = omega (arith, version, test) in
    rotate_limit k s at keys moment good (has_files s c.in-Some.old there) room limit

pub returns-clause-decided : goal.returns-clause-decided
returns-clause-decided c = λ k at keys moment good s sound row.
    let old = c.in-Some.old in
    let there = sym c.in-Some.is ∙ row in
    let number = root_number_is s old there in
    let image_number = image_root_number_is s old there in
    let room = sym (as_full s old there) ∙ sym c.are_roots_full.ensures ∙ c.if-are_roots_full.false in
    let version = version_number s old there in
    let test = c.if-old-ge-MAX_COUNT.false in
    let below : s.image_version < max_count = omega (arith, version, test) in
    let next : old.root + 1 ≡ root_number s + 1 = omega (arith, number) in
    let image_next : old.image_root + 1 ≡ image_root_number s + 1 = omega (arith, image_number) in
    let due = root_is_due k s at keys (s.image_version + 1) (old.root + 1) (old.image_root + 1) c.args.hashed (Some old.keys) next image_next (old_before s old there) in (
      rotate_done k s at keys moment good (has_files s old there) room below,
      subst (λ v. HasRoot k (stamped k (with_root k s at keys) at (s.image_version + 1)) at keys (record { number = old.root + 1; image_number = old.image_root + 1; version = v + 1; hashed = c.args.hashed; before = Some old.keys })) (sym version) due,
    )

pub returns-clause-fits : goal.returns-clause-fits
returns-clause-fits c = λ k at keys moment good hashed fit.
    let old = c.in-Some.old in
    let fits : IsTrue (founding_fits k old) = subst (λ o. IfSome o (λ f. IsTrue (founding_fits k f))) c.in-Some.is fit in
    let roots = neither_full old.root old.image_root (sym c.are_roots_full.ensures ∙ c.if-are_roots_full.false) in
    let director = roots.0 in
    let image = roots.1 in
    let versions = c.if-old-ge-MAX_COUNT.false in
    record {
      keys_fit = keys_passed k keys _ good;
      hashed = hashed;
      before = fits;
      number = version_in_limits (old.root + 1) (omega arith) (omega (arith, director));
      image_number = version_in_limits (old.image_root + 1) (omega arith) (omega (arith, image));
      version = version_in_limits (old.image_version + 1) (omega arith) (omega (arith, versions));
      moment = moment;
    }
