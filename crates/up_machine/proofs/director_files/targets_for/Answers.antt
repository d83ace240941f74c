use Rattle.std.proofs.Common.{◌≡◌, ◌++◌, ◌∷◌, [], Some, None, option_map, ap, sym, ◌∙◌, arith}
use Rattle.std.specs.FinMap as table
use Rattle.std.specs.List.{list_all}
use Rattle.up_roles.specs.declared.repository.Repository.TheVariants.{Director}
use Rattle.up_roles.specs.Targets.{target_fits}
use Rattle.up_machine.specs.Files.{target_of}
use Rattle.up_machine.specs.ManifestRows.{target_for}
use Rattle.up_machine.proofs.Taken.{passed_over, taken, all_and_one}
use Rattle.up_machine.proofs.director_files.targets_for.Goals as goal

pub loop-a-preserved-in_default : goal.loop-a-preserved-in_default
loop-a-preserved-in_default c =
    let none : table.get c.args.images.now c.a-item.result.file ≡ None = ap (table.get c.args.images.now) (sym c.text.ensures.value) ∙ sym c.get.ensures ∙ ap (option_map (λ v. v.now)) c.in_default.is in
    record {
      value = c.loop-a.invariant.value
          ∙ sym (passed_over (target_for c.args.images.now) c.args.assigned.now c.loop-a.a-index c.a-item.result (omega arith) c.a-item.is (ap (option_map (target_of (Some c.a-item.result.ecu))) none));
      fit = c.loop-a.invariant.fit;
    }

pub loop-a-preserved : goal.loop-a-preserved
loop-a-preserved c =
    let some : table.get c.args.images.now c.a-item.result.file ≡ Some c.in-Some.image.now = ap (table.get c.args.images.now) (sym c.text.ensures.value) ∙ sym c.get.ensures ∙ ap (option_map (λ v. v.now)) c.in-Some.is in
    record {
      value = c.in_ok-push.ensures.items ∙ ap (λ t. c.loop-a.targets.items ++ t ∷ []) c.in_ok-target.ensures.value ∙ ap (λ ts. ts ++ target_of (Some c.a-item.result.ecu) c.in-Some.image.now ∷ []) c.loop-a.invariant.value
          ∙ sym (taken (target_for c.args.images.now) c.args.assigned.now c.loop-a.a-index c.a-item.result _ (omega arith) c.a-item.is (ap (option_map (target_of (Some c.a-item.result.ecu))) some));
      fit = ap (list_all (target_fits Director)) c.in_ok-push.ensures.items ∙ all_and_one (target_fits Director) c.loop-a.targets.items c.in_ok-target.field-0 c.loop-a.invariant.fit c.in_ok-target.ensures.fits;
    }
