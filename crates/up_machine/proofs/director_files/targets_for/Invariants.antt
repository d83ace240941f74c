use Rattle.std.proofs.Common.{◌≡◌, take, true}
use Rattle.std.specs.Prelude.{filter_map}
use Rattle.std.specs.List.{list_all}
use Rattle.up_roles.specs.declared.repository.Repository.TheVariants.{Director}
use Rattle.up_roles.specs.Targets.{target_fits}
use Rattle.up_machine.specs.ManifestRows.{target_for}
use Rattle.up_machine.proofs.director_files.targets_for.Given as goal

abbrev pub invariant-loop-a : goal.invariant-loop-a
invariant-loop-a l = record {
  value : l.targets.items ≡ filter_map (target_for l.images) (take l.a-index l.assigned);
  fit : list_all (target_fits Director) l.targets.items ≡ true;
}
