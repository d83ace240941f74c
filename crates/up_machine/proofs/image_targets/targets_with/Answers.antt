use Rattle.std.proofs.Common.{◌≡◌, ◌≤◌, length, true, None, sym, ap, ◌∙◌, arith}
use Rattle.std.specs.List.{list_all}
use Rattle.std.proofs.lemmas.List.{length-map}
use Rattle.up_roles.specs.declared.repository.Repository.TheVariants.{Image}
use Rattle.up_roles.specs.Targets.{target_fits}
use Rattle.up_machine.specs.Files.{target_of}
use Rattle.up_machine.specs.Registers.{place_among}
use Rattle.up_machine.proofs.Registers.{map_insert, all_insert}
use Rattle.up_machine.proofs.image_targets.targets_with.Goals as goal

pub insert-requires : goal.insert-requires
insert-requires c =
    let size : length c.into_vec-targets.result.items ≡ length c.args.images.now =
    ap length (c.into_vec-targets.ensures ∙ c.in_ok-image_targets.ensures.value) ∙ length-map c.args.images.now (target_of None) in
    let within : c.place_among-place.result ≤ length c.args.images.now = c.place_among-place.ensures.within in
    omega (arith, size, within)

pub returns-clause-value : goal.returns-clause-value
returns-clause-value c =
    let place : c.place_among-place.result ≡ place_among c.args.new.now.file c.args.images.now =
    c.place_among-place.ensures.value ∙ ap (λ file. place_among file c.args.images.now) (c.text.ensures.value ∙ ap (λ i. i.file) c.new.view_is) in
    let targets = c.into_vec-targets.ensures ∙ c.in_ok-image_targets.ensures.value in
    rw (c.new-2.ensures, c.in_ok-insert.ensures.items, targets, place, c.in_ok-target.ensures.value) (sym (map_insert (target_of None) c.args.images.now (place_among c.args.new.now.file c.args.images.now) c.args.new.now))

pub returns-clause-fit : goal.returns-clause-fit
returns-clause-fit c =
    let fit : list_all (target_fits Image) c.into_vec-targets.result.items ≡ true = ap (list_all (target_fits Image)) c.into_vec-targets.ensures ∙ c.in_ok-image_targets.ensures.fit in
    let here : target_fits Image c.in_ok-target.target ≡ true = ap (target_fits Image) c.in_ok-target.ensures.value ∙ c.in_ok-target.ensures.fits in
    ap (list_all (target_fits Image)) (c.new-2.ensures ∙ c.in_ok-insert.ensures.items)
    ∙ all_insert (target_fits Image) c.into_vec-targets.result.items c.place_among-place.result c.in_ok-target.target fit here
