use Rattle.std.proofs.Common.{◌≡◌, ◌+◌, ◌<◌, ◌≤◌, sym, ap, ◌∙◌, subst, arith, refl}
use Rattle.std.specs.Prelude.{insert}
use Rattle.std.specs.FinMap as table
use Rattle.up_canon.specs.Canon.{max_count}
use Rattle.up_machine.specs.Registers.{place_among}
use Rattle.up_machine.specs.Due.{CanMakeFiles}
use Rattle.up_machine.specs.Repositories.{stamped, with_image}
use Rattle.up_machine.specs.Decisions.{HasRegisterRows}
use Rattle.up_machine.proofs.Registers.{values_insert}
use Rattle.up_machine.proofs.NewFiles.{files_can_be_made}
use Rattle.up_machine.proofs.FoundingRows.{founding_of, row_with, files_of, files_are_due, register_rows_hold}
use Rattle.up_machine.proofs.RootDecisions.{image_full, image_limit, image_done}
use Rattle.up_machine.proofs.decide_register.decide_new_image.Goals as goal

pub returns-then-len-ge-MAX_IMAGES-clause-decided : goal.returns-then-len-ge-MAX_IMAGES-clause-decided
returns-then-len-ge-MAX_IMAGES-clause-decided g c = λ s sound row images none.
    let size : c.len.result ≡ table.len s.images = c.len.ensures ∙ ap (λ t. table.len t) images in
    let test = c.if-len-ge-MAX_IMAGES.true in
    let full : 1024 ≤ table.len s.images = omega (arith, size, test) in
    image_full (g.K.Scheme.rules c.args.scheme.now) s c.args.at c.args.image.now full

pub returns-then-founding-ge-MAX_COUNT-clause-decided : goal.returns-then-founding-ge-MAX_COUNT-clause-decided
returns-then-founding-ge-MAX_COUNT-clause-decided g c = λ s sound row images none.
    let of = founding_of s c.args.founding (sym row) in
    let size : c.len.result ≡ table.len s.images = c.len.ensures ∙ ap (λ t. table.len t) images in
    let test = c.if-len-ge-MAX_IMAGES.false in
    let room : table.len s.images < 1024 = omega (arith, size, test) in
    let version = ap (λ f. f.image_version) of.1 in
    let test = c.if-founding-ge-MAX_COUNT.true in
    let limit : max_count ≤ s.image_version = omega (arith, version, test) in
    image_limit (g.K.Scheme.rules c.args.scheme.now) s c.args.at c.args.image.now room limit

pub rows_with_image-requires : goal.rows_with_image-requires
rows_with_image-requires g c =
    let k = g.K.Scheme.rules c.args.scheme.now in
    let test = c.if-founding-ge-MAX_COUNT.false in
    subst (CanMakeFiles k) (sym c.with_version-founding.ensures)
    (files_can_be_made k (row_with c.args.founding (c.args.founding.image_version + 1) c.args.at) c.requires.keys (omega arith) (omega (arith, test)) c.requires.moment)

pub returns-clause-decided : goal.returns-clause-decided
returns-clause-decided g c = λ s sound row images none.
    let k = g.K.Scheme.rules c.args.scheme.now in
    let at = c.args.at in
    let image = c.args.image.now in
    let of = founding_of s c.args.founding (sym row) in
    let size : c.len.result ≡ table.len s.images = c.len.ensures ∙ ap (λ t. table.len t) images in
    let test = c.if-len-ge-MAX_IMAGES.false in
    let room : table.len s.images < 1024 = omega (arith, size, test) in
    let version : c.args.founding.image_version ≡ s.image_version = ap (λ f. f.image_version) of.1 in
    let test = c.if-founding-ge-MAX_COUNT.false in
    let below : s.image_version < max_count = omega (arith, version, test) in
    let values : c.values.result.now ≡ table.values s.images = c.values.ensures ∙ ap (λ t. table.values t) images in
    let placed-images = insert c.values.result.now (place_among image.file c.values.result.now) image in
    let placed : placed-images ≡ table.values (table.insert s.images image.file image) =
    ap (λ xs. insert xs (place_among image.file xs) image) values
    ∙ sym (values_insert s.images image (λ file image is. (sound.repositories.each_image file image is).named) none) in
    let founding = c.with_version-founding.ensures ∙ ap (λ v. row_with c.args.founding (v + 1) at) version in
    let next = stamped k (with_image s image) at (s.image_version + 1) in
    let new = row_with c.args.founding (s.image_version + 1) at in (
      image_done k s at image room below,
      subst (HasRegisterRows next) (sym (c.in_ok-rows_with_image.ensures ∙ ap (λ f. record { founding = f; files = files_of k f placed-images }) founding ∙ ap (λ xs. record { founding = new; files = files_of k new xs }) placed))
          (register_rows_hold k next new (files_are_due k s (table.insert s.images image.file image) at (s.image_version + 1) c.args.founding row) refl),
    )
