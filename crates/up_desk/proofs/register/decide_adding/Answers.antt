use Rattle.std.proofs.Common.{◌≡◌, ◌+◌, ℕ, Err, Ok, ap, refl, subst, ◌∙◌}
use Rattle.std.specs.Prelude.{IfSome, IsTrue}
use Rattle.std.specs.FinMap as table
use Rattle.up_plan.specs.Images.{ImageData}
use Rattle.up_machine.specs.declared.decision.Decision.TheVariants.{Already, New}
use Rattle.up_machine.specs.Decisions.{GivesRows, HasRegisterRows, IsDone}
use Rattle.up_machine.specs.Due.{GivesNewImage}
use Rattle.up_machine.specs.Repositories.{decide_image, stamped, with_image}
use Rattle.up_machine.specs.RowsFit.{founding_fits}
use Rattle.up_records.proofs.NeverStore.{never_image}
use Rattle.up_records.proofs.Sessions.{decides_on, due_on, fails_on, none_on, rows_on, then_on}
use Rattle.up_desk.proofs.Due.{new_rows, rows_refused, when_there}
use Rattle.up_desk.proofs.Standings.{or_memory}
use Rattle.up_desk.proofs.register.decide_adding.Goals as goal

pub returns-in-Ok-Already : goal.returns-in-Ok-Already
returns-in-Ok-Already g c inside =
    let G = g.D.Store in
    let k = g.K.Scheme.rules c.args.scheme.now in
    let image = c.args.image.now in
    decides_on G (then_on G (then_on G (none_on G inside) c.in-Ok.ensures.found) (rows_on G _ (λ j s x is. is) c.in-Ok-find_image.ensures)) (g.K.Scheme.rules c.args.scheme.now) refl (Ok Already) (λ s. never_image k s c.args.at image) (λ s r h. h)
    (λ s sound _ found. when_there k s c.args.at image c.in-Ok-Already.field-0 (decide_image k s c.args.at image) c.in-Ok-Already.field-0-is
    (subst (λ (at : ℕ). GivesNewImage k s at image (Ok c.in-Ok-Already.field-0) (decide_image k s at image)) c.moment-at.ensures.value
    (c.in-Ok-Already.ensures.decided k s found.0.1 (c.as_ref.ensures.value ∙ found.1 ∙ ap (λ (d : ImageData). table.get s.images d.file) c.image.view_is))))

pub returns-in-Err : goal.returns-in-Err
returns-in-Err g c inside = let G = g.D.Store in fails_on G (none_on G inside) (g.K.Scheme.rules c.args.scheme.now) refl c.refusal_of.ensures c.in-Err.ensures.found

pub returns-in-Err-find_image : goal.returns-in-Err-find_image
returns-in-Err-find_image g c inside =
    let G = g.D.Store in
    fails_on G (then_on G (none_on G inside) c.in-Ok.ensures.found) (g.K.Scheme.rules c.args.scheme.now) refl c.refusal_of-in-Err-find_image.ensures (rows_on G _ (λ j s x is. is) c.in-Err-find_image.ensures)

pub returns-in-Err-decide_image : goal.returns-in-Err-decide_image
returns-in-Err-decide_image g c inside =
    let G = g.D.Store in
    let k = g.K.Scheme.rules c.args.scheme.now in
    let image = c.args.image.now in
    due_on G (then_on G (then_on G (none_on G inside) c.in-Ok.ensures.found) (rows_on G _ (λ j s x is. is) c.in-Ok-find_image.ensures)) (g.K.Scheme.rules c.args.scheme.now) refl (λ s. never_image k s c.args.at image)
    (λ s sound _ found. or_memory _ (subst (λ (at : ℕ). decide_image k s at image ≡ Err c.in-Err-decide_image.refusal) c.moment-at.ensures.value
    (c.in-Err-decide_image.ensures.decided k s found.0.1 (c.as_ref.ensures.value ∙ found.1 ∙ ap (λ (d : ImageData). table.get s.images d.file) c.image.view_is))))

pub returns-in-Ok-find_images : goal.returns-in-Ok-find_images
returns-in-Ok-find_images g c inside =
    let G = g.D.Store in
    let k = g.K.Scheme.rules c.args.scheme.now in
    let image = c.args.image.now in
    let made = c.in_ok-decide_new_image-in-Ok-find_images.field-0 in
    decides_on G (then_on G (then_on G (then_on G (none_on G inside) c.in-Ok.ensures.found) (rows_on G _ (λ j s x is. is) c.in-Ok-find_image.ensures)) (rows_on G _ (λ j s x is. is) c.in-Ok-find_images.ensures)) k refl (Ok (New made)) (λ s. never_image k s c.args.at image) (λ s r h. h)
    (λ s sound _ found. subst (λ (at : ℕ). IsDone (HasRegisterRows (stamped k (with_image s image) at (s.image_version + 1))) (stamped k (with_image s image) at (s.image_version + 1)) made (decide_image k s at image)) c.moment-at.ensures.value
    (new_rows k (HasRegisterRows (stamped k (with_image s image) c.moment-at.result (s.image_version + 1))) (stamped k (with_image s image) c.moment-at.result (s.image_version + 1)) s c.moment-at.result image c.in-Ok-New.field-0 c.in-Ok-New.founding (decide_image k s c.moment-at.result image) (Ok made) c.in-Ok-New.field-0-is
    (c.in-Ok-New.ensures.decided k s found.0.0.1 (c.as_ref.ensures.value ∙ found.0.1 ∙ ap (λ (d : ImageData). table.get s.images d.file) c.image.view_is))
    (λ founded new. c.in_ok-decide_new_image-in-Ok-find_images.ensures.decided s sound founded found.1 new)))

pub returns-in_err-decide_new_image-in-Ok-find_images : goal.returns-in_err-decide_new_image-in-Ok-find_images
returns-in_err-decide_new_image-in-Ok-find_images g c inside =
    let G = g.D.Store in
    let k = g.K.Scheme.rules c.args.scheme.now in
    let image = c.args.image.now in
    let refusal = c.in_err-decide_new_image-in-Ok-find_images.field-0.0 in
    decides_on G (then_on G (then_on G (then_on G (none_on G inside) c.in-Ok.ensures.found) (rows_on G _ (λ j s x is. is) c.in-Ok-find_image.ensures)) (rows_on G _ (λ j s x is. is) c.in-Ok-find_images.ensures)) k refl c.from_residual.result (λ s. never_image k s c.args.at image) (λ s r h. h)
    (λ s sound _ found. rows_refused (HasRegisterRows (stamped k (with_image s image) c.args.at (s.image_version + 1))) s (stamped k (with_image s image) c.args.at (s.image_version + 1)) c.from_residual.result refusal (decide_image k s c.args.at image) c.from_residual.ensures.1
    (subst (λ (at : ℕ). GivesRows (HasRegisterRows (stamped k (with_image s image) at (s.image_version + 1))) (stamped k (with_image s image) at (s.image_version + 1)) (Err refusal) (decide_image k s at image)) c.moment-at.ensures.value
    (new_rows k (HasRegisterRows (stamped k (with_image s image) c.moment-at.result (s.image_version + 1))) (stamped k (with_image s image) c.moment-at.result (s.image_version + 1)) s c.moment-at.result image c.in-Ok-New.field-0 c.in-Ok-New.founding (decide_image k s c.moment-at.result image) (Err refusal) c.in-Ok-New.field-0-is
    (c.in-Ok-New.ensures.decided k s found.0.0.1 (c.as_ref.ensures.value ∙ found.0.1 ∙ ap (λ (d : ImageData). table.get s.images d.file) c.image.view_is))
    (λ founded new. c.in_err-decide_new_image-in-Ok-find_images.ensures.decided s sound founded found.1 new))))

pub decide_new_image-requires-clause-keys : goal.decide_new_image-requires-clause-keys
decide_new_image-requires-clause-keys g c =
    let same = c.in-Ok-New.ensures.same c.in-Ok-New.founding (ap (λ d. Ok d) c.in-Ok-New.field-0-is) in
    subst (λ o. IfSome o (λ f. IsTrue (founding_fits (g.K.Scheme.rules c.args.scheme.now) f))) same c.in-Ok.ensures.fits

pub returns : goal.returns
returns g c inside =
    let G = g.D.Store in
    fails_on G (then_on G (then_on G (none_on G inside) c.in-Ok.ensures.found) (rows_on G _ (λ j s x is. is) c.in-Ok-find_image.ensures)) (g.K.Scheme.rules c.args.scheme.now) refl c.refusal_of-in-Err-find_images.ensures
    (rows_on G _ (λ j s x is. is) c.in-Err-find_images.ensures)
