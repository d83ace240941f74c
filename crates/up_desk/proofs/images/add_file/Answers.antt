use Rattle.std.proofs.Common.{Err, refl, sym, ap, ◌∙◌}
use Rattle.std.specs.FinMap as table
use Rattle.up_records.proofs.Sessions.{all_on, lost_on, made_on, none_on, rows_on, then_on}
use Rattle.up_desk.specs.Gathered.{with_image_found}
use Rattle.up_desk.proofs.LookedUp.{found_before, if_ok_on}
use Rattle.up_desk.proofs.images.add_file.Goals as goal

pub returns-then-contains : goal.returns-then-contains
returns-then-contains g c inside =
    all_on g.D.Store (none_on g.D.Store inside) _ _
    (λ k of s _ part. found_before s.images c.args.images.now c.args.file.now part (ap (table.contains_key c.args.images.now) (sym c.text.ensures.value) ∙ sym c.contains.ensures ∙ c.if-contains.true))

pub returns-in-Ok-Some : goal.returns-in-Ok-Some
returns-in-Ok-Some g c inside =
    let G = g.D.Store in
    made_on G (then_on G (none_on G inside) (rows_on G _ (λ k s x is. is) c.in-Ok-Some.ensures)) _ c.put_image.result c.put_image.ensures.memory
    (if_ok_on c.put_image.result c.put_image.ensures.put (λ is done k of s found part. is ∙ ap (with_image_found c.args.images.now c.args.file.now) (sym c.in-Ok-Some.field-0-is ∙ found.1)))

pub returns-in-Ok-None : goal.returns-in-Ok-None
returns-in-Ok-None g c inside =
    let G = g.D.Store in
    all_on G (then_on G (none_on G inside) (rows_on G _ (λ k s x is. is) c.in-Ok-None.ensures)) _ _
    (λ k of s found part. ap (with_image_found c.args.images.now c.args.file.now) (sym c.in-Ok-None.field-0-is ∙ found.1))

pub returns-in-Err : goal.returns-in-Err
returns-in-Err g c inside = let G = g.D.Store in lost_on G (none_on G inside) _ (Err c.in-Err.fault) refl (rows_on G _ (λ k s x is. is) c.in-Err.ensures)
