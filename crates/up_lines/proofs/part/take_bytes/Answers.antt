use Rattle.std.proofs.Common.{inr, ◌<◌, refl, arith, length-append}
use Rattle.std.proofs.lemmas.Grind.{common_steps}
use Rattle.up_lines.specs.Lines.{most_lines}
use Rattle.up_lines.proofs.Short.{part_some}
use Rattle.up_lines.proofs.part.take_bytes.Goals as goal

pub returns-then-len-part_of-gt-MOST_LINE_BYTES-clause-err :
    goal.returns-then-len-part_of-gt-MOST_LINE_BYTES-clause-err
returns-then-len-part_of-gt-MOST_LINE_BYTES-clause-err c =
    let (p, long) = c.part_of.ensures in
    (refl, inr (p, grind (arith, common_steps, c.if-len-part_of-gt-MOST_LINE_BYTES.true, c.len.ensures, long, length-append c.args.progress.now.line.items p.part)))

pub returns-then-is_err-clause-err : goal.returns-then-is_err-clause-err
returns-then-is_err-clause-err c =
    let (p, long) = c.part_of.ensures in
    let room : c.args.progress.now.counted < most_lines = grind (arith, common_steps, c.if-progress-eq-MOST_LINES.false, c.args.progress.now.few) in
    let bare = c.args.progress.now.room (grind (arith, common_steps, c.reserve_exact.ensures, c.if-is_err.ensures, c.if-is_err.true, c.is_err.ensures, c.len-2.ensures, c.len.ensures, c.if-len-part_of-gt-MOST_LINE_BYTES.false)) in (
      refl,
      (
        p,
        part_some c.args.piece.now p (grind (arith, common_steps, c.is_empty.ensures, c.if-is_empty.false)) (c.requires.begun bare.0 room),
        grind (arith, common_steps, c.if-len-part_of-gt-MOST_LINE_BYTES.false, c.len.ensures, long),
        room,
        bare.0,
        bare.1,
      ),
    )

pub returns-clause-ok : goal.returns-clause-ok
returns-clause-ok c =
    let (p, long) = c.part_of.ensures in
    record {
      grown = grind (arith, common_steps, c.extend_from_slice.ensures, c.reserve_exact.ensures, c.unwrap.ensures);
      counted_is = refl;
      answered_is = refl;
      begun = p;
      short = λ some. grind (arith, common_steps, c.if-len-part_of-gt-MOST_LINE_BYTES.false, c.len.ensures, long, length-append c.args.progress.now.line.items p.part);
    }
