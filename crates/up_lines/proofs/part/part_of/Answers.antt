use Rattle.std.proofs.Common.{inl, inr, [], ◌∷◌, refl, sym, append-nil}
use Rattle.up_lines.specs.Lines.{newline}
use Rattle.up_lines.proofs.part.part_of.Goals as goal

pub returns-in-Some : goal.returns-in-Some
returns-in-Some c = (
  record {
    part = c.in-Some.line.now;
    rest = newline ∷ c.in-Some.field-0-1.now;
    piece_is = c.in-Some.ensures.1;
    own = c.in-Some.ensures.0;
    ends = inr (c.in-Some.field-0-1.now, refl);
  },
  refl,
)

pub returns-in-None : goal.returns-in-None
returns-in-None c = (record { part = c.args.piece.now; rest = []; piece_is = sym (append-nil c.args.piece.now); own = c.in-None.ensures; ends = inl refl }, refl)
