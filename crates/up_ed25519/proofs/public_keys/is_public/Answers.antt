use Rattle.std.proofs.Common.{if◌then◌else◌, length, None, ne_eqb, sym, ap, ◌∙◌}
use Rattle.up_curve.proofs.Decode.{number, decode, point_of}
use Rattle.up_curve.proofs.Order.{is_public}
use Rattle.up_curve.specs.Keys.{is_in_subgroup}
use Rattle.up_ed25519.proofs.public_keys.is_public.Goals as goal

pub returns-then-bytes-ne32 : goal.returns-then-bytes-ne32
unfolding is_public decode
returns-then-bytes-ne32 c =
    sym (ap (λ t. is_in_subgroup (if t then point_of (number c.args.bytes.now) else None)) (ne_eqb (length c.args.bytes.now) 32 c.if-bytes-ne32.true))

pub returns-in-Some : goal.returns-in-Some
unfolding is_public
returns-in-Some c =
    c.is_in_subgroup.ensures c.in-Some.ensures.point c.in-Some.ensures.writes ∙ sym (ap is_in_subgroup c.in-Some.ensures.is)

pub returns-in-None : goal.returns-in-None
unfolding is_public
returns-in-None c = sym (ap is_in_subgroup c.in-None.ensures)
