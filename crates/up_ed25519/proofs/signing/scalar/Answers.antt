use Rattle.std.proofs.Common.{sym, arith}
use Rattle.std.proofs.lemmas.List.{length-take-le}
use Rattle.up_ed25519.proofs.signing.scalar.Goals as goal

pub slice_bounds-half-end : goal.slice_bounds-half-end
slice_bounds-half-end c = sym (length-take-le 32 c.args.hash.now (omega (arith, c.told-hash)))

pub clamped-requires : goal.clamped-requires
clamped-requires c = length-take-le 32 c.args.hash.now (omega (arith, c.told-hash))
