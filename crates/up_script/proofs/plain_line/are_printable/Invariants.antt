use Rattle.std.proofs.Common.{◌≡◌, drop}
use Rattle.std.specs.Prelude.{◌&&◌}
use Rattle.up_canon.specs.Canon.{is_printable_text}
use Rattle.up_script.proofs.plain_line.are_printable.Given as goal

-- the bytes that are left decide, where those before them fit
abbrev pub invariant-loop-byte : goal.invariant-loop-byte
invariant-loop-byte l = (l.fits && is_printable_text (drop l.byte-index l.bytes)) ≡ is_printable_text l.bytes
