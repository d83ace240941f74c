use Rattle.std.proofs.Common.{ap, sym, ◌∙◌, arith}
use Rattle.std.specs.List.{list_all}
use Rattle.up_canon.proofs.ByteTests.{bytes_tested}
use Rattle.up_sign.specs.Schemes.{is_byte}
use Rattle.up_sign.proofs.writing.push_signature.Goals as goal

pub returns-clause-bytes : goal.returns-clause-bytes
returns-clause-bytes c = ap (list_all is_byte) (sym c.as_slice-sig.ensures) ∙ bytes_tested c.as_slice-sig.result.now (λ i. omega (arith, c.as_slice-sig.items_fit i))
