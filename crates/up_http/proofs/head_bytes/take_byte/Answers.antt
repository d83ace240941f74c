use Rattle.std.proofs.Common.{◌≡◌, ◌++◌, [], ◌∷◌, ◌∙◌, sym, subst, rules}
use Rattle.up_heads.specs.Fronts.{Fronts}
use Rattle.up_http.specs.Parts.{ReadsByte}
use Rattle.up_heads.specs.declared.heads.Front.TheVariants.{Cut}
use Rattle.up_http.proofs.TakenBytes.{reads_inside, reads_blank, reads_front}
use Rattle.up_http.proofs.head_bytes.take_byte.Goals as goal

pub returns-then-byte-ne10-clause-stands : goal.returns-then-byte-ne10-clause-stands
returns-then-byte-ne10-clause-stands c =
    let is : c.push.new.self.items ≡ c.args.head.now.items ++ c.args.byte ∷ [] = search rules in
    subst (λ b. ReadsByte c.push.new.self.items b Cut) (sym c.has_begun-begun.ensures) (reads_inside c.args.head.now.items _ c.args.byte c.args.begun c.requires.begins c.if-byte-ne10.true is)

pub returns-then-not-begun-clause-stands : goal.returns-then-not-begun-clause-stands
returns-then-not-begun-clause-stands c =
    let is : c.push.new.self.items ≡ c.args.head.now.items ++ c.args.byte ∷ [] = search rules in
    reads_blank c.args.head.now.items _ c.args.byte c.args.begun c.requires.begins (sym c.has_begun-begun.ensures ∙ c.if-not-begun.true) is

pub returns-clause-stands : goal.returns-clause-stands
returns-clause-stands c =
    let is : c.push.new.self.items ≡ c.args.head.now.items ++ c.args.byte ∷ [] = search rules in
    reads_front c.args.head.now.items _ c.args.byte c.args.begun c.front_of.result c.requires.begins is (subst (λ l. Fronts l c.front_of.result) c.as_slice.ensures.value c.front_of.ensures)
