-- What was written of a text, part by part.
use Rattle.std.proofs.Common.{◌≡◌, ℕ, ◌+◌, ◌-◌, ◌<◌, List, ◌++◌, length, take, drop, ap, sym, ◌∙◌, subst, arith, take-append-drop, length-drop}
use Rattle.std.specs.Prelude.{Option}
use Rattle.std.specs.Io.KnownBytes.{Appends, Keeps}
use Rattle.std.proofs.KnownBytes.{Appends-trans, Appends-kept}
use Rattle.std.proofs.Math.Seq.{take-add}
use Rattle.std.proofs.lemmas.Grind.{common_steps}
use Rattle.up_pieces.specs.Prefixes.{IsProperPrefix}

-- the rest of a text, as the code slices it
pub rest_is : (text : List ℕ) (at : ℕ) → take (length text - at) (drop at text) ≡ drop at text
rest_is text at = grind (arith, common_steps)

pub wrote_more : (a b c : Option (List ℕ)) (text : List ℕ) (at n : ℕ) → Appends a b (take at text) → Appends b c (take n (take (length text - at) (drop at text))) → Appends a c (take (at + n) text)
wrote_more a b c text at n before now =
    subst (Appends a c) (ap (λ l. take at text ++ take n l) (rest_is text at) ∙ sym (take-add at n text)) (Appends-trans a b c _ _ before now)

-- where a write failed, what was written before it is a prefix of the text
pub wrote_prefix : (a b c : Option (List ℕ)) (text : List ℕ) (at : ℕ) → at < length text → Appends a b (take at text) → Keeps b c
    → (prefix : List ℕ) × IsProperPrefix prefix text × Appends a c prefix
wrote_prefix a b c text at below before kept =
    (take at text, (drop at text, sym (take-append-drop at text), omega (arith, length-drop at text)), Appends-kept a b c _ before kept)
