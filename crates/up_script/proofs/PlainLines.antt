-- The canonical text of a line that has a body delivered, and what it asks.
use Rattle.std.proofs.Common.{◌≡◌, ℕ, ◌≤◌, lit≤, List, [], ◌∷◌, ◌++◌, Bool, true, Some, Ok, Err, refl, ap, ◌∙◌, arith}
use Rattle.std.specs.Prelude.{◌&&◌, IsUtf8, nat_le, flat_map, codes, decimal}
use Rattle.std.proofs.lemmas.Bool.Decides.{nat_tests}
use Rattle.std.proofs.lemmas.Str.{is_utf8-from_IsUtf8}
use Rattle.serde_json.specs.Data.{Data, string}
use Rattle.serde_json.specs.Read.{read}
use Rattle.up_canon.specs.Build.{object_with, count_value}
use Rattle.up_canon.specs.Canon.{max_count, is_printable_text, is_plain, escape_of, text, PlainIsRead}
use Rattle.up_canon.specs.JsonText.{value_in}
use Rattle.up_canon.specs.Steps.{or_error}
use Rattle.up_canon.specs.declared.refusal.Refusal.TheVariants.{BadShape, NotJson}
use Rattle.up_sign.specs.Schemes.{Rules}
use Rattle.up_machine.specs.declared.command.Command.TheVariants as command
use Rattle.up_script.specs.AskedLines.{deliver_in, asked_of, asked_in}
use Rattle.up_script.specs.Words.{word_in, word_of}
use Rattle.up_script.specs.declared.asked.What.TheVariants.{Call}
use Rattle.up_script.specs.declared.word.Word.TheVariants as word
use Rattle.up_canon.proofs.JsonTexts.{value_in-some, value_in-none}
use Rattle.up_canon.proofs.Members.{text_there, count_there, self_there}
use Rattle.up_canon.proofs.Steps.{bind-ok, bind-err}
use Rattle.up_manifest.proofs.PlainTexts.{escape_of-ends}

-- ---- the text

-- the value of the line
abbrev delivery_value : ℕ → List ℕ → Data
delivery_value at body = object_with ((codes "at", count_value at) ∷ (codes "body", string body) ∷ (codes "do", string (codes "deliver")) ∷ [])

-- the pieces that are taken
spelled : (at : ℕ) (body : List ℕ)
    → codes "{\"at\":" ++ (decimal at ++ (codes ",\"body\":\"" ++ (flat_map escape_of body ++ codes "\",\"do\":\"deliver\"}"))) ≡ text (delivery_value at body)
spelled at body = ap (λ t. codes "{\"at\":" ++ (decimal at ++ (codes ",\"body\":" ++ t))) (escape_of-ends body (codes ",\"do\":\"deliver\"}"))

and_three : (a b c : Bool) → a ≡ true → b ≡ true → c ≡ true → (a && (b && (c && true))) ≡ true
and_three a b c p q r = rw (p, q, r) refl

value_plain : (at : ℕ) (body : List ℕ) → at ≤ max_count → is_printable_text body ≡ true → is_plain (delivery_value at body) ≡ true
value_plain at body small prints =
    let count : nat_le at max_count ≡ true = grind (arith, nat_tests) in
    and_three _ _ _ count prints refl

-- ---- what it asks

-- what its members ask, whatever the scheme of keys
delivery_of : (k : Rules) (at : ℕ) (body : List ℕ) → at ≤ max_count → asked_of k (delivery_value at body) ≡ Ok (record { at = at; what = Call (command.Deliver body) })
unfolding asked_of word_in deliver_in
delivery_of k at body small =
    let d = delivery_value at body in
    bind-ok (word_in d) _ word.Deliver (bind-ok _ (λ t. or_error (BadShape (codes "do")) (word_of t)) (codes "deliver") (text_there (codes "do") d (codes "deliver") refl))
    ∙ bind-ok _ _ at (count_there (codes "at") d at (refl, small))
    ∙ bind-ok _ _ (Call (command.Deliver body)) (bind-ok _ _ body (text_there (codes "body") d body refl))

-- what the line asks
pub delivery_in : PlainIsRead → (k : Rules) (at : ℕ) (body : List ℕ) → at ≤ max_count → is_printable_text body ≡ true → (line : List ℕ) → IsUtf8 line
    → line ≡ codes "{\"at\":" ++ (decimal at ++ (codes ",\"body\":\"" ++ (flat_map escape_of body ++ codes "\",\"do\":\"deliver\"}")))
    → asked_in k line ≡ Ok (record { at = at; what = Call (command.Deliver body) })
unfolding asked_in
delivery_in law k at body small prints line utf8 same =
    let d = delivery_value at body in
    let reads : read line ≡ Some d = ap read (same ∙ spelled at body) ∙ law d (value_plain at body small prints) (lit≤ tt) in
    bind-ok _ _ d (ap (or_error NotJson) (value_in-some line d utf8 reads))
    ∙ bind-ok _ _ d (self_there (codes "do") d (_, refl))
    ∙ delivery_of k at body small

-- ---- lines of any form

-- of a text, the value is what the reader makes of it
pub value_of_utf8 : (line : List ℕ) → IsUtf8 line → value_in line ≡ read line
unfolding value_in
value_of_utf8 line utf8 = rw (is_utf8-from_IsUtf8 line utf8) refl

-- what is no text is no JSON
pub nothing_in : (k : Rules) (line : List ℕ) → (IsUtf8 line → ⊥) → asked_in k line ≡ Err NotJson
unfolding asked_in
nothing_in k line broken = bind-err _ _ NotJson (ap (or_error NotJson) (value_in-none line (λ utf8. absurd (broken utf8))))
