-- Lists of names and of pairs of them: their canonical texts, in which names stand as they are.
use Rattle.std.proofs.Common.{◌≡◌, ◌==◌, ℕ, List, [], ◌∷◌, ◌++◌, true, false, cond, refl, sym, ap, ap₂, ◌∙◌, arith}
use Rattle.std.specs.Prelude.{◌||◌, codes, flat_map}
use Rattle.std.specs.List.{list_all}
use Rattle.std.proofs.lemmas.Bool.{and_parts}
use Rattle.std.proofs.lemmas.Bool.Decides.{nat_tests}
use Rattle.std.proofs.lemmas.List.{append_assoc}
use Rattle.serde_json.specs.Data.{Data, string}
use Rattle.serde_json.specs.View.{items_of}
use Rattle.up_canon.specs.Build.{list_with, object_with}
use Rattle.up_canon.specs.Canon.{escape_of, has_canon, is_printable, text, items_text, more_items_text}
use Rattle.up_canon.specs.Names.{is_file_byte}
use Rattle.up_canon.proofs.PlainValues.{IsPlain, AllItems, plain-string, plain-object, plain-list, plain-canon}
use Rattle.up_canon.proofs.Printable.{all-more}

-- ---- names

prints : (x : ℕ) → is_file_byte x ≡ true → is_printable x ≡ true
prints x h = grind (arith, nat_tests)

pub name-plain : (name : List ℕ) → list_all is_file_byte name ≡ true → IsPlain 0 (string name)
name-plain name h = plain-string name (all-more is_file_byte is_printable name prints h)

bare-byte : (x : ℕ) → is_file_byte x ≡ true → escape_of x ≡ x ∷ []
bare-byte x h =
    let other : ((x == 34) || (x == 92)) ≡ false = grind (arith, nat_tests) in
    ap (λ b. cond b (92 ∷ x ∷ []) (x ∷ [])) other

bare : (name : List ℕ) → list_all is_file_byte name ≡ true → flat_map escape_of name ≡ name
bare [] h = refl
bare (x ∷ name) h =
    let p = and_parts (is_file_byte x) _ h in
    ap₂ (λ a b. a ++ b) (bare-byte x p.0) (bare name p.1)

-- behind its opening quote, with what stands behind it
quoted_then : (name rest : List ℕ) → list_all is_file_byte name ≡ true → (flat_map escape_of name ++ 34 ∷ []) ++ rest ≡ name ++ 34 ∷ rest
quoted_then name rest h = append_assoc (flat_map escape_of name) (34 ∷ []) rest ∙ ap (λ t. t ++ 34 ∷ rest) (bare name h)

pub name-text : (name rest : List ℕ) → list_all is_file_byte name ≡ true → codes "\"" ++ (name ++ (codes "\"" ++ rest)) ≡ text (string name) ++ rest
name-text name rest h = ap (λ t. 34 ∷ t) (sym (quoted_then name rest h))

-- ---- pairs

abbrev pub pair : List ℕ → List ℕ → Data
pair file hardware = object_with ((codes "file", string file) ∷ (codes "hardware", string hardware) ∷ [])

pub pair-plain : (file hardware : List ℕ) → list_all is_file_byte file ≡ true → list_all is_file_byte hardware ≡ true → IsPlain 1 (pair file hardware)
pair-plain file hardware hf hh =
    plain-object 0 ((codes "file", string file) ∷ (codes "hardware", string hardware) ∷ []) (refl, name-plain file hf, (refl, name-plain hardware hh, tt))

pub pair-text : (file hardware rest : List ℕ) → list_all is_file_byte file ≡ true → list_all is_file_byte hardware ≡ true
    → codes "{\"file\":\"" ++ (file ++ (codes "\",\"hardware\":\"" ++ (hardware ++ (codes "\"}" ++ rest)))) ≡ text (pair file hardware) ++ rest
pair-text file hardware rest hf hh =
    let quoted_hardware = flat_map escape_of hardware ++ 34 ∷ [] in
    let behind = codes ",\"hardware\":\"" ++ (quoted_hardware ++ 125 ∷ []) in
    sym (ap (λ t. codes "{\"file\":\"" ++ t)
    (append_assoc (flat_map escape_of file ++ 34 ∷ []) behind rest
    ∙ quoted_then file (behind ++ rest) hf
    ∙ ap (λ t. file ++ (codes "\",\"hardware\":\"" ++ t)) (append_assoc quoted_hardware (125 ∷ []) rest ∙ quoted_then hardware (125 ∷ rest) hh)))

-- ---- lists

-- the items of a list in front of another one: the text of each, and a comma
abbrev pub items_before : List Data → List ℕ
items_before [] = []
items_before (d ∷ ds) = text d ++ 44 ∷ items_before ds

pub before_more : (ds : List Data) (d : Data) (rest : List ℕ) → items_before ds ++ (text d ++ 44 ∷ rest) ≡ items_before (ds ++ d ∷ []) ++ rest
before_more [] d rest = sym (append_assoc (text d) (44 ∷ []) rest)
before_more (e ∷ ds) d rest =
    append_assoc (text e) (44 ∷ items_before ds) (text d ++ 44 ∷ rest)
    ∙ ap (λ t. text e ++ 44 ∷ t) (before_more ds d rest)
    ∙ sym (append_assoc (text e) (44 ∷ items_before (ds ++ d ∷ [])) rest)

more_before : (ds : List Data) (d : Data) → 44 ∷ (items_before ds ++ (text d ++ 93 ∷ [])) ≡ more_items_text (items_of (ds ++ d ∷ []))
more_before [] d = refl
more_before (e ∷ ds) d = ap (λ t. 44 ∷ t) (append_assoc (text e) (44 ∷ items_before ds) (text d ++ 93 ∷ []) ∙ ap (λ t. text e ++ t) (more_before ds d))

all_before : (ds : List Data) (d : Data) → items_before ds ++ (text d ++ 93 ∷ []) ≡ items_text (items_of (ds ++ d ∷ []))
all_before [] d = refl
all_before (e ∷ ds) d = append_assoc (text e) (44 ∷ items_before ds) (text d ++ 93 ∷ []) ∙ ap (λ t. text e ++ t) (more_before ds d)

-- the last item closes the list
pub list-text : (ds : List Data) (d : Data) → codes "[" ++ (items_before ds ++ (text d ++ codes "]")) ≡ text (list_with (ds ++ d ∷ []))
list-text ds d = ap (λ t. 91 ∷ t) (all_before ds d)

pub plain-more : (ds : List Data) (d : Data) → AllItems 1 ds → IsPlain 1 d → AllItems 1 (ds ++ d ∷ [])
plain-more [] d h one = (one, tt)
plain-more (e ∷ ds) d h one = (h.0, plain-more ds d h.1 one)

pub list-canon : (ds : List Data) → AllItems 1 ds → has_canon (list_with ds) ≡ true
list-canon ds h = plain-canon 2 (list_with ds) (omega arith) (plain-list 1 ds h)
