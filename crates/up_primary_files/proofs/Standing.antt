-- What is cut from a text stands in it.
use Rattle.std.proofs.Common.{◌≡◌, ℕ, ◌-◌, List, ◌∷◌, ◌++◌, [], Option, Some, None, length, take, drop, take-append-drop, append_assoc, append-nil, subst, sym, ap, ◌∙◌}
use Rattle.std.specs.Prelude.{slice_range, IfSome}
use Rattle.up_primary_files.specs.Served.{StandsIn}

within : (text piece part : List ℕ) → StandsIn text piece → StandsIn piece part → StandsIn text part
within text piece part a b = record {
  before = a.before ++ b.before;
  behind = b.behind ++ a.behind;
  is = a.is ∙ ap (λ (xs : List ℕ). a.before ++ (xs ++ a.behind)) b.is
      ∙ ap (λ (xs : List ℕ). a.before ++ xs) (append_assoc b.before (part ++ b.behind) a.behind ∙ ap (λ (xs : List ℕ). b.before ++ xs) (append_assoc part b.behind a.behind))
      ∙ sym (append_assoc a.before b.before (part ++ (b.behind ++ a.behind)));
}

cut : (text : List ℕ) (from size : ℕ) → StandsIn text (take size (drop from text))
cut text from size = record {
  before = take from text;
  behind = drop size (drop from text);
  is = sym (ap (λ (xs : List ℕ). take from text ++ xs) (take-append-drop size (drop from text)) ∙ take-append-drop from text);
}

-- without white space around it
pub trimmed_stands : (text shown piece : List ℕ) (skip : ℕ) → shown ≡ text → piece ≡ take (length piece) (drop skip shown) → StandsIn text piece
trimmed_stands text shown piece skip same trimmed = subst (λ (xs : List ℕ). StandsIn xs piece) same (subst (StandsIn shown) (sym trimmed) (cut shown skip (length piece)))

-- in a range of the text behind its first byte
pub in_range : {A : Type 0} (piece : A → List ℕ) (text span rest : List ℕ) (from to first : ℕ) (found : Option A) → span ≡ slice_range text from to → span ≡ first ∷ rest
    → IfSome found (λ a. StandsIn rest (piece a)) → IfSome found (λ a. StandsIn text (piece a))
in_range piece text span rest from to first None is parts h = h
in_range piece text span rest from to first (Some a) is parts h =
    let of_span : StandsIn text span = subst (StandsIn text) (sym is) (cut text from (to - from)) in
    let of_rest : StandsIn span rest = record { before = first ∷ []; behind = []; is = parts ∙ ap (λ (xs : List ℕ). first ∷ xs) (sym (append-nil rest)) } in
    within text span (piece a) of_span (within span rest (piece a) of_rest h)
