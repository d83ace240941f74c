-- Bytes taken to a head.
use Rattle.std.proofs.Common.{◌≡◌, ◌≢◌, ◌&&◌, ◌||◌, not, inl, ℕ, zero, suc, ◌+◌, ◌-◌, ◌<◌, ◌≤◌, Bool, true, false, List, [], ◌∷◌, ◌++◌, length, take, drop, take-append-drop, append_assoc, append-nil, length-append, arith, refl, sym, ap, ◌∙◌, subst}
use Rattle.std.specs.List.{list_all}
use Rattle.std.proofs.lemmas.List.Folds.{list_all-append}
use Rattle.std.proofs.lemmas.List.{length-take-le}
use Rattle.std.proofs.Math.Seq.{take-take}
use Rattle.httparse.specs.Grammar.{HasNoRequest}
use Rattle.up_heads.specs.Heads.{Heads, most_head}
use Rattle.up_heads.specs.Fronts.{Fronts}
use Rattle.up_http.specs.Feeding.{Waits}
use Rattle.up_http.specs.Parts.{is_newline, Begins, ReadsByte}
use Rattle.up_heads.specs.declared.heads.Front.{Front}
use Rattle.up_heads.specs.declared.heads.Front.TheVariants.{Whole, Cut, Bad}
use Rattle.up_http.proofs.HeadLaws.{no_head_inside, no_head_front, no_head_blank, head_is_all}

or_none : (a b : Bool) → (a || b) ≡ false → (a ≡ false) × (b ≡ false)
or_none true b h = absurd (cc)
or_none false b h = (refl, h)

not_none : (b : Bool) → not b ≡ false → b ≡ true
not_none true h = refl
not_none false h = absurd (cc)

-- where no byte of the request line has come, line ends alone have
still_blank : (bytes : List ℕ) (byte : ℕ) (begun : Bool) → Begins bytes begun → (begun || not (is_newline byte)) ≡ false → list_all is_newline (bytes ++ byte ∷ []) ≡ true
still_blank bytes byte begun b none =
    let both = or_none begun (not (is_newline byte)) none in
    list_all-append is_newline bytes (byte ∷ []) ∙ ap (λ t. t && list_all is_newline (byte ∷ [])) (b.blank both.0) ∙ ap (λ t. t && true) (not_none (is_newline byte) both.1)

pub reads_inside : (bytes new : List ℕ) (byte : ℕ) (begun : Bool) → Begins bytes begun → byte ≢ 10 → new ≡ bytes ++ byte ∷ [] → ReadsByte new (begun || not (is_newline byte)) Cut
reads_inside bytes new byte begun b other is =
    subst (λ l. ReadsByte l (begun || not (is_newline byte)) Cut) (sym is) (no_head_inside bytes byte b.none other, still_blank bytes byte begun b)

pub reads_blank : (bytes new : List ℕ) (byte : ℕ) (begun : Bool) → Begins bytes begun → (begun || not (is_newline byte)) ≡ false → new ≡ bytes ++ byte ∷ [] → ReadsByte new false Cut
reads_blank bytes new byte begun b none is =
    let blank = still_blank bytes byte begun b none in
    subst (λ l. ReadsByte l false Cut) (sym is) (no_head_blank (bytes ++ byte ∷ []) blank, λ _. blank)

pub reads_front : (bytes new : List ℕ) (byte : ℕ) (begun : Bool) (front : Front) → Begins bytes begun → new ≡ bytes ++ byte ∷ [] → Fronts new front → ReadsByte new true front
reads_front bytes new byte begun (Whole facts) b is (head, after, heads, said) =
    (head, subst (λ l. Heads l head []) (sym is) (head_is_all bytes byte head after b.none (subst (λ l. Heads l head after) is heads)), said)
reads_front bytes new byte begun Cut b is (none, _) = (none, λ h. absurd (cc))
reads_front bytes new byte begun Bad b is never = never

-- where the bytes of a piece before one end no head, nothing can be answered of them
pub waits_at : (old piece before : List ℕ) (i : ℕ) → before ≡ old ++ take i piece → HasNoRequest before → length before < most_head → Waits (old ++ take (i + 1 - 1) piece)
waits_at old piece before i is none short =
    let same : before ≡ old ++ take (i + 1 - 1) piece = is ∙ ap (λ n. old ++ take n piece) (omega arith) in
    subst Waits same (inl (none, short))

-- where so many bytes of a piece end no head, nothing can be answered of them without the last one
pub waits_before : (old piece : List ℕ) (n : ℕ) → HasNoRequest old → length old < most_head → HasNoRequest (old ++ take n piece) → length (old ++ take n piece) ≤ most_head → n ≤ length piece
    → Waits (old ++ take (n - 1) piece)
waits_before old piece zero none short none' short' within = inl (subst HasNoRequest (sym (append-nil old)) none, omega (arith, ap length (append-nil old), short))
waits_before old piece (suc n) none short none' short' within =
    let split : take n piece ++ drop n (take (suc n) piece) ≡ take (suc n) piece = ap (λ l. l ++ drop n (take (suc n) piece)) (sym (take-take n (suc n) piece (omega arith))) ∙ take-append-drop n (take (suc n) piece) in
    let joined : (old ++ take n piece) ++ drop n (take (suc n) piece) ≡ old ++ take (suc n) piece = append_assoc old (take n piece) (drop n (take (suc n) piece)) ∙ ap (λ l. old ++ l) split in
    let front : HasNoRequest (old ++ take n piece) = no_head_front (old ++ take n piece) (drop n (take (suc n) piece)) (subst HasNoRequest (sym joined) none') in
    let small : length (old ++ take n piece) < most_head =
    omega (arith, short', length-append old (take n piece), length-append old (take (suc n) piece), length-take-le n piece (omega arith), length-take-le (suc n) piece within) in
    subst (λ k. Waits (old ++ take k piece)) (omega arith) (inl (front, small))
