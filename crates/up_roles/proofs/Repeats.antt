-- Names one after another, up to the first that stood before it.
use Rattle.std.proofs.Common.{◌≡◌, ℕ, ◌+◌, ◌<◌, List, [], ◌∷◌, ◌++◌, Bool, true, false, Option, Some, None, length, get_or, take, drop, reverse, cond, nat_cmp, refl, ap, ap₂, ◌∙◌, sym, append-nil}
use Rattle.std.specs.Prelude.{bytes_eq, is_none, not, option_to_list, ◌||◌}
use Rattle.std.specs.BTreeSet.{BTreeSet, contains_by}
use Rattle.std.specs.Cmp.Lexicographic.{slice_cmp, bytes_decides}
use Rattle.std.specs.List.{list_any}
use Rattle.std.specs.Ordering.{is_eq}
use Rattle.std.proofs.Math.Bool.{or-false}
use Rattle.std.proofs.lemmas.List.{take_more, drop_more, reverse-append}
use Rattle.std.proofs.lemmas.List.Elements.{filter_map-append}
use Rattle.std.proofs.lemmas.List.Folds.{list_any-append}
use Rattle.std.proofs.lemmas.List.Sorted.{list_any-IsPermutation, IsPermutation-reverse}
use Rattle.std.proofs.lemmas.Map.Text.{is_eq-slice_cmp}
use Rattle.up_canon.specs.Names.{Name, first_repeated_after}
use Rattle.up_roles.specs.declared.targets.Target.{Target}
use Rattle.up_roles.specs.Targets.{ecus_of, repeats_ecu, IsSeen}
use denote.Ref.{Bor}

-- what is left of the search, after the names that were seen
abbrev pub left : List Name → List Name → Option Name
left seen rest = first_repeated_after (reverse seen) rest

before : (seen : List Name) (x : Name) (b : Bool) → list_any (bytes_eq x) seen ≡ b → list_any (bytes_eq x) (reverse seen) ≡ b
before seen x b e = sym (list_any-IsPermutation (bytes_eq x) seen (reverse seen) (IsPermutation-reverse seen)) ∙ e

-- a name that isn't among the earlier ones is passed
passes : (seen rest : List Name) (x : Name) → list_any (bytes_eq x) seen ≡ false → left (seen ++ x ∷ []) rest ≡ left seen (x ∷ rest)
passes seen rest x new =
    let new' : list_any (bytes_eq x) (reverse seen) ≡ false = before seen x false new in
    rw (reverse-append seen (x ∷ []), new') refl

-- one that is among them is the first repeated
found : (seen rest : List Name) (x : Name) → list_any (bytes_eq x) seen ≡ true → left seen (x ∷ rest) ≡ Some x
found seen rest x old =
    let old' : list_any (bytes_eq x) (reverse seen) ≡ true = before seen x true old in
    rw old' refl

-- ---- the ECUs of targets

step : (seen : List Name) (o : Option Name) (rest : List Target) (x : Target) → x.ecu ≡ o → repeats_ecu seen x.ecu ≡ false
    → left (seen ++ ecus_of (x ∷ [])) (ecus_of rest) ≡ left seen (ecus_of (x ∷ rest))
step seen None rest x e new = rw (e, append-nil seen) refl
step seen (Some name) rest x e new =
    let new' : list_any (bytes_eq name) seen ≡ false = rw e at new in
    rw e (passes seen (ecus_of rest) name new')

stop : (seen : List Name) (o : Option Name) (rest : List Target) (x : Target) → x.ecu ≡ o → repeats_ecu seen x.ecu ≡ true
    → is_none (left seen (ecus_of (x ∷ rest))) ≡ false
stop seen None rest x e old = let old' : repeats_ecu seen None ≡ true = rw e at old in cc
stop seen (Some name) rest x e old =
    let old' : list_any (bytes_eq name) seen ≡ true = rw e at old in
    rw e (ap is_none (found seen (ecus_of rest) name old'))

pub ecu-passes : (targets : List Target) (i : ℕ) (x : Target) → i < length targets → x ≡ get_or targets i x → repeats_ecu (ecus_of (take i targets)) x.ecu ≡ false
    → left (ecus_of (take (i + 1) targets)) (ecus_of (drop (i + 1) targets)) ≡ left (ecus_of (take i targets)) (ecus_of (drop i targets))
ecu-passes targets i x h at new =
    rw (drop_more targets i x h, take_more targets i x h, ← at, filter_map-append (λ (t : Target). t.ecu) (take i targets) (x ∷ [])) (step (ecus_of (take i targets)) x.ecu (drop (i + 1) targets) x refl new)

pub ecu-found : (targets : List Target) (i : ℕ) (x : Target) → i < length targets → x ≡ get_or targets i x → repeats_ecu (ecus_of (take i targets)) x.ecu ≡ true
    → is_none (left (ecus_of (take i targets)) (ecus_of (drop i targets))) ≡ false
ecu-found targets i x h at old = rw (drop_more targets i x h, ← at) (stop (ecus_of (take i targets)) x.ecu (drop (i + 1) targets) x refl old)

pub ecus-more : (targets : List Target) (i : ℕ) (x : Target) → i < length targets → x ≡ get_or targets i x → ecus_of (take i targets) ++ option_to_list x.ecu ≡ ecus_of (take (i + 1) targets)
ecus-more targets i x h at = rw (take_more targets i x h, ← at, filter_map-append (λ (t : Target). t.ecu) (take i targets) (x ∷ [])) (by_ecu x.ecu refl)
  where
    by_ecu : (o : Option Name) → x.ecu ≡ o → ecus_of (take i targets) ++ option_to_list x.ecu ≡ ecus_of (take i targets) ++ ecus_of (x ∷ [])
    by_ecu None e = rw e refl
    by_ecu (Some name) e = rw e refl

pub is_new : (n b : Bool) → n ≡ not b → n ≡ true → b ≡ false
is_new n true e h = sym h ∙ e
is_new n false e h = refl

pub is_old : (n b : Bool) → n ≡ not b → n ≡ false → b ≡ true
is_old n true e h = refl
is_old n false e h = sym h ∙ e

-- ---- the ECUs that were seen, as a set

pub bytes_eq-sym : (x y : List ℕ) → bytes_eq x y ≡ bytes_eq y x
bytes_eq-sym x y = by_tests (bytes_eq x y) (bytes_eq y x) refl refl
  where
    by_tests : (a b : Bool) → bytes_eq x y ≡ a → bytes_eq y x ≡ b → a ≡ b
    by_tests true true e f = refl
    by_tests true false e f = sym ((bytes_decides y x).1 (sym ((bytes_decides x y).0 e))) ∙ f
    by_tests false true e f = sym e ∙ (bytes_decides x y).1 (sym ((bytes_decides y x).0 f))
    by_tests false false e f = refl

or_on : (a b : Bool) → cond b true a ≡ (a || b)
or_on true true = refl
or_on true false = refl
or_on false true = refl
or_on false false = refl

any_more : (q name : Name) (names : List Name) → list_any (bytes_eq q) (names ++ name ∷ []) ≡ (list_any (bytes_eq q) names || bytes_eq q name)
any_more q name names = rw (list_any-append (bytes_eq q) names (name ∷ []), or-false (bytes_eq q name)) refl

pub seen_more : (old new : BTreeSet (Bor Name)) (name : Name) (names : List Name) → IsSeen old names
    → ((q : Bor Name) → contains_by (λ k. slice_cmp nat_cmp q.now k.now) new ≡ cond (is_eq (slice_cmp nat_cmp name q.now)) true (contains_by (λ k. slice_cmp nat_cmp q.now k.now) old))
    → IsSeen new (names ++ name ∷ [])
seen_more old new name names seen added q =
    added (record { ref_ptr = (0, 0); now = q })
    ∙ ap₂ (λ (a b : Bool). cond b true a) (seen q) (is_eq-slice_cmp name q ∙ bytes_eq-sym name q)
    ∙ or_on (list_any (bytes_eq q) names) (bytes_eq q name)
    ∙ sym (any_more q name names)

pub added_is : (old new : BTreeSet (Bor Name)) (names : List Name) (ecu : Option Name) (name t : Name) (n : Bool) → ecu ≡ Some name → t ≡ name → IsSeen old names
    → n ≡ not (contains_by (λ k. slice_cmp nat_cmp t k.now) old)
    → ((q : Bor Name) → contains_by (λ k. slice_cmp nat_cmp q.now k.now) new ≡ cond (is_eq (slice_cmp nat_cmp t q.now)) true (contains_by (λ k. slice_cmp nat_cmp q.now k.now) old))
    → (n ≡ not (repeats_ecu names ecu)) × IsSeen new (names ++ option_to_list ecu)
added_is old new names ecu name t n e same seen fresh added =
    let there : ecu ≡ Some t = e ∙ ap Some (sym same) in
    rw there (fresh ∙ ap not (seen t), seen_more old new t names seen added)
