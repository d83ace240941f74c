-- Values that have a canonical text, part by part: all but the nesting, which is at most n.
use Rattle.std.proofs.Common.{◌≡◌, ℕ, suc, ◌≤◌, List, [], ◌∷◌, Bool, true, Ordering, Less, Equal, Greater, nat_cmp, refl, ap, ◌∙◌, arith, map}
use Rattle.std.specs.Prelude.{nat_le}
use Rattle.std.specs.List.{list_all}
use Rattle.std.specs.Ordering.{match_ordering, ordering_reverse, is_lt}
use Rattle.std.specs.Cmp.Lexicographic.{slice_cmp}
use Rattle.std.proofs.lemmas.Bool.{and_parts}
use Rattle.std.proofs.lemmas.Bool.Decides.{nat_tests}
use Rattle.std.proofs.lemmas.Cmp.{nat_list_cmp_total}
use Rattle.serde_json.specs.Data.{Data, string, Members, no_members, member, put, depth, items_depth, members_depth}
use Rattle.serde_json.specs.View.{items_of}
use Rattle.up_canon.specs.Build.{object_with, members_with, list_with, count_value}
use Rattle.up_canon.proofs.Printable.{both}
use Rattle.up_canon.specs.Canon.{max_count, is_printable_text, is_plain, items_are_plain, members_are_plain, comes_first, has_canon}

pub record IsPlain (n : ℕ) (d : Data) : Type 0 where
  pub plain : is_plain d ≡ true
  pub shallow : depth d ≤ n

-- ---- objects

-- a key that comes before k and the others comes before what is put at k
comes_first-put : (l k : List ℕ) (d : Data) (ms : Members) → is_lt (slice_cmp nat_cmp l k) ≡ true → comes_first l ms ≡ true → comes_first l (put k d ms) ≡ true
comes_first-put l k d no_members h f = h
comes_first-put l k d (member m e ms) h f = at (slice_cmp nat_cmp k m)
  where
    at : (o : Ordering) → comes_first l (match_ordering o (member k d (member m e ms)) (member m d ms) (member m e (put k d ms))) ≡ true
    at Less = h
    at Equal = f
    at Greater = f

members_are_plain-put : (k : List ℕ) (d : Data) (ms : Members) → is_printable_text k ≡ true → is_plain d ≡ true → members_are_plain ms ≡ true → members_are_plain (put k d ms) ≡ true
members_are_plain-put k d no_members hk hd h = rw (hk, hd) refl
members_are_plain-put k d (member l e ms) hk hd h = at (slice_cmp nat_cmp k l) refl (members_are_plain-put k d ms hk hd)
  where
    parts : (is_printable_text l ≡ true) × (comes_first l ms ≡ true) × (is_plain e ≡ true) × (members_are_plain ms ≡ true)
    parts =
        let p = and_parts (is_printable_text l) _ h in
        let q = and_parts (comes_first l ms) _ p.1 in
        let r = and_parts (is_plain e) _ q.1 in
        (p.0, q.0, r.0, r.1)

    at : (o : Ordering) → slice_cmp nat_cmp k l ≡ o → (members_are_plain ms ≡ true → members_are_plain (put k d ms) ≡ true) → members_are_plain (match_ordering o (member k d (member l e ms)) (member l d ms) (member l e (put k d ms))) ≡ true
    at Less is rest = both _ _ hk (both _ _ (ap is_lt is) (both _ _ hd h))
    at Equal is rest = both _ _ parts.0 (both _ _ parts.1 (both _ _ hd parts.3))
    at Greater is rest =
        let below : is_lt (slice_cmp nat_cmp l k) ≡ true = ap is_lt (nat_list_cmp_total.antisymm l k ∙ ap ordering_reverse is) in
        both _ _ parts.0 (both _ _ (comes_first-put l k d ms below parts.1) (both _ _ parts.2 (rest parts.3)))

members_depth-put : (n : ℕ) (k : List ℕ) (d : Data) (ms : Members) → depth d ≤ n → members_depth ms ≤ n → members_depth (put k d ms) ≤ n
members_depth-put n k d no_members hd h = omega arith
members_depth-put n k d (member l e ms) hd h = at (slice_cmp nat_cmp k l) (members_depth-put n k d ms hd)
  where
    at : (o : Ordering) → (members_depth ms ≤ n → members_depth (put k d ms) ≤ n) → members_depth (match_ordering o (member k d (member l e ms)) (member l d ms) (member l e (put k d ms))) ≤ n
    at Less rest = omega arith
    at Equal rest = omega arith
    at Greater rest = let more = rest (omega arith) in omega arith

abbrev pub AllMembers : ℕ → List (List ℕ × Data) → Type 0
AllMembers n [] = Unit {0}
AllMembers n (m ∷ ms) = (is_printable_text m.0 ≡ true) × IsPlain n m.1 × AllMembers n ms

members_plain : (n : ℕ) (ms : List (List ℕ × Data)) → AllMembers n ms → (members_are_plain (members_with ms) ≡ true) × (members_depth (members_with ms) ≤ n)
members_plain n [] h = (refl, omega arith)
members_plain n (m ∷ ms) h =
    let rest = members_plain n ms h.2 in
    (members_are_plain-put m.0 m.1 (members_with ms) h.0 h.1.plain rest.0, members_depth-put n m.0 m.1 (members_with ms) h.1.shallow rest.1)

pub plain-object : (n : ℕ) (ms : List (List ℕ × Data)) → AllMembers n ms → IsPlain (suc n) (object_with ms)
plain-object n ms h = let p = members_plain n ms h in record { plain = p.0; shallow = let q = p.1 in omega arith }

-- ---- lists

abbrev pub AllItems : ℕ → List Data → Type 0
AllItems n [] = Unit {0}
AllItems n (d ∷ ds) = IsPlain n d × AllItems n ds

items_plain : (n : ℕ) (ds : List Data) → AllItems n ds → (items_are_plain (items_of ds) ≡ true) × (items_depth (items_of ds) ≤ n)
items_plain n [] h = (refl, omega arith)
items_plain n (d ∷ ds) h =
    let rest = items_plain n ds h.1 in
    let deep = h.0.shallow in
    let deep' = rest.1 in
    (both _ _ h.0.plain rest.0, omega arith)

pub plain-list : (n : ℕ) (ds : List Data) → AllItems n ds → IsPlain (suc n) (list_with ds)
plain-list n ds h = let p = items_plain n ds h in record { plain = p.0; shallow = let q = p.1 in omega arith }

-- where each passes a test that makes it plain
pub all-plain : {A : Type 0} (n : ℕ) (p : A → Bool) (f : A → Data) (xs : List A) → ((x : A) → p x ≡ true → IsPlain n (f x)) → list_all p xs ≡ true → AllItems n (map f xs)
all-plain n p f [] g h = tt
all-plain n p f (x ∷ xs) g h = let q = and_parts (p x) _ h in (g x q.0, all-plain n p f xs g q.1)

-- ---- other values

pub plain-string : (s : List ℕ) → is_printable_text s ≡ true → IsPlain 0 (string s)
plain-string s h = record { plain = h; shallow = omega arith }

pub plain-count : (n : ℕ) → nat_le n max_count ≡ true → IsPlain 0 (count_value n)
plain-count n h = record { plain = h; shallow = omega arith }

pub deeper : (m n : ℕ) (d : Data) → m ≤ n → IsPlain m d → IsPlain n d
deeper m n d le h = let s = h.shallow in record { plain = h.plain; shallow = omega arith }

pub plain-canon : (n : ℕ) (d : Data) → n ≤ 16 → IsPlain n d → has_canon d ≡ true
plain-canon n d le h =
    let s = h.shallow in
    let t : nat_le (depth d) 16 ≡ true = grind (arith, nat_tests) in
    both _ _ h.plain t
