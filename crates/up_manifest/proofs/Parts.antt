-- Parts of a text: the keys and the texts of its members stand in the text of an object.
use Rattle.std.proofs.Common.{◌≡◌, ℕ, ◌≤◌, List, [], ◌∷◌, ◌++◌, Some, Ordering, Less, Equal, Greater, nat_cmp, length, drop, refl, sym, ap, ◌∙◌, arith, append_assoc, length-append}
use Rattle.std.specs.Cmp.Lexicographic.{slice_cmp}
use Rattle.std.specs.Ordering.{match_ordering}
use Rattle.std.specs.Str.Pattern.{LacksTextAt}
use Rattle.std.proofs.lemmas.List.{drop_at}
use Rattle.std.proofs.lemmas.Map.Lookups.{exact_bytes}
use Rattle.serde_json.specs.Data.{Data, null, boolean, number, string, array, object, Members, no_members, member}
use Rattle.serde_json.specs.Find.{get, get_member}
use Rattle.up_canon.specs.Canon.{text, json_string, members_text, more_members_text}

-- the part, with what stands before and behind it
pub record IsPart (part whole : List ℕ) : Type 0 where
  pub before : List ℕ
  pub behind : List ℕ
  pub at : whole ≡ before ++ (part ++ behind)

pub part_of_part : (a b c : List ℕ) → IsPart a b → IsPart b c → IsPart a c
part_of_part a b c s t = record {
  before = t.before ++ s.before;
  behind = s.behind ++ t.behind;
  at = t.at ∙ ap (λ (x : List ℕ). t.before ++ (x ++ t.behind)) s.at ∙ simp append_assoc;
}

later : (part front rest : List ℕ) → IsPart part rest → IsPart part (front ++ rest)
later part front rest s = record {
  before = front ++ s.before;
  behind = s.behind;
  at = ap (λ (t : List ℕ). front ++ t) s.at ∙ sym (append_assoc front s.before (part ++ s.behind));
}

pub lacks : (part whole : List ℕ) → ((i : ℕ) → i ≤ length whole → LacksTextAt part whole i) → IsPart part whole → ⊥
lacks part whole none s =
    none (length s.before) (omega (arith, ap length s.at, length-append s.before (part ++ s.behind))) s.behind
    (ap (drop (length s.before)) s.at ∙ drop_at s.before (part ++ s.behind) (length s.before) refl)

-- ---- members

-- the quoted key and the text of its value
pub record HoldsMember (k : List ℕ) (v : Data) (whole : List ℕ) : Type 0 where
  pub key : IsPart (json_string k) whole
  pub value : IsPart (text v) whole

behind_front : (k : List ℕ) (v : Data) (front rest : List ℕ) → HoldsMember k v rest → HoldsMember k v (front ++ rest)
behind_front k v front rest h = record { key = later (json_string k) front rest h.key; value = later (text v) front rest h.value }

here : (k l : List ℕ) (v e : Data) (rest : List ℕ) → k ≡ l → e ≡ v → HoldsMember k v (json_string l ++ 58 ∷ (text e ++ rest))
here k l v e rest same is = record {
  key = record { before = []; behind = 58 ∷ (text e ++ rest); at = ap (λ n. json_string n ++ 58 ∷ (text e ++ rest)) (sym same) };
  value = record { before = json_string l ++ 58 ∷ []; behind = rest; at = ap (λ d. json_string l ++ 58 ∷ (text d ++ rest)) is ∙ sym (append_assoc (json_string l) (58 ∷ []) (text v ++ rest)) };
}

there : (k l : List ℕ) (v e : Data) (rest : List ℕ) → HoldsMember k v rest → HoldsMember k v (json_string l ++ 58 ∷ (text e ++ rest))
there k l v e rest h = behind_front k v (json_string l) (58 ∷ (text e ++ rest)) (behind_front k v (58 ∷ []) (text e ++ rest) (behind_front k v (text e) rest h))

by_order : (k l : List ℕ) (v e : Data) (ms : Members) (o : Ordering) → slice_cmp nat_cmp k l ≡ o → match_ordering o (get_member k ms) (Some e) (get_member k ms) ≡ Some v
    → (get_member k ms ≡ Some v → HoldsMember k v (more_members_text ms)) → HoldsMember k v (json_string l ++ 58 ∷ (text e ++ more_members_text ms))
by_order k l v e ms Less is h more = there k l v e (more_members_text ms) (more h)
by_order k l v e ms Equal is h more = let same : e ≡ v = cc in here k l v e (more_members_text ms) (exact_bytes k l is) same
by_order k l v e ms Greater is h more = there k l v e (more_members_text ms) (more h)

among_more : (k : List ℕ) (v : Data) (ms : Members) → get_member k ms ≡ Some v → HoldsMember k v (more_members_text ms)
among_more k v no_members h = cc
among_more k v (member l e ms) h =
    behind_front k v (44 ∷ []) (json_string l ++ 58 ∷ (text e ++ more_members_text ms)) (by_order k l v e ms (slice_cmp nat_cmp k l) refl h (λ q. among_more k v ms q))

among : (k : List ℕ) (v : Data) (ms : Members) → get_member k ms ≡ Some v → HoldsMember k v (members_text ms)
among k v no_members h = cc
among k v (member l e ms) h = by_order k l v e ms (slice_cmp nat_cmp k l) refl h (λ q. among_more k v ms q)

-- a member of an object stands in its text
pub in_text : (k : List ℕ) (v d : Data) → get k d ≡ Some v → HoldsMember k v (text d)
in_text k v null h = cc
in_text k v (boolean b) h = cc
in_text k v (number n) h = cc
in_text k v (string s) h = cc
in_text k v (array ds) h = cc
in_text k v (object ms) h = behind_front k v (123 ∷ []) (members_text ms) (among k v ms h)
