-- A canonical text is read as its value.
use Rattle.std.proofs.Common.{◌≡◌, ℕ, ◌^◌, ◌<◌, ◌≤◌, max, List, [], ◌∷◌, ◌++◌, Bool, true, false, cond, Some, None, option_and_then, option_map, refl, sym, ap, ap₂, ◌∙◌, subst, arith, append-nil}
use Rattle.std.specs.Prelude.{⊤, nat_le, flat_map}
use Rattle.std.proofs.lemmas.Bool.{and_parts}
use Rattle.std.proofs.lemmas.Bool.Decides.{nat_tests}
use Rattle.std.specs.Ordering.{nat_cmp, is_lt, ordering_reverse}
use Rattle.std.specs.declared.cmp.Ordering.{Ordering}
use Rattle.std.specs.declared.cmp.Ordering.TheVariants.{Less, Equal, Greater}
use Rattle.std.proofs.lemmas.Cmp.{nat_list_cmp_total}
use Rattle.std.specs.Cmp.Lexicographic.{slice_cmp}
use Rattle.json.specs.Json as json
use Rattle.json.specs.Print.{print, escape_byte, escape_letter, escape}
use Rattle.json.specs.Print as printed
use Rattle.json.specs.Tree.{json_tokens, HasNumbers, ItemsHaveNumbers, MembersHaveNumbers}
use Rattle.json.specs.Tree as tree
use Rattle.json.specs.Lex.{tokens}
use Rattle.json.proofs.Printed.Decimals.{IsNumber-decimal}
use Rattle.json.proofs.Printed.Tokens.{tokens-print}
use Rattle.json.proofs.Printed.Trees.{ArePrintable-json_tokens, value-json_tokens}
use Rattle.serde_json.specs.Data.{unsigned, negative, float, Data, null, boolean, number, string, array, object, Items, no_items, item, Members, no_members, member, depth, items_depth, members_depth, put}
use Rattle.serde_json.specs.Read.{read, of_json, of_items, of_members, max_depth}
use Rattle.serde_json.specs.Written.{outline, items_outline, members_outline, compact_text}
use Rattle.serde_json.specs.Written as written
use Rattle.serde_json.proofs.Numbers.{number_of-decimal}
use Rattle.serde_json.proofs.Texts.{print-outline}
use Rattle.up_canon.specs.Canon.{is_printable, is_printable_text, comes_first, is_plain, items_are_plain, members_are_plain, has_canon, escape_of, json_string, text, items_text, more_items_text, members_text, more_members_text, PlainIsRead, CanonIsRead, CanonIsInjective, max_count}
use Rattle.up_canon.proofs.PlainMembers.{plain_member}

-- ---- the text is the one that `serde_json` prints

escape_byte-printable : (x : ℕ) → is_printable x ≡ true → escape_byte x ≡ escape_of x
unfolding escape_byte
escape_byte-printable x h = grind (arith, nat_tests)

escape-printable : (s : List ℕ) → is_printable_text s ≡ true → escape s ≡ flat_map escape_of s
escape-printable [] h = refl
escape-printable (x ∷ s) h = let p = and_parts (is_printable x) _ h in ap₂ (λ a b. a ++ b) (escape_byte-printable x p.0) (escape-printable s p.1)

json_string-printable : (s : List ℕ) → is_printable_text s ≡ true → printed.quoted s ≡ json_string s
json_string-printable s h = ap (λ e. 34 ∷ (e ++ 34 ∷ [])) (escape-printable s h)

mutual
  pub compact_text-plain : (d : Data) → is_plain d ≡ true → compact_text d ≡ text d
  compact_text-plain null h = refl
  compact_text-plain (boolean true) h = refl
  compact_text-plain (boolean false) h = refl
  compact_text-plain (number (unsigned n)) h = refl
  compact_text-plain (number (negative z)) h = cc
  compact_text-plain (number (float x)) h = cc
  compact_text-plain (string s) h = json_string-printable s h
  compact_text-plain (array ds) h = ap (λ t. 91 ∷ t) (items_text-plain ds h)
  compact_text-plain (object ms) h = ap (λ t. 123 ∷ t) (members_text-plain ms h)

  items_text-plain : (ds : Items) → items_are_plain ds ≡ true → written.items_text false ds ≡ items_text ds
  items_text-plain no_items h = refl
  items_text-plain (item d ds) h = let p = and_parts (is_plain d) _ h in ap₂ (λ a b. a ++ b) (compact_text-plain d p.0) (more_items_text-plain ds p.1)

  more_items_text-plain : (ds : Items) → items_are_plain ds ≡ true → written.items_text true ds ≡ more_items_text ds
  more_items_text-plain no_items h = refl
  more_items_text-plain (item d ds) h = let p = and_parts (is_plain d) _ h in ap₂ (λ a b. 44 ∷ (a ++ b)) (compact_text-plain d p.0) (more_items_text-plain ds p.1)

  members_text-plain : (ms : Members) → members_are_plain ms ≡ true → written.members_text false ms ≡ members_text ms
  members_text-plain no_members h = refl
  members_text-plain (member k d ms) h =
      let p = plain_member k d ms h in
      ap₂ (λ a b. a ++ 58 ∷ b) (json_string-printable k p.key) (ap₂ (λ a b. a ++ b) (compact_text-plain d p.value) (more_members_text-plain ms p.others))

  more_members_text-plain : (ms : Members) → members_are_plain ms ≡ true → written.members_text true ms ≡ more_members_text ms
  more_members_text-plain no_members h = refl
  more_members_text-plain (member k d ms) h =
      let p = plain_member k d ms h in
      ap₂ (λ a b. 44 ∷ (a ++ 58 ∷ b)) (json_string-printable k p.key) (ap₂ (λ a b. a ++ b) (compact_text-plain d p.value) (more_members_text-plain ms p.others))

-- ---- its tokens are those of the value

count_fits : (n : ℕ) → nat_le n max_count ≡ true → n < 2 ^ 64
count_fits n h = grind (arith, nat_tests)

mutual
  HasNumbers-outline : (d : Data) → is_plain d ≡ true → HasNumbers (outline d)
  HasNumbers-outline null h = tt
  HasNumbers-outline (boolean b) h = tt
  HasNumbers-outline (number (unsigned n)) h = IsNumber-decimal n (count_fits n h)
  HasNumbers-outline (number (negative z)) h = cc
  HasNumbers-outline (number (float x)) h = cc
  HasNumbers-outline (string s) h = tt
  HasNumbers-outline (array ds) h = ItemsHaveNumbers-outline ds h
  HasNumbers-outline (object ms) h = MembersHaveNumbers-outline ms h

  ItemsHaveNumbers-outline : (ds : Items) → items_are_plain ds ≡ true → ItemsHaveNumbers (items_outline ds)
  ItemsHaveNumbers-outline no_items h = tt
  ItemsHaveNumbers-outline (item d ds) h = let p = and_parts (is_plain d) _ h in (HasNumbers-outline d p.0, ItemsHaveNumbers-outline ds p.1)

  MembersHaveNumbers-outline : (ms : Members) → members_are_plain ms ≡ true → MembersHaveNumbers (members_outline ms)
  MembersHaveNumbers-outline no_members h = tt
  MembersHaveNumbers-outline (member k d ms) h =
      let p = plain_member k d ms h in
      (HasNumbers-outline d p.value, MembersHaveNumbers-outline ms p.others)

mutual
  depth-outline : (d : Data) → tree.depth (outline d) ≡ depth d
  depth-outline null = refl
  depth-outline (boolean b) = refl
  depth-outline (number n) = refl
  depth-outline (string s) = refl
  depth-outline (array ds) = omega (arith, items_depth-outline ds)
  depth-outline (object ms) = omega (arith, members_depth-outline ms)

  items_depth-outline : (ds : Items) → tree.items_depth (items_outline ds) ≡ items_depth ds
  items_depth-outline no_items = refl
  items_depth-outline (item d ds) = ap₂ max (depth-outline d) (items_depth-outline ds)

  members_depth-outline : (ms : Members) → tree.members_depth (members_outline ms) ≡ members_depth ms
  members_depth-outline no_members = refl
  members_depth-outline (member k d ms) = ap₂ max (depth-outline d) (members_depth-outline ms)

-- ---- which is read again

is_lt-Less : (o : Ordering) → is_lt o ≡ true → o ≡ Less
is_lt-Less Less h = refl
is_lt-Less Equal h = cc
is_lt-Less Greater h = cc

-- the members with others behind them
abbrev then_members : Members → Members → Members
then_members no_members more = more
then_members (member k d ms) more = member k d (then_members ms more)

-- each key of the members is below k
abbrev AreBelow : Members → List ℕ → Type 0
AreBelow no_members k = ⊤
AreBelow (member l d ms) k = (slice_cmp nat_cmp l k ≡ Less) × AreBelow ms k

AreBelow-more : (ms : Members) (k l : List ℕ) → AreBelow ms k → slice_cmp nat_cmp k l ≡ Less → AreBelow ms l
AreBelow-more no_members k l h e = tt
AreBelow-more (member j d ms) k l h e = (nat_list_cmp_total.trans j k l h.0 e, AreBelow-more ms k l h.1 e)

AreBelow-one : (ms : Members) (k l : List ℕ) (d : Data) → AreBelow ms l → slice_cmp nat_cmp k l ≡ Less → AreBelow (then_members ms (member k d no_members)) l
AreBelow-one no_members k l d h e = (e, tt)
AreBelow-one (member j e' ms) k l d h e = (h.0, AreBelow-one ms k l d h.1 e)

-- a key above the others goes last
put-above : (ms : Members) (k : List ℕ) (d : Data) → AreBelow ms k → put k d ms ≡ then_members ms (member k d no_members)
put-above no_members k d h = refl
put-above (member l e ms) k d h =
    let above : slice_cmp nat_cmp k l ≡ Greater = nat_list_cmp_total.antisymm k l ∙ ap ordering_reverse h.0 in
    rw above (ap (member l e) (put-above ms k d h.1))

regroup : (found ms : Members) (k : List ℕ) (d : Data) → then_members (then_members found (member k d no_members)) ms ≡ then_members found (member k d ms)
regroup no_members ms k d = refl
regroup (member l e found) ms k d = ap (member l e) (regroup found ms k d)

-- each key found is below the first of the members
AreBelowAll : Members → Members → Type 0
AreBelowAll found no_members = ⊤
AreBelowAll found (member k d ms) = AreBelow found k

AreBelowAll-next : (found ms : Members) (k : List ℕ) (d : Data) → AreBelow found k → comes_first k ms ≡ true → AreBelowAll (then_members found (member k d no_members)) ms
unfolding AreBelowAll
AreBelowAll-next found no_members k d h e = tt
AreBelowAll-next found (member l d' ms) k d h e =
    let less = is_lt-Less _ e in AreBelow-one found k l d (AreBelow-more found k l h less) less

then_none : (ms : Members) → then_members ms no_members ≡ ms
then_none no_members = refl
then_none (member k d ms) = ap (member k d) (then_none ms)

mutual
  unfolding AreBelowAll

  of_json-outline : (d : Data) → is_plain d ≡ true → of_json (outline d) ≡ Some d
  of_json-outline null h = refl
  of_json-outline (boolean b) h = refl
  of_json-outline (number (unsigned n)) h = ap (option_map number) (number_of-decimal n (count_fits n h))
  of_json-outline (number (negative z)) h = cc
  of_json-outline (number (float x)) h = cc
  of_json-outline (string s) h = refl
  of_json-outline (array ds) h = ap (option_map array) (of_items-outline ds h)
  of_json-outline (object ms) h = ap (option_map object) (of_members-outline no_members ms h (nothing_below ms))

  nothing_below : (ms : Members) → AreBelowAll no_members ms
  nothing_below no_members = tt
  nothing_below (member k d ms) = tt

  of_items-outline : (ds : Items) → items_are_plain ds ≡ true → of_items (items_outline ds) ≡ Some ds
  of_items-outline no_items h = refl
  of_items-outline (item d ds) h =
      let p = and_parts (is_plain d) _ h in
      rw (of_json-outline d p.0, of_items-outline ds p.1)

  of_members-outline : (found ms : Members) → members_are_plain ms ≡ true → AreBelowAll found ms → of_members (members_outline ms) found ≡ Some (then_members found ms)
  of_members-outline found no_members h below = ap Some (sym (then_none found))
  of_members-outline found (member k d ms) h below =
      let p = plain_member k d ms h in
      rw (of_json-outline d p.value, put-above found k d below)
      (of_members-outline (then_members found (member k d no_members)) ms p.others (AreBelowAll-next found ms k d below p.first) ∙ ap Some (regroup found ms k d))

-- ---- the laws

chosen : {A : Type 0} (b : Bool) (x : A) (t : A) → cond b (Some x) None ≡ Some t → (b ≡ true) × (x ≡ t)
chosen true x t h = (refl, cc)
chosen false x t h = cc

pub read-text : PlainIsRead
read-text d plain shallow =
    let j = outline d in
    let printed_tokens : tokens (text d) ≡ json_tokens j =
    ap tokens (sym (compact_text-plain d plain) ∙ sym (print-outline d)) ∙ tokens-print (json_tokens j) (ArePrintable-json_tokens j (HasNumbers-outline d plain)) in
    let flat : tree.depth j ≤ max_depth = omega (arith, depth-outline d) in
    ap (λ ts. option_and_then of_json (option_and_then (λ p. json.if_last p.0 p.1) (json.value max_depth ts))) (printed_tokens ∙ sym (append-nil (json_tokens j)))
    ∙ ap (λ o. option_and_then of_json (option_and_then (λ p. json.if_last p.0 p.1) o)) (value-json_tokens j max_depth [] flat)
    ∙ of_json-outline d plain

pub read-canon : CanonIsRead
read-canon x t h =
    let c = chosen (has_canon x) (text x) t h in
    let p = and_parts (is_plain x) _ c.0 in
    let shallow = p.1 in
    subst (λ s. read s ≡ Some x) c.1 (read-text x p.0 (grind (arith, nat_tests)))

pub canon-injective : CanonIsInjective
canon-injective x y t h k = let e = sym (read-canon x t h) ∙ read-canon y t k in cc
