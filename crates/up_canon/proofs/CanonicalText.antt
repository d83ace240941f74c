-- A value that passes the test is printed as its canonical text.
use Rattle.std.proofs.Common.{◌≡◌, ℕ, List, Bool, true, false, ◌||◌, Ok, Err, refl, ◌∙◌}
use Rattle.std.proofs.lemmas.Bool.{and_parts}
use Rattle.serde_json.specs.Data.{unsigned, negative, float, Data, null, boolean, number, string, array, object, Items, no_items, item, Members, no_members, member}
use Rattle.serde_json.specs.Written.{has_float, items_have_float, members_have_float, compact_text}
use Rattle.up_canon.specs.Canon.{has_canon, is_plain, items_are_plain, members_are_plain, text}
use Rattle.up_canon.specs.Refusals.{canonical_text}
use Rattle.up_canon.specs.declared.refusal.Refusal.TheVariants.{NotCanonical}
use Rattle.up_canon.proofs.CanonLaws.{compact_text-plain}
use Rattle.up_canon.proofs.PlainMembers.{plain_member}

neither : (a b : Bool) → a ≡ false → b ≡ false → (a || b) ≡ false
neither a b p q = rw p q

mutual
  no_float : (d : Data) → is_plain d ≡ true → has_float d ≡ false
  no_float null h = refl
  no_float (boolean b) h = refl
  no_float (number (unsigned n)) h = refl
  no_float (number (negative z)) h = refl
  no_float (number (float x)) h = cc
  no_float (string s) h = refl
  no_float (array ds) h = no_floats ds h
  no_float (object ms) h = no_member_floats ms h

  no_floats : (ds : Items) → items_are_plain ds ≡ true → items_have_float ds ≡ false
  no_floats no_items h = refl
  no_floats (item d ds) h = let p = and_parts (is_plain d) _ h in neither (has_float d) (items_have_float ds) (no_float d p.0) (no_floats ds p.1)

  no_member_floats : (ms : Members) → members_are_plain ms ≡ true → members_have_float ms ≡ false
  no_member_floats no_members h = refl
  no_member_floats (member k d ms) h =
      let p = plain_member k d ms h in
      neither (has_float d) (members_have_float ms) (no_float d p.value) (no_member_floats ms p.others)

-- what is printed of a value with a canonical text
pub printed : (d : Data) (t : List ℕ) → has_canon d ≡ true → (has_float d ≡ false → t ≡ compact_text d) → t ≡ text d
printed d t h is =
    let p = and_parts (is_plain d) _ h in
    is (no_float d p.0) ∙ compact_text-plain d p.0

pub has_one : (d : Data) (t : List ℕ) → has_canon d ≡ true → t ≡ text d → canonical_text d ≡ Ok t
unfolding canonical_text
has_one d t h is = rw (h, is) refl

pub has_none : (d : Data) → has_canon d ≡ false → canonical_text d ≡ Err NotCanonical
unfolding canonical_text
has_none d h = rw h
