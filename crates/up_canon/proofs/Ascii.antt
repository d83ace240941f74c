-- A canonical text is ASCII.
use Rattle.std.proofs.Common.{◌≡◌, ℕ, ◌<◌, List, [], ◌∷◌, ◌++◌, Bool, true, false, cond, refl, arith}
use Rattle.std.specs.Prelude.{◌&&◌, ◌||◌, ◌==◌, flat_map, nat_le, codes, decimal, IsAscii}
use Rattle.std.proofs.lemmas.Bool.{and_parts}
use Rattle.std.proofs.lemmas.Bool.Decides.{nat_tests}
use Rattle.std.proofs.lemmas.Fmt.{IsAscii-decimal}
use Rattle.std.proofs.lemmas.Str.{IsAscii-append}
use Rattle.std.proofs.lemmas.Str.Ascii.{IsAscii-nil, IsAscii-cons}
use Rattle.serde_json.specs.Data.{unsigned, negative, float, Data, null, boolean, number, string, array, object, Items, no_items, item, Members, no_members, member}
use Rattle.up_canon.specs.Canon.{max_count, is_printable, is_printable_text, is_plain, items_are_plain, members_are_plain, escape_of, json_string, text, items_text, more_items_text, members_text, more_members_text}
use Rattle.up_canon.proofs.PlainMembers.{plain_member}

-- one byte more in front
byte : (b : ℕ) (bs : List ℕ) → nat_le b 127 ≡ true → IsAscii bs → IsAscii (b ∷ bs)
byte b bs h rest = let small : b < 128 = grind (arith, nat_tests) in IsAscii-cons b bs small rest

-- every byte is below 128
abbrev pub are_small : List ℕ → Bool
are_small [] = true
are_small (b ∷ bs) = nat_le b 127 && are_small bs

pub small-ascii : (bs : List ℕ) → are_small bs ≡ true → IsAscii bs
small-ascii [] h = IsAscii-nil
small-ascii (b ∷ bs) h = let p = and_parts (nat_le b 127) _ h in byte b bs p.0 (small-ascii bs p.1)

small : (x : ℕ) → is_printable x ≡ true → nat_le x 127 ≡ true
small x h = grind (arith, nat_tests)

escape_of-ascii : (x : ℕ) → is_printable x ≡ true → IsAscii (escape_of x)
escape_of-ascii x h = by_test ((x == 34) || (x == 92))
  where
    by_test : (b : Bool) → IsAscii (cond b (92 ∷ x ∷ []) (x ∷ []))
    by_test true = byte 92 (x ∷ []) refl (byte x [] (small x h) IsAscii-nil)
    by_test false = byte x [] (small x h) IsAscii-nil

escaped_text-ascii : (s : List ℕ) → is_printable_text s ≡ true → IsAscii (flat_map escape_of s)
escaped_text-ascii [] h = IsAscii-nil
escaped_text-ascii (x ∷ s) h = let p = and_parts (is_printable x) _ h in IsAscii-append (escape_of x) (flat_map escape_of s) (escape_of-ascii x p.0) (escaped_text-ascii s p.1)

json_string-ascii : (s : List ℕ) → is_printable_text s ≡ true → IsAscii (json_string s)
json_string-ascii s h = byte 34 (flat_map escape_of s ++ 34 ∷ []) refl (IsAscii-append (flat_map escape_of s) (34 ∷ []) (escaped_text-ascii s h) (byte 34 [] refl IsAscii-nil))

count-ascii : (n : ℕ) → nat_le n max_count ≡ true → IsAscii (decimal n)
count-ascii n h = IsAscii-decimal n (grind (arith, nat_tests))

mutual
  pub text-ascii : (d : Data) → is_plain d ≡ true → IsAscii (text d)
  text-ascii null h = small-ascii (codes "null") refl
  text-ascii (boolean true) h = small-ascii (codes "true") refl
  text-ascii (boolean false) h = small-ascii (codes "false") refl
  text-ascii (number (unsigned n)) h = count-ascii n h
  text-ascii (number (negative z)) h = cc
  text-ascii (number (float x)) h = cc
  text-ascii (string s) h = json_string-ascii s h
  text-ascii (array ds) h = byte 91 (items_text ds) refl (items-ascii ds h)
  text-ascii (object ms) h = byte 123 (members_text ms) refl (members-ascii ms h)

  items-ascii : (ds : Items) → items_are_plain ds ≡ true → IsAscii (items_text ds)
  items-ascii no_items h = byte 93 [] refl IsAscii-nil
  items-ascii (item d ds) h = let p = and_parts (is_plain d) _ h in IsAscii-append (text d) (more_items_text ds) (text-ascii d p.0) (more_items-ascii ds p.1)

  more_items-ascii : (ds : Items) → items_are_plain ds ≡ true → IsAscii (more_items_text ds)
  more_items-ascii no_items h = byte 93 [] refl IsAscii-nil
  more_items-ascii (item d ds) h =
      let p = and_parts (is_plain d) _ h in
      byte 44 (text d ++ more_items_text ds) refl (IsAscii-append (text d) (more_items_text ds) (text-ascii d p.0) (more_items-ascii ds p.1))

  members-ascii : (ms : Members) → members_are_plain ms ≡ true → IsAscii (members_text ms)
  members-ascii no_members h = byte 125 [] refl IsAscii-nil
  members-ascii (member k d ms) h =
      let p = plain_member k d ms h in
      IsAscii-append (json_string k) (58 ∷ (text d ++ more_members_text ms)) (json_string-ascii k p.key)
      (byte 58 (text d ++ more_members_text ms) refl (IsAscii-append (text d) (more_members_text ms) (text-ascii d p.value) (more_members-ascii ms p.others)))

  more_members-ascii : (ms : Members) → members_are_plain ms ≡ true → IsAscii (more_members_text ms)
  more_members-ascii no_members h = byte 125 [] refl IsAscii-nil
  more_members-ascii (member k d ms) h =
      let p = plain_member k d ms h in
      byte 44 (json_string k ++ 58 ∷ (text d ++ more_members_text ms)) refl
      (IsAscii-append (json_string k) (58 ∷ (text d ++ more_members_text ms)) (json_string-ascii k p.key)
      (byte 58 (text d ++ more_members_text ms) refl (IsAscii-append (text d) (more_members_text ms) (text-ascii d p.value) (more_members-ascii ms p.others))))
