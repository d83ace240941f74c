-- A reader of a member answers exactly the member of its name.
use Rattle.std.proofs.Common.{◌≡◌, ℕ, ◌≤◌, List, Bool, true, false, cond, Option, Some, None, Result, Ok, Err, length, refl, ap, ◌∙◌, subst, sym, arith}
use Rattle.std.specs.Prelude.{option_and_then, option_map, nat_le, codes}
use Rattle.std.specs.Cmp.Lexicographic.{bytes_decides}
use Rattle.std.proofs.lemmas.Bool.{and_parts}
use Rattle.std.proofs.lemmas.Bool.Decides.{nat_tests}
use Rattle.serde_json.specs.Data.{unsigned, negative, float, Data, null, boolean, number, string, array, object, Items, Members}
use Rattle.serde_json.specs.Find as json
use Rattle.up_canon.specs.Canon.{max_count}
use Rattle.up_canon.specs.Names.{Name, is_from_to, is_ident, is_file_name, is_note, is_short_text}
use Rattle.up_canon.specs.Moments.{read_moment}
use Rattle.up_canon.specs.HexText.{hex_of, hex_in, sha256_in, sha512_in}
use Rattle.up_canon.specs.Members.{items_list, text_of, count_of, list_of, object_of, member_in, text_in, count_in, list_in, object_in}
use Rattle.up_canon.specs.Readers.{fitting, ident_of, file_name_of, note_of, ident_in, file_name_in, note_in, word_in, short_text_in, positive_in, list_within, moment_in}
use Rattle.up_canon.specs.Steps.{◌>>=◌, or_error, if_passes, value_of}
use Rattle.up_canon.specs.declared.refusal.Refusal.TheVariants.{BadShape}
use Rattle.up_canon.specs.Meaning.{HasText, HasCount, HasObject, HasHex, MeansIfAny}
use Rattle.up_canon.proofs.Steps.{first_ok, bind-ok, or_error_ok, unless_ok, value_of_some, passed}

-- ---- what a value is

pub is_text : (d : Data) (t : List ℕ) → json.as_str d ≡ Some t → d ≡ string t
is_text null t h = cc
is_text (boolean b) t h = cc
is_text (number n) t h = cc
is_text (string s) t h = let same : s ≡ t = cc in ap string same
is_text (array ds) t h = cc
is_text (object ms) t h = cc

pub is_number : (d : Data) (n : ℕ) → if_passes (λ m. nat_le m max_count) (option_and_then json.as_u64 (json.as_number d)) ≡ Some n → (d ≡ number (unsigned n)) × (n ≤ max_count)
is_number null n h = cc
is_number (boolean b) n h = cc
is_number (number (unsigned m)) n h = by_test (nat_le m max_count) refl h
  where
    by_test : (b : Bool) → nat_le m max_count ≡ b → cond b (Some m) None ≡ Some n → (number (unsigned m) ≡ number (unsigned n)) × (n ≤ max_count)
    by_test true e h = let same : m ≡ n = cc in (ap (λ x. number (unsigned x)) same, grind (arith, nat_tests))
    by_test false e h = cc
is_number (number (negative z)) n h = cc
is_number (number (float x)) n h = cc
is_number (string s) n h = cc
is_number (array ds) n h = cc
is_number (object ms) n h = cc

pub is_list : (d : Data) (ds : List Data) → option_map items_list (json.as_array d) ≡ Some ds → (items : Items) × (d ≡ array items) × (items_list items ≡ ds)
is_list null ds h = cc
is_list (boolean b) ds h = cc
is_list (number n) ds h = cc
is_list (string s) ds h = cc
is_list (array items) ds h = (items, refl, cc)
is_list (object ms) ds h = cc

pub is_some_object : (d o : Data) → option_map object (json.as_object d) ≡ Some o → (ms : Members) × (d ≡ object ms) × (o ≡ object ms)
is_some_object null o h = cc
is_some_object (boolean b) o h = cc
is_some_object (number n) o h = cc
is_some_object (string s) o h = cc
is_some_object (array items) o h = cc
is_some_object (object ms) o h = (ms, refl, cc)

-- ---- the four kinds

pub text_read : (name : List ℕ) (d : Data) (t : Name) → text_in name d ≡ Ok t → HasText d name t
unfolding text_in member_in text_of
text_read name d t h = first_ok _ _ _ _ h (λ v has h. or_error_ok _ _ v has ∙ ap Some (is_text v t (or_error_ok _ _ t h)))

pub text_there : (name : List ℕ) (d : Data) (t : Name) → HasText d name t → text_in name d ≡ Ok t
unfolding text_in member_in text_of
text_there name d t has = bind-ok _ _ (string t) (rw has)

pub count_read : (name : List ℕ) (d : Data) (n : ℕ) → count_in name d ≡ Ok n → HasCount d name n
unfolding count_in member_in count_of
count_read name d n h = first_ok _ _ _ _ h (λ v has h. let p = is_number v n (or_error_ok _ _ n h) in (or_error_ok _ _ v has ∙ ap Some p.0, p.1))

pub count_there : (name : List ℕ) (d : Data) (n : ℕ) → HasCount d name n → count_in name d ≡ Ok n
unfolding count_in member_in count_of
count_there name d n has =
    let there = has.0 in
    let small = has.1 in
    let test : nat_le n max_count ≡ true = grind (arith, nat_tests) in
    bind-ok _ _ (number (unsigned n)) (rw there) ∙ (rw test)

pub list_read : (name : List ℕ) (d : Data) (ds : List Data) → list_in name d ≡ Ok ds → (items : Items) × (json.get name d ≡ Some (array items)) × (items_list items ≡ ds)
unfolding list_in member_in list_of
list_read name d ds h = first_ok _ _ _ _ h (λ v has h. let p = is_list v ds (or_error_ok _ _ ds h) in (p.0, or_error_ok _ _ v has ∙ ap Some p.1, p.2))

pub list_there : (name : List ℕ) (d : Data) (items : Items) → json.get name d ≡ Some (array items) → list_in name d ≡ Ok (items_list items)
unfolding list_in member_in list_of
list_there name d items has = bind-ok _ _ (array items) (rw has)

pub object_read : (name : List ℕ) (d o : Data) → object_in name d ≡ Ok o → HasObject d name o
unfolding object_in member_in object_of
object_read name d o h = first_ok _ _ _ _ h (λ v has h. let p = is_some_object v o (or_error_ok _ _ o h) in (p.0, or_error_ok _ _ v has ∙ ap Some p.1, p.2))

pub object_there : (name : List ℕ) (d o : Data) → HasObject d name o → object_in name d ≡ Ok o
unfolding object_in member_in object_of
object_there name d o has = let there = has.1 in bind-ok _ _ (object has.0) (rw there) ∙ ap Ok (sym has.2)

-- what has a member is an object
pub has_member : (name : List ℕ) (d e : Data) → json.get name d ≡ Some e → (ms : Members) × (d ≡ object ms)
has_member name null e h = cc
has_member name (boolean b) e h = cc
has_member name (number n) e h = cc
has_member name (string s) e h = cc
has_member name (array ds) e h = cc
has_member name (object ms) e h = (ms, refl)

pub self_read : (name : List ℕ) (d o : Data) → object_of name d ≡ Ok o → d ≡ o
unfolding object_of
self_read name d o h = let p = is_some_object d o (or_error_ok _ _ o h) in p.1 ∙ sym p.2

pub self_there : (name : List ℕ) (d : Data) (o : (ms : Members) × (d ≡ object ms)) → object_of name d ≡ Ok d
unfolding object_of
self_there name d o = rw o.1 refl

-- ---- within limits

pub fits_read : {A : Type 0} (fits : A → Bool) (name : List ℕ) (x y : A) → fitting fits name x ≡ Ok y → (fits y ≡ true) × (x ≡ y)
fits_read fits name x y h = let p = passed (fits x) x y _ h in (subst (λ z. fits z ≡ true) p.1 p.0, p.1)

pub fits_there : {A : Type 0} (fits : A → Bool) (name : List ℕ) (x : A) → fits x ≡ true → fitting fits name x ≡ Ok x
fits_there fits name x h = rw h

-- a text of that name that passes a test
fitting_read : (fits : List ℕ → Bool) (name : List ℕ) (d : Data) (t : List ℕ) → (member_in name d >>= λ v. text_of name v >>= λ s. fitting fits name s) ≡ Ok t → HasText d name t × (fits t ≡ true)
unfolding member_in text_of
fitting_read fits name d t h = first_ok _ _ _ _ h (λ v has h. first_ok _ _ _ _ h (λ s is h. let p = fits_read fits name s t h in
    (subst (HasText d name) p.1 (or_error_ok _ _ v has ∙ ap Some (is_text v s (or_error_ok _ _ s is))), p.0)))

fitting_there : (fits : List ℕ → Bool) (name : List ℕ) (d : Data) (t : List ℕ) → HasText d name t → fits t ≡ true → (member_in name d >>= λ v. text_of name v >>= λ s. fitting fits name s) ≡ Ok t
unfolding member_in text_of
fitting_there fits name d t has ok = bind-ok _ _ (string t) (rw has) ∙ bind-ok _ _ t refl ∙ fits_there fits name t ok

pub ident_read : (name : List ℕ) (d : Data) (t : Name) → ident_in name d ≡ Ok t → HasText d name t × (is_ident t ≡ true)
unfolding ident_in ident_of
ident_read = fitting_read is_ident

pub file_name_read : (name : List ℕ) (d : Data) (t : Name) → file_name_in name d ≡ Ok t → HasText d name t × (is_file_name t ≡ true)
unfolding file_name_in file_name_of
file_name_read = fitting_read is_file_name

pub note_read : (name : List ℕ) (d : Data) (t : Name) → note_in name d ≡ Ok t → HasText d name t × (is_note t ≡ true)
unfolding note_in note_of
note_read = fitting_read is_note

pub ident_there : (name : List ℕ) (d : Data) (t : Name) → HasText d name t → is_ident t ≡ true → ident_in name d ≡ Ok t
unfolding ident_in ident_of
ident_there = fitting_there is_ident

pub file_name_there : (name : List ℕ) (d : Data) (t : Name) → HasText d name t → is_file_name t ≡ true → file_name_in name d ≡ Ok t
unfolding file_name_in file_name_of
file_name_there = fitting_there is_file_name

pub note_there : (name : List ℕ) (d : Data) (t : Name) → HasText d name t → is_note t ≡ true → note_in name d ≡ Ok t
unfolding note_in note_of
note_there = fitting_there is_note

pub word_read : (word name : List ℕ) (d : Data) → word_in word name d ≡ Ok tt → HasText d name word
unfolding word_in
word_read word name d h = first_ok _ _ _ _ h (λ t has h. let same : t ≡ word = (bytes_decides t word).0 (unless_ok _ _ tt h) in subst (HasText d name) same (text_read name d t has))

pub word_there : (word name : List ℕ) (d : Data) → HasText d name word → word_in word name d ≡ Ok tt
unfolding word_in
word_there word name d has = bind-ok _ _ word (text_there name d word has) ∙ rw ((bytes_decides word word).1 refl)

pub short_text_read : (least most : ℕ) (name : List ℕ) (d : Data) (t : Name) → short_text_in least most name d ≡ Ok t → HasText d name t × (is_short_text least most t ≡ true)
unfolding short_text_in
short_text_read least most name d t h = first_ok _ _ _ _ h (λ s has h. let p = fits_read (is_short_text least most) name s t h in (subst (HasText d name) p.1 (text_read name d s has), p.0))

pub short_text_there : (least most : ℕ) (name : List ℕ) (d : Data) (t : Name) → HasText d name t → is_short_text least most t ≡ true → short_text_in least most name d ≡ Ok t
unfolding short_text_in
short_text_there least most name d t has ok = bind-ok _ _ t (text_there name d t has) ∙ fits_there (is_short_text least most) name t ok

pub positive_read : (name : List ℕ) (d : Data) (n : ℕ) → positive_in name d ≡ Ok n → HasCount d name n × (1 ≤ n)
unfolding positive_in
positive_read name d n h = first_ok _ _ _ _ h (λ m has h. let p = fits_read (nat_le 1) name m n h in let test = p.0 in (subst (HasCount d name) p.1 (count_read name d m has), grind (arith, nat_tests)))

pub positive_there : (name : List ℕ) (d : Data) (n : ℕ) → HasCount d name n → 1 ≤ n → positive_in name d ≡ Ok n
unfolding positive_in
positive_there name d n has ok = let test : nat_le 1 n ≡ true = grind (arith, nat_tests) in bind-ok _ _ n (count_there name d n has) ∙ fits_there (nat_le 1) name n test

pub within : (least most n : ℕ) → is_from_to least most n ≡ true → (least ≤ n) × (n ≤ most)
within least most n h = let p = and_parts (nat_le least n) _ h in let low = p.0 in let high = p.1 in (grind (arith, nat_tests), grind (arith, nat_tests))

pub within_there : (least most n : ℕ) → least ≤ n → n ≤ most → is_from_to least most n ≡ true
within_there least most n low high = grind (arith, nat_tests)

pub list_within_read : (least most : ℕ) (name : List ℕ) (d : Data) (ds : List Data) → list_within least most name d ≡ Ok ds
    → (items : Items) × (json.get name d ≡ Some (array items)) × (items_list items ≡ ds) × (least ≤ length ds) × (length ds ≤ most)
unfolding list_within
list_within_read least most name d ds h = first_ok _ _ _ _ h (λ es has h.
    let p = fits_read (λ ds. is_from_to least most (length ds)) name es ds h in
    let q = within least most (length ds) p.0 in
    let l = list_read name d es has in
    (l.0, l.1, l.2 ∙ p.1, q.0, q.1))

pub list_within_there : (least most : ℕ) (name : List ℕ) (d : Data) (items : Items) → json.get name d ≡ Some (array items)
    → least ≤ length (items_list items) → length (items_list items) ≤ most → list_within least most name d ≡ Ok (items_list items)
unfolding list_within
list_within_there least most name d items has low high =
    bind-ok _ _ (items_list items) (list_there name d items has) ∙ fits_there (λ ds. is_from_to least most (length ds)) name (items_list items) (within_there least most _ low high)

-- ---- hexadecimal text and moments

hex_of_read : (least most : ℕ) (name : List ℕ) (d v : Data) (bytes : List ℕ) → json.get name d ≡ Some v → hex_of least most name v ≡ Ok bytes → HasHex least most d name bytes
unfolding hex_of text_of
hex_of_read least most name d v bytes has h = first_ok _ _ _ _ h (λ t is h. first_ok _ _ _ _ h (λ digits fits h.
    let p = fits_read (λ t. is_from_to least most (length t)) name t digits fits in
    let q = within least most (length digits) p.0 in
    record {
      digits = digits;
      has_digits = subst (HasText d name) p.1 (has ∙ ap Some (is_text v t (or_error_ok _ _ t is)));
      at_least = q.0;
      at_most = q.1;
      decoded = value_of_some _ bytes (or_error_ok _ _ bytes h);
    }))

hex_of_there : (least most : ℕ) (name : List ℕ) (d : Data) (bytes : List ℕ) (h : HasHex least most d name bytes) → hex_of least most name (string h.digits) ≡ Ok bytes
unfolding hex_of text_of
hex_of_there least most name d bytes h =
    bind-ok _ _ h.digits refl
    ∙ bind-ok _ _ h.digits (fits_there (λ t. is_from_to least most (length t)) name h.digits (within_there least most _ h.at_least h.at_most))
    ∙ ap (λ r. or_error (BadShape name) (value_of r)) h.decoded

pub hex_read : (least most : ℕ) (name : List ℕ) (d : Data) (bytes : List ℕ) → hex_in least most name d ≡ Ok bytes → HasHex least most d name bytes
unfolding hex_in member_in
hex_read least most name d bytes h = first_ok _ _ _ _ h (λ v has h. hex_of_read least most name d v bytes (or_error_ok _ _ v has) h)

pub hex_there : (least most : ℕ) (name : List ℕ) (d : Data) (bytes : List ℕ) → HasHex least most d name bytes → hex_in least most name d ≡ Ok bytes
unfolding hex_in member_in
hex_there least most name d bytes h = bind-ok _ _ (string h.digits) (ap (or_error (BadShape name)) h.has_digits) ∙ hex_of_there least most name d bytes h

pub sha256_read : (name : List ℕ) (d : Data) (bytes : List ℕ) → sha256_in name d ≡ Ok bytes → HasHex 64 64 d name bytes
unfolding sha256_in member_in
sha256_read name d bytes h = first_ok _ _ _ _ h (λ v has h. hex_of_read 64 64 name d v bytes (or_error_ok _ _ v has) h)

pub sha256_there : (name : List ℕ) (d : Data) (bytes : List ℕ) → HasHex 64 64 d name bytes → sha256_in name d ≡ Ok bytes
unfolding sha256_in member_in
sha256_there name d bytes h = bind-ok _ _ (string h.digits) (ap (or_error (BadShape name)) h.has_digits) ∙ hex_of_there 64 64 name d bytes h

-- what is read is the value of which M holds, or there is none such: decided by a reading that is that value exactly where M holds of it
pub if_any_read : {A E : Type 0} (M : A → Type 0) (r : Result A E) → ((x : A) → r ≡ Ok x → M x) → ((x : A) → M x → r ≡ Ok x) → MeansIfAny M (value_of r)
if_any_read M (Ok x) read there = read x refl
if_any_read M (Err e) read there = λ x m. let same = there x m in cc

pub if_any_there : {A E : Type 0} (M : A → Type 0) (r : Result A E) (o : Option A) → ((x : A) → r ≡ Ok x → M x) → ((x : A) → M x → r ≡ Ok x) → MeansIfAny M o → value_of r ≡ o
if_any_there M r (Some x) read there m = ap value_of (there x m)
if_any_there M (Ok x) None read there none = absurd (none x (read x refl))
if_any_there M (Err e) None read there none = refl

pub sha512_read : (hashes : Data) → MeansIfAny (HasHex 128 128 hashes (codes "sha512")) (sha512_in hashes)
unfolding sha512_in
sha512_read hashes = if_any_read _ (hex_in 128 128 (codes "sha512") hashes) (hex_read 128 128 (codes "sha512") hashes) (hex_there 128 128 (codes "sha512") hashes)

pub sha512_there : (hashes : Data) (hash : Option (List ℕ)) → MeansIfAny (HasHex 128 128 hashes (codes "sha512")) hash → sha512_in hashes ≡ hash
unfolding sha512_in
sha512_there hashes hash = if_any_there _ (hex_in 128 128 (codes "sha512") hashes) hash (hex_read 128 128 (codes "sha512") hashes) (hex_there 128 128 (codes "sha512") hashes)

pub moment_read : (name : List ℕ) (d : Data) (m : ℕ) → moment_in name d ≡ Ok m → (t : List ℕ) × HasText d name t × (read_moment t ≡ Some m)
unfolding moment_in
moment_read name d m h = first_ok _ _ _ _ h (λ t has h. (t, text_read name d t has, or_error_ok _ _ m h))

pub moment_there : (name : List ℕ) (d : Data) (t : List ℕ) (m : ℕ) → HasText d name t → read_moment t ≡ Some m → moment_in name d ≡ Ok m
unfolding moment_in
moment_there name d t m has is = bind-ok _ _ t (text_there name d t has) ∙ ap (or_error (BadShape name)) is
