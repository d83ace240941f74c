-- Where a head ends, and what more bytes change.
use Rattle.std.proofs.Common.{Ok, Err, Option, Some, None, cond, ◌≡◌, ◌≢◌, ◌&&◌, ℕ, ◌<◌, ◌≤◌, Bool, true, false, List, [], ◌∷◌, ◌++◌, length, refl, sym, ap, ◌∙◌, subst, arith, append_assoc, append-nil, length-append}
use Rattle.std.specs.Prelude.{codes, nat_le, nat_lt}
use Rattle.std.specs.List.{flat_map, list_all}
use Rattle.std.specs.Str.Parse.{digits_value}
use Rattle.std.proofs.lemmas.Bool.{leb-true}
use Rattle.std.proofs.lemmas.List.Folds.{list_all-append}
use Rattle.httparse.specs.Grammar.{RequestHead, LineEnd, crlf, lf, print_end, print_blank, print_version, print_field, print_section, print_request, HasNoRequest}
use Rattle.httparse.proofs.GrammarLemmas.{cons-append, print_request-append, request_unique, ReadsRequest-append}
use Rattle.up_heads.specs.Heads.{Heads, NeverHasHead, most_head}
use Rattle.up_heads.specs.Fields.{values, fields_of}
use Rattle.up_heads.specs.Framing.{framing, framing_of, length_stated, is_number, host_fits}
use Rattle.up_manifest.specs.Manifests.{largest_body}
use Rattle.up_http.specs.Requests.{size_of}
use Rattle.up_heads.specs.declared.check.Check.TheVariants.{BadRequest, TooLarge, NotImplemented}
use Rattle.up_http.specs.Parts.{is_newline}

both_true : (a b : Bool) → (a && b) ≡ true → (a ≡ true) × (b ≡ true)
both_true true b h = (refl, h)
both_true false b h = absurd (cc)

-- what fits into the first part of a list is a prefix of it
pub prefix_within : (a b c d : List ℕ) → a ++ b ≡ c ++ d → length c ≤ length a → (rest : List ℕ) × (a ≡ c ++ rest)
prefix_within a b [] d e h = (a, refl)
prefix_within [] b (x ∷ c) d e h = absurd (omega arith)
prefix_within (y ∷ a) b (x ∷ c) d e h =
    let tails : a ++ b ≡ c ++ d = cc in
    let same : y ≡ x = cc in
    let (rest, is) = prefix_within a b c d tails (omega arith) in
    (rest, λ i. same i ∷ is i)

same_last : (a b : List ℕ) (x y : ℕ) → a ++ x ∷ [] ≡ b ++ y ∷ [] → x ≡ y
same_last [] [] x y e = cc
same_last [] (c ∷ b) x y e = absurd (omega (arith, ap length e, length-append b (y ∷ [])))
same_last (c ∷ a) [] x y e = absurd (omega (arith, ap length e, length-append a (x ∷ [])))
same_last (c ∷ a) (d ∷ b) x y e = same_last a b x y (cc)

end_byte : (last : LineEnd) → (prefix : List ℕ) × (print_end last ≡ prefix ++ 10 ∷ [])
end_byte crlf = (13 ∷ [], refl)
end_byte lf = ([], refl)

regroup : (a b c d e f g k : List ℕ) → k ≡ g ++ 10 ∷ []
    → a ++ b ++ 32 ∷ c ++ 32 ∷ d ++ e ++ (f ++ k) ≡ (a ++ b ++ 32 ∷ c ++ 32 ∷ d ++ e ++ f ++ g) ++ 10 ∷ []
regroup a b c d e f g k is = rw is (simp (append_assoc, cons-append))

-- a head ends with a line feed
head_ends : (head : RequestHead) → (prefix : List ℕ) × (print_request head ≡ prefix ++ 10 ∷ [])
unfolding print_request
head_ends head =
    let (prefix, is) = end_byte head.last in (
      print_blank head.blank ++ head.method ++ 32 ∷ head.target ++ 32 ∷ print_version head.minor ++ print_end head.line_end ++ flat_map print_field head.fields ++ prefix,
      regroup (print_blank head.blank) head.method head.target (print_version head.minor) (print_end head.line_end) (flat_map print_field head.fields) prefix (print_end head.last) is,
    )

-- a byte that is no line feed ends no head
pub no_head_inside : (bytes : List ℕ) (byte : ℕ) → HasNoRequest bytes → byte ≢ 10 → HasNoRequest (bytes ++ byte ∷ [])
no_head_inside bytes byte none other head [] reads =
    let (prefix, is) = head_ends head in
    other (same_last bytes prefix byte 10 (reads.1 ∙ append-nil (print_request head) ∙ is))
no_head_inside bytes byte none other head (x ∷ after) reads =
    let (rest, is) = prefix_within bytes (byte ∷ []) (print_request head) (x ∷ after) reads.1
    (omega (arith, ap length reads.1, length-append bytes (byte ∷ []), length-append (print_request head) (x ∷ after))) in
    none head rest (reads.0, is)

-- a head that the last byte ends is all of the bytes
pub head_is_all : (bytes : List ℕ) (byte : ℕ) (head : RequestHead) (after : List ℕ) → HasNoRequest bytes → Heads (bytes ++ byte ∷ []) head after → Heads (bytes ++ byte ∷ []) head []
head_is_all bytes byte head [] none heads = heads
head_is_all bytes byte head (x ∷ after) none heads =
    let (rest, is) = prefix_within bytes (byte ∷ []) (print_request head) (x ∷ after) heads.reads.1
    (omega (arith, ap length heads.reads.1, length-append bytes (byte ∷ []), length-append (print_request head) (x ∷ after))) in
    absurd (none head rest (heads.reads.0, is))

-- where bytes have no head, the first of them have none
pub no_head_front : (bytes more : List ℕ) → HasNoRequest (bytes ++ more) → HasNoRequest bytes
no_head_front bytes more none head after reads = none head (after ++ more) (ReadsRequest-append bytes head after more reads)

-- line ends alone are no head
pub no_head_blank : (bytes : List ℕ) → list_all is_newline bytes ≡ true → HasNoRequest bytes
no_head_blank bytes blank head after reads =
    let rest = head.target ++ 32 ∷ (print_version head.minor ++ (print_end head.line_end ++ (print_section head.fields head.last ++ after))) in
    let whole : list_all is_newline (print_blank head.blank ++ (head.method ++ 32 ∷ rest)) ≡ true = ap (list_all is_newline) (sym (reads.1 ∙ print_request-append head after)) ∙ blank in
    let behind = (both_true (list_all is_newline (print_blank head.blank)) _ (sym (list_all-append is_newline (print_blank head.blank) (head.method ++ 32 ∷ rest)) ∙ whole)).1 in
    let spaced : list_all is_newline (32 ∷ rest) ≡ true = (both_true (list_all is_newline head.method) _ (sym (list_all-append is_newline head.method (32 ∷ rest)) ∙ behind)).1 in
    cc

-- bytes past the limit of a head have none, whatever follows
pub no_head_past : (bytes : List ℕ) → HasNoRequest bytes → most_head ≤ length bytes → NeverHasHead bytes
no_head_past bytes none past more head after heads =
    let (rest, is) = prefix_within bytes more (print_request head) after heads.reads.1 (omega (arith, heads.short)) in
    none head rest (heads.reads.0, is)

-- more bytes leave a head as it is
pub heads_more : (bytes : List ℕ) (head : RequestHead) (after more : List ℕ) → Heads bytes head after → Heads (bytes ++ more) head (after ++ more)
heads_more bytes head after more heads = record {
  reads = ReadsRequest-append bytes head after more heads.reads;
  few = heads.few;
  short = heads.short;
}

-- bytes begin with one head at most
pub heads_once : (bytes : List ℕ) (head other : RequestHead) (after rest : List ℕ) → Heads bytes head after → Heads bytes other rest → (head ≡ other) × (after ≡ rest)
heads_once bytes head other after rest p q = request_unique bytes head other after rest p.reads q.reads

-- a head has bytes
pub head_has_bytes : (bytes : List ℕ) (head : RequestHead) → Heads bytes head [] → 0 < length bytes
head_has_bytes bytes head heads =
    let (prefix, is) = head_ends head in
    omega (arith, ap length (heads.reads.1 ∙ append-nil (print_request head) ∙ is), length-append prefix (10 ∷ []))

pub head_short : (bytes : List ℕ) (head : RequestHead) → Heads bytes head [] → length bytes ≤ most_head
head_short bytes head heads = omega (arith, heads.short, ap length (heads.reads.1 ∙ append-nil (print_request head)))

-- ---- a body whose length is stated is within its limit

small_value : (n : ℕ) (fits : Bool) (stated : Option ℕ) → nat_le n largest_body ≡ fits → cond fits (Ok (Some n)) (Err TooLarge) ≡ Ok stated → size_of stated ≤ largest_body
small_value n true stated is same =
    let here : Some n ≡ stated = cc in
    subst (λ o. size_of o ≤ largest_body) here (leb-true n largest_body is)
small_value n false stated is same = absurd (cc)

small_number : (n : ℕ) (digits : Bool) (stated : Option ℕ) → cond digits (cond (nat_le n largest_body) (Ok (Some n)) (Err TooLarge)) (Err BadRequest) ≡ Ok stated → size_of stated ≤ largest_body
small_number n true stated same = small_value n (nat_le n largest_body) stated refl same
small_number n false stated same = absurd (cc)

small_stated : (values : List (List ℕ)) (stated : Option ℕ) → length_stated values ≡ Ok stated → size_of stated ≤ largest_body
small_stated [] stated same = let none : None ≡ stated = cc in subst (λ o. size_of o ≤ largest_body) none (omega arith)
small_stated (value ∷ []) stated same = small_number (digits_value 10 value) (is_number value) stated same
small_stated (value ∷ other ∷ rest) stated same = absurd (cc)

small_framing : (hosts coded : Bool) (values : List (List ℕ)) (stated : Option ℕ) → cond hosts (cond coded (Err NotImplemented) (length_stated values)) (Err BadRequest) ≡ Ok stated → size_of stated ≤ largest_body
small_framing true true values stated same = absurd (cc)
small_framing true false values stated same = small_stated values stated same
small_framing false coded values stated same = absurd (cc)

-- a body whose length is stated is within its limit
pub framing_small : (head : RequestHead) (stated : Option ℕ) → framing head ≡ Ok stated → size_of stated ≤ largest_body
unfolding framing framing_of
framing_small head stated same =
    small_framing (host_fits head.minor (length (values (codes "host") (fields_of head)))) (nat_lt 0 (length (values (codes "transfer-encoding") (fields_of head)))) (values (codes "content-length") (fields_of head)) stated same
