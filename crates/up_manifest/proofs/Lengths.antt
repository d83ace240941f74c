-- How long the texts of envelopes, reports and manifests are at most.
use Rattle.std.proofs.Common.{◌≡◌, ℕ, lit<, lit≤, ◌+◌, ◌*◌, ◌≤◌, List, [], ◌∷◌, ◌++◌, Bool, true, false, cond, Option, Some, None, length, map, refl, ap, ◌∙◌, arith, append_assoc, length-append}
use Rattle.std.specs.Prelude.{◌||◌, ◌==◌, not, nat_lt, codes, decimal, flat_map}
use Rattle.std.specs.List.{list_all, join_with_byte}
use Rattle.std.proofs.lemmas.Bool.{and_parts}
use Rattle.std.proofs.lemmas.Fmt.{length-decimal-le}
use Rattle.hex.specs.Hex.{encode_lower, lower_digits}
use Rattle.hex.proofs.HexLemmas.{length-encode_with}
use Rattle.up_canon.specs.Build.{list_with, hashes_value}
use Rattle.up_canon.specs.Canon.{max_count, text, json_string, escape_of}
use Rattle.up_canon.specs.Moments.{moment_text, MomentTextIsPlain}
use Rattle.up_canon.specs.Names.{is_from_to, is_short_text, is_ident}
use Rattle.up_canon.specs.HexText.{is_second_hash}
use Rattle.up_canon.proofs.Hashes.{sha512_size}
use Rattle.up_canon.proofs.Members.{within}
use Rattle.up_canon.proofs.Printable.{all-hex}
use Rattle.up_sign.specs.Formats.{signature_fits, envelope_fits, signature_value, envelope_text}
use Rattle.up_sign.specs.declared.envelope.Signature.{Signature}
use Rattle.up_sign.specs.declared.envelope.Envelope.{Envelope}
use Rattle.up_manifest.specs.Building.{installed_value, report_text, ReportFits, IsReportEnvelope, AreReportEnvelopes, list_text, manifest_text}
use Rattle.up_manifest.specs.Manifests.{most_reports}
use Rattle.up_manifest.specs.declared.report.Report.{Report}

escape_of-length : (x : ℕ) → length (escape_of x) ≤ 2
escape_of-length x = by_test ((x == 34) || (x == 92))
  where
    by_test : (b : Bool) → length (cond b (92 ∷ x ∷ []) (x ∷ [])) ≤ 2
    by_test true = lit≤ tt
    by_test false = lit≤ tt

escapes-length : (t : List ℕ) → length (flat_map escape_of t) ≤ 2 * length t
escapes-length [] = omega arith
escapes-length (x ∷ t) = omega (arith, length-append (escape_of x) (flat_map escape_of t), escape_of-length x, escapes-length t)

pub json_string-length : (t : List ℕ) (n : ℕ) → length t ≤ n → length (json_string t) ≤ 2 * n + 2
json_string-length t n h = omega (arith, length-append (flat_map escape_of t) (34 ∷ []), escapes-length t)

hex-length : (xs : List ℕ) (n : ℕ) → length xs ≤ n → length (json_string (encode_lower xs)) ≤ 4 * n + 2
hex-length xs n h = let size = length-encode_with lower_digits xs in let q = json_string-length (encode_lower xs) (2 * n) (omega arith) in omega (arith, q)

pub count-length : (n : ℕ) → n ≤ max_count → length (decimal n) ≤ 16
count-length n h = length-decimal-le 16 n (lit< tt) (omega arith) (omega arith)

pub short-length : (least most : ℕ) (t : List ℕ) → is_short_text least most t ≡ true → length t ≤ most
short-length least most t h =
    let p = and_parts (is_from_to least most (length t)) _ h in
    (within least most (length t) p.0).1

-- ---- signatures

signature-spelled : (s : Signature) → text (signature_value s) ≡ codes "{\"keyid\":" ++ (json_string s.keyid ++ (codes ",\"method\":" ++ (json_string s.method ++ (codes ",\"sig\":" ++ (json_string (encode_lower s.sig) ++ codes "}")))))
unfolding signature_value
signature-spelled s = refl

pub sum-seven : (a b c d e f g : List ℕ) → length (a ++ (b ++ (c ++ (d ++ (e ++ (f ++ g)))))) ≡ length a + (length b + (length c + (length d + (length e + (length f + length g)))))
sum-seven a b c d e f g = simp length-append

pub signature-length : (s : Signature) → signature_fits s ≡ true → length (text (signature_value s)) ≤ 2500
signature-length s h =
    let p = and_parts (is_short_text 1 128 s.keyid) _ h in
    let q = and_parts (is_short_text 1 64 s.method) _ p.1 in
    let k = json_string-length s.keyid 128 (short-length 1 128 s.keyid p.0) in
    let m = json_string-length s.method 64 (short-length 1 64 s.method q.0) in
    let g = hex-length s.sig 512 (within 1 512 (length s.sig) q.1).1 in
    let sum = ap length (signature-spelled s) ∙ sum-seven (codes "{\"keyid\":") (json_string s.keyid) (codes ",\"method\":") (json_string s.method) (codes ",\"sig\":") (json_string (encode_lower s.sig)) (codes "}") in
    omega (arith, sum, k, m, g)

-- ---- envelopes of one signature

pub sum-five : (a b c d e : List ℕ) → length (a ++ b ++ c ++ d ++ e) ≡ length a + length b + length c + length d + length e
sum-five a b c d e = simp length-append

one-signature : (ss : List Signature) → length ss ≡ 1 → list_all signature_fits ss ≡ true → length (text (list_with (map signature_value ss))) ≤ 2502
one-signature [] h fits = absurd (omega arith)
one-signature (s ∷ []) h fits =
    let p = and_parts (signature_fits s) _ fits in
    omega (arith, length-append (text (signature_value s)) (93 ∷ []), signature-length s p.0)
one-signature (s ∷ t ∷ ss) h fits = absurd (omega arith)

pub envelope-length : (e : Envelope) (n : ℕ) → length e.signatures ≡ 1 → envelope_fits e ≡ true → length e.signed ≤ n → length (envelope_text e) ≤ n + 2530
unfolding envelope_text
envelope-length e n one h small =
    let p = and_parts (is_from_to 1 8 (length e.signatures)) _ h in
    let signatures = one-signature e.signatures one p.1 in
    let sum = sum-five (codes "{\"signatures\":") (text (list_with (map signature_value e.signatures))) (codes ",\"signed\":") e.signed (codes "}") in
    omega (arith, sum, signatures)

-- ---- reports

-- hexadecimal digits need no backslash before them
abbrev needs_none : ℕ → Bool
needs_none x = not ((x == 34) || (x == 92))

unescaped : (t : List ℕ) → list_all needs_none t ≡ true → length (flat_map escape_of t) ≡ length t
unescaped [] h = refl
unescaped (x ∷ t) h =
    let p = and_parts (needs_none x) _ h in
    let one = by_test ((x == 34) || (x == 92)) p.0 in
    omega (arith, length-append (escape_of x) (flat_map escape_of t), one, unescaped t p.1)
  where
    by_test : (b : Bool) → not b ≡ true → length (cond b (92 ∷ x ∷ []) (x ∷ [])) ≡ 1
    by_test true e = cc
    by_test false e = refl

hash-length : (xs : List ℕ) → list_all (λ x. nat_lt x 256) xs ≡ true → length (json_string (encode_lower xs)) ≡ 2 * length xs + 2
hash-length xs h =
    let size = length-encode_with lower_digits xs in
    let plain = unescaped (encode_lower xs) (all-hex needs_none refl xs h) in
    omega (arith, length-append (flat_map escape_of (encode_lower xs)) (34 ∷ []), plain, size)

pub sum-nested : (a b c d e : List ℕ) → length (a ++ (b ++ (c ++ (d ++ e)))) ≡ length a + (length b + (length c + (length d + length e)))
sum-nested a b c d e = simp length-append

pub hashes-length : (xs : List ℕ) (o : Option (List ℕ)) → length xs ≡ 32 → list_all (λ x. nat_lt x 256) xs ≡ true → is_second_hash o ≡ true → length (text (hashes_value xs o)) ≤ 220
hashes-length xs None size bytes h =
    let hash = hash-length xs bytes in
    let spelled : text (hashes_value xs None) ≡ codes "{\"sha256\":" ++ (json_string (encode_lower xs) ++ codes "}") = refl in
    omega (arith, ap length spelled, length-append (codes "{\"sha256\":") (json_string (encode_lower xs) ++ codes "}"), length-append (json_string (encode_lower xs)) (codes "}"), hash)
hashes-length xs (Some ys) size bytes h =
    let first = hash-length xs bytes in
    let whole = sha512_size ys h in
    let second = hash-length ys (and_parts (length ys == 64) _ h).1 in
    let spelled : text (hashes_value xs (Some ys)) ≡ codes "{\"sha256\":" ++ (json_string (encode_lower xs) ++ (codes ",\"sha512\":" ++ (json_string (encode_lower ys) ++ codes "}"))) = refl in
    omega (arith, ap length spelled ∙ sum-nested (codes "{\"sha256\":") (json_string (encode_lower xs)) (codes ",\"sha512\":") (json_string (encode_lower ys)) (codes "}"), first, second)

installed-spelled : (r : Report) → text (installed_value r.image) ≡ codes "{\"file\":" ++ (json_string r.image.file ++ (codes ",\"hashes\":" ++ (text (hashes_value r.image.sha256 r.image.sha512) ++ (codes ",\"length\":" ++ (decimal r.image.length ++ codes "}")))))
installed-spelled r = refl

installed-length : (r : Report) → ReportFits r → length (text (installed_value r.image)) ≤ 540
installed-length r h =
    let size = h.sha256 in
    let file = json_string-length r.image.file 128 (within 1 128 (length r.image.file) (and_parts (is_from_to 1 128 (length r.image.file)) _ h.file).0).1 in
    let hash = hashes-length r.image.sha256 r.image.sha512 size h.bytes h.sha512 in
    let number = count-length r.image.length h.size in
    let sum = ap length (installed-spelled r) ∙ sum-seven (codes "{\"file\":") (json_string r.image.file) (codes ",\"hashes\":") (text (hashes_value r.image.sha256 r.image.sha512)) (codes ",\"length\":") (decimal r.image.length) (codes "}") in
    omega (arith, sum, file, hash, number)

pub report-spelled : (r : Report) → report_text r ≡ codes "{\"attack\":" ++ (json_string r.attack ++ (codes ",\"counter\":" ++ (decimal r.counter ++ (codes ",\"ecu\":" ++ (json_string r.ecu ++ (codes ",\"image\":" ++
    (text (installed_value r.image) ++ (codes ",\"time\":" ++ (json_string (moment_text r.time) ++ codes ",\"type\":\"report\"}")))))))))
unfolding report_text
report-spelled r = refl

pub sum-eleven : (a b c d e f g h i j k : List ℕ) → length (a ++ (b ++ (c ++ (d ++ (e ++ (f ++ (g ++ (h ++ (i ++ (j ++ k))))))))))
    ≡ length a + (length b + (length c + (length d + (length e + (length f + (length g + (length h + (length i + (length j + length k)))))))))
sum-eleven a b c d e f g h i j k = simp length-append

pub report-length : MomentTextIsPlain → (r : Report) → ReportFits r → length (report_text r) ≤ 1350
report-length law r h =
    let attack = json_string-length r.attack 256 (within 0 256 (length r.attack) (and_parts (is_from_to 0 256 (length r.attack)) _ h.attack).0).1 in
    let number = count-length r.counter h.counter in
    let ecu = json_string-length r.ecu 64 (within 1 64 (length r.ecu) (and_parts (is_from_to 1 64 (length r.ecu)) _ h.ecu).0).1 in
    let image = installed-length r h in
    let time = json_string-length (moment_text r.time) 20 (short-length 20 20 (moment_text r.time) (law r.time h.time).0) in
    let sum = ap length (report-spelled r) ∙ sum-eleven (codes "{\"attack\":") (json_string r.attack) (codes ",\"counter\":") (decimal r.counter) (codes ",\"ecu\":") (json_string r.ecu) (codes ",\"image\":") (text (installed_value r.image)) (codes ",\"time\":") (json_string (moment_text r.time)) (codes ",\"type\":\"report\"}") in
    omega (arith, sum, attack, number, ecu, image, time)

-- ---- manifests

report_envelope-length : MomentTextIsPlain → (e : Envelope) (r : Report) → IsReportEnvelope e r → length (envelope_text e) ≤ 3885
report_envelope-length law e r h =
    let size = ap length h.signed in
    let small = report-length law r h.fits in
    let whole = envelope-length e 1350 h.one h.limits (omega arith) in
    omega (arith, whole)

joined-length : MomentTextIsPlain → (es : List Envelope) (rs : List Report) → AreReportEnvelopes es rs → length (join_with_byte 44 (map envelope_text es)) ≤ 3886 * length es
joined-length law [] rs h = omega arith
joined-length law (e ∷ es) [] h = absurd h
joined-length law (e ∷ []) (r ∷ rs) h = omega (arith, report_envelope-length law e r h.0)
joined-length law (e ∷ f ∷ es) (r ∷ rs) h =
    omega (arith, length-append (envelope_text e) (44 ∷ join_with_byte 44 (map envelope_text (f ∷ es))), report_envelope-length law e r h.0, joined-length law (f ∷ es) rs h.1)

list_text-length : (ts : List (List ℕ)) (n : ℕ) → length (join_with_byte 44 ts) ≤ n → length (list_text ts) ≤ n + 2
list_text-length ts n h = omega (arith, length-append (join_with_byte 44 ts) (93 ∷ []))

pub manifest-length : MomentTextIsPlain → (vehicle primary : List ℕ) (counter : ℕ) (es : List Envelope) (rs : List Report) → AreReportEnvelopes es rs
    → is_ident vehicle ≡ true → is_ident primary ≡ true → counter ≤ max_count → length es ≤ most_reports → length (manifest_text vehicle primary counter es) ≤ 250_000
unfolding manifest_text
manifest-length law vehicle primary counter es rs h v p n few =
    let name = json_string-length vehicle 64 (within 1 64 (length vehicle) (and_parts (is_from_to 1 64 (length vehicle)) _ v).0).1 in
    let other = json_string-length primary 64 (within 1 64 (length primary) (and_parts (is_from_to 1 64 (length primary)) _ p).0).1 in
    let number = count-length counter n in
    let reports = list_text-length (map envelope_text es) (3886 * length es) (joined-length law es rs h) in
    let sum = sum-nine (codes "{\"counter\":") (decimal counter) (codes ",\"primary\":") (json_string primary) (codes ",\"reports\":") (list_text (map envelope_text es)) (codes ",\"type\":\"manifest\",\"vehicle\":") (json_string vehicle) (codes "}") in
    omega (arith, sum, name, other, number, reports)
  where
    sum-nine : (a b c d e f g h i : List ℕ) → length (a ++ b ++ c ++ d ++ e ++ f ++ g ++ h ++ i)
        ≡ length a + length b + length c + length d + length e + length f + length g + length h + length i
    sum-nine a b c d e f g h i = simp length-append

-- ---- what is written piece by piece

pub joined-four : (s0 s1 s2 s3 s4 a b c d : List ℕ) → s1 ≡ s0 ++ a → s2 ≡ s1 ++ b → s3 ≡ s2 ++ c → s4 ≡ s3 ++ d → s4 ≡ s0 ++ (a ++ b ++ c ++ d)
joined-four s0 s1 s2 s3 s4 a b c d h1 h2 h3 h4 =
    h4 ∙ ap (λ (s : List ℕ). s ++ d) (h3 ∙ ap (λ (s : List ℕ). s ++ c) (h2 ∙ ap (λ (s : List ℕ). s ++ b) h1)) ∙ simp append_assoc
