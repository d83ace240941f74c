-- Texts that are no report, or that have no second hash.
use Rattle.std.proofs.Common.{◌≡◌, ℕ, ◌≤◌, List, [], ◌∷◌, Bool, true, false, Option, Some, None, Err, length, refl, sym, ap, subst, ◌∙◌}
use Rattle.std.specs.Prelude.{codes, if◌then◌else◌, option_and_then}
use Rattle.std.specs.Cmp.Lexicographic.{bytes_decides}
use Rattle.std.specs.Str.Pattern.{LacksTextAt}
use Rattle.serde_json.specs.Data.{Data, null, boolean, number, string, array, object}
use Rattle.serde_json.specs.Find as json
use Rattle.up_canon.specs.Canon.{has_canon, text, json_string}
use Rattle.up_canon.specs.Meaning.{HasObject, HasHex, MeansIfAny}
use Rattle.up_canon.specs.Members.{text_in, member_in}
use Rattle.up_canon.specs.Readers.{word_in}
use Rattle.up_canon.specs.Refusals.{canonical_text}
use Rattle.up_canon.specs.Steps.{and_then}
use Rattle.up_canon.specs.declared.refusal.Refusal.TheVariants.{BadShape}
use Rattle.up_canon.proofs.Steps.{first_ok, or_error_ok, unless_ok, value_of_some}
use Rattle.up_manifest.specs.Manifests.{report_in, report_text_in, report_of, report_sha512_of}
use Rattle.up_manifest.specs.declared.report.Report.{Report}
use Rattle.up_manifest.proofs.BodyReading.{report_read}
use Rattle.up_manifest.proofs.Parts.{IsPart, part_of_part, lacks, in_text}

pub no_report : (d : Data) → json.as_object d ≡ None → report_in d ≡ Err (BadShape (codes "type"))
unfolding report_in word_in text_in member_in and_then
no_report null h = refl
no_report (boolean b) h = refl
no_report (number n) h = refl
no_report (string s) h = refl
no_report (array ds) h = refl
no_report (object ms) h = cc

-- ---- a text in which the name of the second hash doesn't stand

canon_is_text : (d : Data) (t : List ℕ) (b : Bool) → (if b then Some (text d) else None) ≡ Some t → text d ≡ t
canon_is_text d t true h = cc
canon_is_text d t false h = cc

object_is : (d o : Data) (name : List ℕ) → HasObject d name o → json.get name d ≡ Some o
object_is d o name h = h.1 ∙ ap Some (sym h.2)

name_stands : (signed : List ℕ) (r : Report) (hash : List ℕ) → report_of signed ≡ Some r → r.image.sha512 ≡ Some hash → IsPart (codes "sha512") signed
unfolding report_text_in canonical_text
name_stands signed r hash is has =
    first_ok _ _ _ _ (value_of_some _ r is) (λ d a h. first_ok _ _ _ _ h (λ written b h. first_ok _ _ _ _ h (λ x c h.
    let same : written ≡ signed = (bytes_decides written signed).0 (unless_ok _ _ x c) in
    let spelled : text d ≡ written = canon_is_text d written (has_canon d) (or_error_ok _ _ written b) in
    let m = report_read d r h in
    let image = in_text (codes "image") m.image_value d (object_is d m.image_value (codes "image") m.has_image) in
    let hashes = in_text (codes "hashes") m.image.hashes m.image_value (object_is m.image_value m.image.hashes (codes "hashes") m.image.has_hashes) in
    let second : HasHex 128 128 m.image.hashes (codes "sha512") hash = subst (MeansIfAny (HasHex 128 128 m.image.hashes (codes "sha512"))) has m.image.sha512 in
    let name = in_text (codes "sha512") (string second.digits) m.image.hashes second.has_digits in
    let bare : IsPart (codes "sha512") (json_string (codes "sha512")) = record { before = 34 ∷ []; behind = 34 ∷ []; at = refl } in
    let in_hashes = part_of_part _ _ _ bare name.key in
    let in_image = part_of_part _ _ _ in_hashes hashes.value in
    let in_report = part_of_part _ _ _ in_image image.value in
    subst (IsPart (codes "sha512")) (spelled ∙ same) in_report)))

pub no_second_hash : (signed : List ℕ) → ((i : ℕ) → i ≤ length signed → LacksTextAt (codes "sha512") signed i) → report_sha512_of signed ≡ None
no_second_hash signed none = by_report (report_of signed) refl
  where
    by_hash : (r : Report) (o : Option (List ℕ)) → report_of signed ≡ Some r → r.image.sha512 ≡ o → o ≡ None
    by_hash r None is has = refl
    by_hash r (Some hash) is has = absurd (lacks (codes "sha512") signed none (name_stands signed r hash is has))

    by_report : (o : Option Report) → report_of signed ≡ o → option_and_then (λ r. r.image.sha512) o ≡ None
    by_report None is = refl
    by_report (Some r) is = by_hash r r.image.sha512 is refl
