-- Texts that are read piece by piece: the pieces in front of the rest are the whole text in front of it.
use Rattle.std.proofs.Common.{◌≡◌, ℕ, List, [], ◌∷◌, ◌++◌, map, refl, sym, ap, ◌∙◌, append_assoc}
use Rattle.std.specs.Prelude.{codes, decimal}
use Rattle.hex.specs.Hex.{encode_lower}
use Rattle.up_canon.specs.Build.{hashes_value}
use Rattle.up_canon.specs.Canon.{text, json_string}
use Rattle.up_canon.specs.Moments.{moment_text}
use Rattle.up_sign.specs.Formats.{signature_value, envelope_text}
use Rattle.up_sign.specs.declared.envelope.Signature.{Signature}
use Rattle.up_sign.specs.declared.envelope.Envelope.{Envelope}
use Rattle.up_manifest.specs.Building.{installed_value, report_text, list_text, manifest_text}
use Rattle.up_manifest.specs.Plain.{signatures_text}
use Rattle.up_manifest.specs.declared.report.Installed.{Installed}
use Rattle.up_manifest.specs.declared.report.Report.{Report}

-- ---- pieces in front of a rest

abbrev spell : List (List ℕ) → List ℕ → List ℕ
spell [] rest = rest
spell (p ∷ ps) rest = p ++ spell ps rest

spell-behind : (ps : List (List ℕ)) (rest : List ℕ) → spell ps rest ≡ spell ps [] ++ rest
spell-behind [] rest = refl
spell-behind (p ∷ ps) rest = ap (λ t. p ++ t) (spell-behind ps rest) ∙ sym (append_assoc p (spell ps []) rest)

-- ---- envelopes

pub signature-spelled : (s : Signature) (rest : List ℕ)
    → codes "{\"keyid\":" ++ (json_string s.keyid ++ (codes ",\"method\":" ++ (json_string s.method ++ (codes ",\"sig\":" ++ (json_string (encode_lower s.sig) ++ (codes "}" ++ rest)))))) ≡ text (signature_value s) ++ rest
unfolding signature_value
signature-spelled s rest = spell-behind (codes "{\"keyid\":" ∷ json_string s.keyid ∷ codes ",\"method\":" ∷ json_string s.method ∷ codes ",\"sig\":" ∷ json_string (encode_lower s.sig) ∷ codes "}" ∷ []) rest

pub envelope-spelled : (e : Envelope) (rest : List ℕ) → signatures_text e.signatures ++ (e.signed ++ (codes "}" ++ rest)) ≡ envelope_text e ++ rest
unfolding envelope_text
envelope-spelled e rest = sym (append_assoc (signatures_text e.signatures) e.signed (codes "}" ++ rest)) ∙ sym (append_assoc (signatures_text e.signatures ++ e.signed) (codes "}") rest)

-- at the end of the text
pub envelope-ends : (e : Envelope) → signatures_text e.signatures ++ (e.signed ++ codes "}") ≡ envelope_text e
unfolding envelope_text
envelope-ends e = sym (append_assoc (signatures_text e.signatures) e.signed (codes "}"))

-- ---- reports

pub installed-spelled : (i : Installed) (rest : List ℕ)
    → codes "{\"file\":" ++ (json_string i.file ++ (codes ",\"hashes\":" ++ (text (hashes_value i.sha256 i.sha512) ++ (codes ",\"length\":" ++ (decimal i.length ++ (codes "}" ++ rest)))))) ≡ text (installed_value i) ++ rest
installed-spelled i rest = spell-behind (codes "{\"file\":" ∷ json_string i.file ∷ codes ",\"hashes\":" ∷ text (hashes_value i.sha256 i.sha512) ∷ codes ",\"length\":" ∷ decimal i.length ∷ codes "}" ∷ []) rest

pub report-spelled : (r : Report) (rest : List ℕ)
    → codes "{\"attack\":" ++ (json_string r.attack ++ (codes ",\"counter\":" ++ (decimal r.counter ++ (codes ",\"ecu\":" ++ (json_string r.ecu ++ (codes ",\"image\":" ++ (text (installed_value r.image) ++ (codes ",\"time\":" ++ (json_string (moment_text r.time) ++ (codes ",\"type\":\"report\"}" ++ rest)))))))))) ≡ report_text r ++ rest
unfolding report_text
report-spelled r rest = spell-behind (codes "{\"attack\":" ∷ json_string r.attack ∷ codes ",\"counter\":" ∷ decimal r.counter ∷ codes ",\"ecu\":" ∷ json_string r.ecu ∷ codes ",\"image\":" ∷ text (installed_value r.image) ∷ codes ",\"time\":" ∷ json_string (moment_text r.time) ∷ codes ",\"type\":\"report\"}" ∷ []) rest

-- ---- manifests

nine-behind : (a b c d e f g h i rest : List ℕ) → a ++ (b ++ (c ++ (d ++ (e ++ (f ++ (g ++ (h ++ (i ++ rest)))))))) ≡ (a ++ b ++ c ++ d ++ e ++ f ++ g ++ h ++ i) ++ rest
nine-behind a b c d e f g h i rest = simp append_assoc

pub manifest-spelled : (vehicle primary : List ℕ) (counter : ℕ) (es : List Envelope) (rest : List ℕ)
    → codes "{\"counter\":" ++ (decimal counter ++ (codes ",\"primary\":" ++ (json_string primary ++ (codes ",\"reports\":" ++ (list_text (map envelope_text es) ++ (codes ",\"type\":\"manifest\",\"vehicle\":" ++ (json_string vehicle ++ (codes "}" ++ rest)))))))) ≡ manifest_text vehicle primary counter es ++ rest
unfolding manifest_text
manifest-spelled vehicle primary counter es rest =
    nine-behind (codes "{\"counter\":") (decimal counter) (codes ",\"primary\":") (json_string primary) (codes ",\"reports\":") (list_text (map envelope_text es)) (codes ",\"type\":\"manifest\",\"vehicle\":") (json_string vehicle) (codes "}") rest
