-- What is read of a body is what it means.
use Rattle.std.proofs.Common.{◌≡◌, ◌≤◌, ℕ, List, Option, Some, Ok, length, ap, ◌∙◌, subst, sym, arith}
use Rattle.std.specs.Prelude.{codes}
use Rattle.serde_json.specs.Data.{Data, array, Items}
use Rattle.serde_json.specs.Find as json
use Rattle.up_canon.specs.Members.{items_list}
use Rattle.up_canon.specs.Steps.{each}
use Rattle.up_canon.specs.Meaning.{EachMeans}
use Rattle.up_manifest.specs.Manifests.{largest_body, most_reports, installed_in, report_in, signed_report_in, reports_in, manifest_in, incoming_in}
use Rattle.up_manifest.specs.Meaning.{MeansInstalled, MeansReport, MeansSignedReport, MeansManifest, MeansBody}
use Rattle.up_manifest.specs.declared.report.Installed.{Installed}
use Rattle.up_manifest.specs.declared.report.Report.{Report}
use Rattle.up_manifest.specs.declared.report.SignedReport.{SignedReport}
use Rattle.up_manifest.specs.declared.manifest.Manifest.{Manifest}
use Rattle.up_manifest.specs.declared.manifest.Incoming.{Incoming}
use Rattle.up_canon.proofs.JsonTexts.{value_read, value_there}
use Rattle.up_sign.proofs.Meaning.{opened_read, opened_there}
use Rattle.up_canon.proofs.Steps.{first_ok, bind-ok, same_ok, each_read, each_there, each_size}
use Rattle.up_canon.proofs.Members.{count_read, count_there, object_read, object_there, ident_read, ident_there, file_name_read, file_name_there, note_read, note_there, word_read, word_there, positive_read, positive_there, list_within_read, list_within_there, sha256_read, sha256_there, sha512_read, sha512_there, moment_read, moment_there}

-- ---- reports

pub installed_read : (d : Data) (i : Installed) → installed_in d ≡ Ok i → MeansInstalled d i
unfolding installed_in
installed_read d i h =
    first_ok _ _ _ _ h (λ file a h. first_ok _ _ _ _ h (λ size b h. first_ok _ _ _ _ h (λ hashes c h. first_ok _ _ _ _ h (λ sha256 e h.
    let f = file_name_read (codes "file") d file a in
    subst (MeansInstalled d) (same_ok _ _ h) (record {
      file = f.0;
      file_fits = f.1;
      size = count_read (codes "length") d size b;
      hashes = hashes;
      has_hashes = object_read (codes "hashes") d hashes c;
      sha256 = sha256_read (codes "sha256") hashes sha256 e;
      sha512 = sha512_read hashes;
    })))))

pub installed_there : (d : Data) (i : Installed) → MeansInstalled d i → installed_in d ≡ Ok i
unfolding installed_in
installed_there d i h =
    bind-ok _ _ _ (file_name_there (codes "file") d i.file h.file h.file_fits)
    ∙ bind-ok _ _ _ (count_there (codes "length") d i.length h.size)
    ∙ bind-ok _ _ _ (object_there (codes "hashes") d h.hashes h.has_hashes)
    ∙ bind-ok _ _ _ (sha256_there (codes "sha256") h.hashes i.sha256 h.sha256)
    ∙ ap (λ (o : Option (List ℕ)). Ok (record { file = i.file; length = i.length; sha256 = i.sha256; sha512 = o })) (sha512_there h.hashes i.sha512 h.sha512)

pub report_read : (d : Data) (r : Report) → report_in d ≡ Ok r → MeansReport d r
unfolding report_in
report_read d r h =
    first_ok _ _ _ _ h (λ x a h. first_ok _ _ _ _ h (λ ecu b h. first_ok _ _ _ _ h (λ counter c h. first_ok _ _ _ _ h (λ time e h.
    first_ok _ _ _ _ h (λ attack f h. first_ok _ _ _ _ h (λ image g h. first_ok _ _ _ _ h (λ installed i h.
    let name = ident_read (codes "ecu") d ecu b in
    let moment = moment_read (codes "time") d time e in
    let note = note_read (codes "attack") d attack f in
    subst (MeansReport d) (same_ok _ _ h) (record {
      kind = word_read (codes "report") (codes "type") d a;
      ecu = name.0;
      ecu_fits = name.1;
      counter = count_read (codes "counter") d counter c;
      time_text = moment.0;
      has_time = moment.1;
      time = moment.2;
      attack = note.0;
      attack_fits = note.1;
      image_value = image;
      has_image = object_read (codes "image") d image g;
      image = installed_read image installed i;
    }))))))))

pub report_there : (d : Data) (r : Report) → MeansReport d r → report_in d ≡ Ok r
unfolding report_in
report_there d r h =
    bind-ok _ _ tt (word_there (codes "report") (codes "type") d h.kind)
    ∙ bind-ok _ _ _ (ident_there (codes "ecu") d r.ecu h.ecu h.ecu_fits)
    ∙ bind-ok _ _ _ (count_there (codes "counter") d r.counter h.counter)
    ∙ bind-ok _ _ _ (moment_there (codes "time") d h.time_text r.time h.has_time h.time)
    ∙ bind-ok _ _ _ (note_there (codes "attack") d r.attack h.attack h.attack_fits)
    ∙ bind-ok _ _ _ (object_there (codes "image") d h.image_value h.has_image)
    ∙ bind-ok _ _ _ (installed_there h.image_value r.image h.image)

signed_report_read : (place : List ℕ) (d : Data) (r : SignedReport) → signed_report_in place d ≡ Ok r → MeansSignedReport d r
unfolding signed_report_in
signed_report_read place d r h =
    first_ok _ _ _ _ h (λ opened a h. first_ok _ _ _ _ h (λ report b h.
    subst (MeansSignedReport d) (same_ok _ _ h) (record {
      payload = opened.payload;
      envelope = opened_read place d opened a;
      report = report_read opened.payload report b;
    })))

signed_report_there : (place : List ℕ) (d : Data) (r : SignedReport) → MeansSignedReport d r → signed_report_in place d ≡ Ok r
unfolding signed_report_in
signed_report_there place d r h =
    bind-ok _ _ _ (opened_there place d h.payload r.envelope h.envelope)
    ∙ bind-ok _ _ _ (report_there h.payload r.report h.report)

-- ---- manifests and bodies

-- what a list of reports means
pub record MeansReports (d : Data) (rs : List SignedReport) : Type 0 where
  pub listed : Items
  pub has_reports : json.get (codes "reports") d ≡ Some (array listed)
  pub each_means : EachMeans MeansSignedReport listed rs
  pub few : length rs ≤ most_reports

reports_read : (d : Data) (rs : List SignedReport) → reports_in d ≡ Ok rs → MeansReports d rs
unfolding reports_in
reports_read d rs h = first_ok _ _ _ _ h (λ values a h.
    let l = list_within_read 0 most_reports (codes "reports") d values a in
    let each_report = each_read (signed_report_in (codes "reports")) MeansSignedReport (signed_report_read (codes "reports")) l.0 rs (subst (λ ds. each (signed_report_in (codes "reports")) ds ≡ Ok rs) (sym l.2) h) in
    let size : length values ≡ length rs = ap length (sym l.2) ∙ each_size MeansSignedReport l.0 rs each_report in
    let high = l.4 in
    record { listed = l.0; has_reports = l.1; each_means = each_report; few = omega arith })

reports_there : (d : Data) (rs : List SignedReport) → MeansReports d rs → reports_in d ≡ Ok rs
unfolding reports_in
reports_there d rs h =
    let size = each_size MeansSignedReport h.listed rs h.each_means in
    let high = h.few in
    bind-ok _ (each (signed_report_in (codes "reports"))) (items_list h.listed) (list_within_there 0 most_reports (codes "reports") d h.listed h.has_reports (omega arith) (omega arith))
    ∙ each_there (signed_report_in (codes "reports")) MeansSignedReport (signed_report_there (codes "reports")) h.listed rs h.each_means

pub manifest_read : (d : Data) (m : Manifest) → manifest_in d ≡ Ok m → MeansManifest d m
unfolding manifest_in
manifest_read d m h =
    first_ok _ _ _ _ h (λ x a h. first_ok _ _ _ _ h (λ vehicle b h. first_ok _ _ _ _ h (λ primary c h. first_ok _ _ _ _ h (λ counter e h.
    first_ok _ _ _ _ h (λ reports g h.
    let v = ident_read (codes "vehicle") d vehicle b in
    let p = ident_read (codes "primary") d primary c in
    let n = positive_read (codes "counter") d counter e in
    let rs = reports_read d reports g in
    subst (MeansManifest d) (same_ok _ _ h) (record {
      kind = word_read (codes "manifest") (codes "type") d a;
      vehicle = v.0;
      vehicle_fits = v.1;
      primary = p.0;
      primary_fits = p.1;
      counter = n.0;
      positive = n.1;
      listed = rs.listed;
      has_reports = rs.has_reports;
      reports = rs.each_means;
      few = rs.few;
    }))))))

pub manifest_there : (d : Data) (m : Manifest) → MeansManifest d m → manifest_in d ≡ Ok m
unfolding manifest_in
manifest_there d m h =
    bind-ok _ _ tt (word_there (codes "manifest") (codes "type") d h.kind)
    ∙ bind-ok _ _ _ (ident_there (codes "vehicle") d m.vehicle h.vehicle h.vehicle_fits)
    ∙ bind-ok _ _ _ (ident_there (codes "primary") d m.primary h.primary h.primary_fits)
    ∙ bind-ok _ _ _ (positive_there (codes "counter") d m.counter h.counter h.positive)
    ∙ bind-ok _ _ _ (reports_there d m.reports (record { listed = h.listed; has_reports = h.has_reports; each_means = h.reports; few = h.few }))

pub body_read : (body : List ℕ) (i : Incoming) → incoming_in body ≡ Ok i → MeansBody body i
unfolding incoming_in
body_read body i h =
    first_ok _ _ _ _ h (λ d a h. first_ok _ _ _ _ h (λ opened c h. first_ok _ _ _ _ h (λ manifest e h.
    let v = value_read largest_body body d a in
    subst (MeansBody body) (same_ok _ _ h) (record {
      value = d;
      json_text = record { small = v.0; utf8 = v.1; reads = v.2 };
      payload = opened.payload;
      envelope = opened_read (codes "body") d opened c;
      manifest = manifest_read opened.payload manifest e;
    }))))

pub body_there : (body : List ℕ) (i : Incoming) → MeansBody body i → incoming_in body ≡ Ok i
unfolding incoming_in
body_there body i h =
    bind-ok _ _ h.value (value_there largest_body body h.value h.json_text.small h.json_text.utf8 h.json_text.reads)
    ∙ bind-ok _ _ _ (opened_there (codes "body") h.value h.payload i.envelope h.envelope)
    ∙ bind-ok _ _ _ (manifest_there h.payload i.manifest h.manifest)
