-- Of the Image repository's Targets that were read from their canonical text: their limits, and what their bytes mean.
use Rattle.std.proofs.Common.{◌≡◌, ℕ, ◌≤◌, List, [], ◌∷◌, Bool, true, Option, Some, None, Ok, length, refl, ap, arith}
use Rattle.std.specs.Prelude.{◌&&◌, IsUtf8, nat_le, codes}
use Rattle.std.specs.List.{list_all}
use Rattle.std.proofs.lemmas.Bool.{and_parts}
use Rattle.std.proofs.lemmas.Bool.Decides.{nat_tests}
use Rattle.up_canon.specs.Canon.{max_count, has_canon, text}
use Rattle.up_canon.specs.Moments.{last_moment, MomentsAreRead, OnlyTextsAreRead}
use Rattle.up_canon.specs.Names.{Name, are_distinct, is_from_to}
use Rattle.up_canon.proofs.Printable.{both, all-more}
use Rattle.up_sign.specs.Formats.{envelope_text, signature_fits, IsSigned}
use Rattle.up_sign.specs.Laws.{TextsAreRead, envelope_value}
use Rattle.up_sign.specs.Schemes.{is_byte}
use Rattle.up_sign.specs.declared.envelope.Envelope.{Envelope}
use Rattle.up_sign.specs.declared.envelope.Signature.{Signature}
use Rattle.up_sign.proofs.Meaning.{opened_read}
use Rattle.up_roles.specs.Meaning.{MeansTargets}
use Rattle.up_roles.specs.Payload.{name_fits, largest_file}
use Rattle.up_roles.specs.Targets.{ecus_of, target_fits, target_is_typed, targets_fits, targets_is_typed, targets_payload, targets_of, targets_in}
use Rattle.up_roles.specs.declared.repository.Repository.TheVariants.{Image}
use Rattle.up_roles.specs.declared.targets.Target.{Target}
use Rattle.up_roles.specs.declared.targets.TargetsFile.{TargetsFile}
use Rattle.up_roles.proofs.MeantFiles.{targets_files_read, file_there}
use Rattle.up_roles.proofs.MeantParts.{Moments}
use Rattle.up_roles.proofs.PlainFiles.{targets-canon}
use Rattle.up_roles.proofs.ReadTargets.{targets_means}
use Rattle.up_verify.proofs.PlainTexts.{image_file}

-- ---- limits

no-ecus : (ts : List Target) → list_all (target_fits Image) ts ≡ true → ecus_of ts ≡ []
no-ecus [] h = refl
no-ecus (t ∷ ts) h =
    let p = and_parts (target_fits Image t) _ h in
    by_ecu t.ecu refl (and_parts (name_fits Image t.ecu) _ p.0).0 (no-ecus ts p.1)
  where
    by_ecu : (ecu : Option Name) → t.ecu ≡ ecu → name_fits Image ecu ≡ true → ecus_of ts ≡ [] → ecus_of (t ∷ ts) ≡ []
    by_ecu None is k none = rw is none
    by_ecu (Some name) is k none = cc

abbrev pub is_fit : Target → Bool
is_fit t = target_fits Image t && target_is_typed t

pub file-fits : (version expires : ℕ) (targets : List Target) → 1 ≤ version → version ≤ max_count → list_all is_fit targets ≡ true → targets_fits (image_file version expires targets) ≡ true
file-fits version expires targets low high h =
    let least : nat_le 1 version ≡ true = grind (arith, nat_tests) in
    let most : nat_le version max_count ≡ true = grind (arith, nat_tests) in
    let each = all-more is_fit (target_fits Image) targets (λ t k. (and_parts (target_fits Image t) _ k).0) h in
    both _ _ (both _ _ (both _ _ (both _ _ least most) refl) each) (ap are_distinct (no-ecus targets each))

pub file-typed : (version expires : ℕ) (targets : List Target) → expires ≤ last_moment → list_all is_fit targets ≡ true → targets_is_typed (image_file version expires targets) ≡ true
file-typed version expires targets high h =
    let most : nat_le expires last_moment ≡ true = grind (arith, nat_tests) in
    let each = all-more is_fit target_is_typed targets (λ t k. (and_parts (target_fits Image t) _ k).1) h in
    both _ _ (both _ _ most refl) each

-- ---- what the bytes mean

abbrev signature_is_fit : Signature → Bool
signature_is_fit s = signature_fits s && list_all is_byte s.sig

pub plain_is_read : TextsAreRead → MomentsAreRead → OnlyTextsAreRead → (file : TargetsFile) → targets_fits file ≡ true → targets_is_typed file ≡ true
    → (ss : List Signature) → is_from_to 1 8 (length ss) ≡ true → list_all signature_is_fit ss ≡ true
    → (signed : List ℕ) → signed ≡ text (targets_payload file)
    → (bytes : List ℕ) → IsUtf8 bytes → length bytes ≤ largest_file → bytes ≡ envelope_text (record { signatures = ss; signed = signed })
    → targets_in bytes ≡ Ok (file, record { signatures = ss; signed = signed })
unfolding targets_in targets_payload
plain_is_read texts moments only file fits typed ss number each signed is bytes utf8 small same =
    let e : Envelope = record { signatures = ss; signed = signed } in
    let payload = targets_payload file in
    let law : Moments = record { read = moments; only = only } in
    let limits = both _ _ number (all-more signature_is_fit signature_fits ss (λ s k. (and_parts (signature_fits s) _ k).0) each) in
    let are_bytes = all-more signature_is_fit (λ s. list_all is_byte s.sig) ss (λ s k. (and_parts (signature_fits s) _ k).1) each in
    let canon : has_canon payload ≡ true = targets-canon file fits typed in
    let is_signed : IsSigned signed payload = (rw (canon, is) refl, refl) in
    let read = texts (codes "body") e payload limits are_bytes is_signed in
    file_there targets_of MeansTargets (targets_files_read law) bytes file e (record {
      value = envelope_value e payload;
      json_text = record { small = small; utf8 = utf8; reads = rw same read.0 };
      payload = payload;
      enveloped = opened_read (codes "body") (envelope_value e payload) (record { envelope = e; payload = payload }) read.1;
      means = targets_means file fits typed;
    })
