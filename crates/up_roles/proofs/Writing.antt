-- What is sealed of a file of a role.
use Rattle.std.proofs.Common.{◌≡◌, ℕ, List, Bool, true, Result, refl, ap, ◌∙◌, string_bytes}
use Rattle.std.specs.Prelude.{String, IfOk}
use Rattle.std.proofs.lemmas.Result.{IfOk-weaker}
use Rattle.serde_json.specs.Data.{Data}
use Rattle.up_canon.specs.Canon.{has_canon, text}
use Rattle.up_sign.specs.Envelopes.{sealed_envelope}
use Rattle.up_sign.specs.Formats.{envelope_text}
use Rattle.up_sign.specs.Schemes.{Rules}
use Rattle.up_roles.specs.Payload.{sealed_text}
use Rattle.up_roles.specs.Root.{root_payload, root_text_of, root_fits, root_is_typed}
use Rattle.up_roles.specs.Snapshot.{snapshot_payload, snapshot_text_of, snapshot_fits, snapshot_is_typed}
use Rattle.up_roles.specs.Targets.{targets_payload, targets_text_of, targets_fits, targets_is_typed}
use Rattle.up_roles.specs.Timestamp.{timestamp_payload, timestamp_text_of, timestamp_fits, timestamp_is_typed}
use Rattle.up_roles.specs.Writing.{IsWritten}
use Rattle.up_roles.proofs.Oks.{on_ok}
use Rattle.up_roles.proofs.PlainFiles.{canon_is, root-canon, targets-canon, snapshot-canon, timestamp-canon}

-- the payload of a file within its limits has a canonical text, and the file's text is that text sealed
pub record Writes {F : Type 0} (payload : F → Data) (text_of : Rules → List (List ℕ) → F → List ℕ) (fits typed : F → Bool) : Type 0 where
  pub canon : (file : F) → fits file ≡ true → typed file ≡ true → has_canon (payload file) ≡ true
  pub text_is : (k : Rules) (secrets : List (List ℕ)) (file : F) → envelope_text (sealed_envelope k secrets (text (payload file))) ≡ text_of k secrets file

pub record RolesWrite : Type 0 where
  pub root : Writes root_payload root_text_of root_fits root_is_typed
  pub targets : Writes targets_payload targets_text_of targets_fits targets_is_typed
  pub snapshot : Writes snapshot_payload snapshot_text_of snapshot_fits snapshot_is_typed
  pub timestamp : Writes timestamp_payload timestamp_text_of timestamp_fits timestamp_is_typed

pub roles_write : RolesWrite
unfolding sealed_text root_text_of targets_text_of snapshot_text_of timestamp_text_of
roles_write = record {
  root = record { canon = root-canon; text_is = λ k secrets file. refl };
  targets = record { canon = targets-canon; text_is = λ k secrets file. refl };
  snapshot = record { canon = snapshot-canon; text_is = λ k secrets file. refl };
  timestamp = record { canon = timestamp-canon; text_is = λ k secrets file. refl };
}

module _ {F : Type 0} {payload : F → Data} {text_of : Rules → List (List ℕ) → F → List ℕ} {fits typed : F → Bool} (role : Writes payload text_of fits typed)
    (file : F) (within : fits file ≡ true) (kept : typed file ≡ true) where
  pub is_written : {A E : Type 0} (signed : List ℕ) → signed ≡ text (payload file) → (k : Rules) (secrets : List (List ℕ)) (r : Result (String A) E)
      → IfOk r (λ t. string_bytes t ≡ envelope_text (sealed_envelope k secrets signed)) → IsWritten (payload file) (text_of k secrets file) (typed file) r
  is_written signed is k secrets r written = record {
    value = IfOk-weaker r _ _ (λ t h. h ∙ ap (λ (s : List ℕ). envelope_text (sealed_envelope k secrets s)) is ∙ role.text_is k secrets file) written;
    canonical = on_ok r _ (canon_is (payload file) (role.canon file within kept));
    typed = on_ok r _ kept;
  }
