-- The files of each reply are read again.
use Rattle.std.specs.Prelude.{◌≡◌, ℕ, ◌≤◌, List, Some, Result, Ok, length}
use Rattle.std.specs.FinMap as table
use Rattle.serde_json.specs.Data.{Data}
use Rattle.up_canon.specs.Canon.{text}
use Rattle.up_canon.specs.Names.{Name}
use Rattle.up_canon.specs.declared.refusal.Refusal.{Refusal}
use Rattle.up_sign.specs.Envelopes.{sealed_envelope}
use Rattle.up_sign.specs.Schemes.{Rules, IsScheme}
use Rattle.up_sign.specs.declared.envelope.Envelope.{Envelope}
use Rattle.up_roles.specs.Payload.{IsCanonical, largest_file}
use Rattle.up_roles.specs.Snapshot.{snapshot_payload, snapshot_in}
use Rattle.up_roles.specs.Targets.{targets_payload, targets_in}
use Rattle.up_roles.specs.Timestamp.{timestamp_payload, timestamp_in}
use Rattle.up_metadata.specs.Files.{keys_of, Root, MetadataSet, targets_file, targets_text, snapshot_file, snapshot_text, timestamp_file, timestamp_text}
use Rattle.up_machine.specs.State.{Entry, Vehicle, State, nth}
use Rattle.up_machine.specs.Replies.{reply_metadata}
use Rattle.up_machine.specs.Made.{IsMade}
use Rattle.up_machine.specs.Sound.{IsSound}
use Rattle.up_laws.specs.Plans.{HasOwnPlans}
use Rattle.up_laws.specs.Typed.{IsTyped}

-- The payload has a canonical text, and the file's text is small enough and read as the file, in the envelope that was sealed.
pub record IsReadAgain {F : Type 0} (reading : List ℕ → Result (F × Envelope) Refusal) (k : Rules) (secrets : List (List ℕ)) (payload : Data) (file : F) (file_text : List ℕ) : Type 0 where
  pub canonical : IsCanonical payload
  pub small : length file_text ≤ largest_file
  pub read : reading file_text ≡ Ok (file, sealed_envelope k secrets (text payload))

-- each of the three files of a set
pub record AreReadAgain (k : Rules) (m : MetadataSet) : Type 0 where
  pub targets : IsReadAgain targets_in k (keys_of m.repository m.keys).targets.keys (targets_payload (targets_file m)) (targets_file m) (targets_text k m)
  pub snapshot : IsReadAgain snapshot_in k (keys_of m.repository m.keys).snapshot.keys (snapshot_payload (snapshot_file m)) (snapshot_file m) (snapshot_text k m)
  pub timestamp : IsReadAgain timestamp_in k (keys_of m.repository m.keys).timestamp.keys (timestamp_payload (timestamp_file k m)) (timestamp_file k m) (timestamp_text k m)

-- so are those in the reply to each accepted manifest, new or a repeat, under the keys of its root version
abbrev pub RepliesAreReadAgain : Type 0
RepliesAreReadAgain = (k : Rules) (s : State) (roots : List Root) (vehicle : Name) (v : Vehicle) (number : ℕ) (e : Entry) (root : Root) → IsScheme k
    → IsSound k s → IsTyped s → HasOwnPlans s → IsMade k s roots
    → table.get s.vehicles vehicle ≡ Some v → nth v.entries number ≡ Some e → nth roots e.root ≡ Some root
    → AreReadAgain k (reply_metadata s root.keys vehicle number e.at e.plan)
