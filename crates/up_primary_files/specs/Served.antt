-- What the file of what was served says: its members as JSON says them, and in the Director's reply the text of each file as it stands.
use Rattle.std.specs.Prelude.{◌≡◌, ◌++◌, ℕ, List, [], Result, Ok, codes, unwrap_or}
use Rattle.serde_json.specs.Data.{Data}
use Rattle.serde_json.specs.Read.{read}
use Rattle.up_canon.specs.JsonText.{value_within}
use Rattle.up_canon.specs.Members.{text_of, object_of, text_in, count_in, list_in}
use Rattle.up_canon.specs.Readers.{ident_in}
use Rattle.up_canon.specs.Steps.{◌>>=◌, or_error, each, value_of}
use Rattle.up_canon.specs.declared.refusal.Refusal.{Refusal}
use Rattle.up_canon.specs.declared.refusal.Refusal.TheVariants.{NotJson}
use Rattle.up_metadata.specs.declared.role_files.RoleTexts.{RoleTexts}
use Rattle.up_verify.specs.declared.served.Reply.{Reply}
use Rattle.up_verify.specs.declared.served.Served.{Served}
use Rattle.up_primary_files.specs.declared.reply.Names.{Names}

-- ---- the Director's reply

-- the piece stands in the text, byte for byte
pub record StandsIn (text piece : List ℕ) : Type 0 where
  pub before : List ℕ
  pub behind : List ℕ
  pub is : text ≡ before ++ (piece ++ behind)

pub record AllStandIn (text : List ℕ) (files : RoleTexts) : Type 0 where
  pub targets : StandsIn text files.targets
  pub snapshot : StandsIn text files.snapshot
  pub timestamp : StandsIn text files.timestamp

unfoldable pub names_of : Data → Result Names Refusal
names_of map = do
  root ← count_in (codes "root") map
  version ← count_in (codes "version") map
  vehicle ← ident_in (codes "vehicle") map
  Ok (record { root = root; vehicle = vehicle; version = version })

-- the reply of a text of that value
pub record IsReplyOf (text : List ℕ) (value : Data) (reply : Reply) : Type 0 where
  pub map : Data
  pub is_map : object_of (codes "reply") value ≡ Ok map
  pub names : names_of map ≡ Ok (record { root = reply.root; vehicle = reply.vehicle; version = reply.version })
  pub files : AllStandIn text reply.files

pub record IsReply (text : List ℕ) (reply : Reply) : Type 0 where
  pub value : Data
  pub read : value_within 4_194_304 text ≡ Ok value
  pub is : IsReplyOf text value reply

-- ---- all that was served

-- the texts in the list of that name
unfoldable pub texts_in : List ℕ → Data → Result (List (List ℕ)) Refusal
texts_in name map = do
  texts ← list_in name map
  each (text_of name) texts

-- the text of that name, empty where there is none
unfoldable pub text_or_empty : List ℕ → Data → List ℕ
text_or_empty name map = unwrap_or (value_of (text_in name map)) []

-- the Image repository's files
pub record AreTexts (map : Data) (files : RoleTexts) : Type 0 where
  pub targets : files.targets ≡ text_or_empty (codes "targets") map
  pub snapshot : files.snapshot ≡ text_or_empty (codes "snapshot") map
  pub timestamp : files.timestamp ≡ text_or_empty (codes "timestamp") map

-- of a value
pub record IsServedBy (value : Data) (served : Served) : Type 0 where
  pub map : Data
  pub is_map : object_of (codes "served") value ≡ Ok map
  pub text : List ℕ
  pub has_reply : text_in (codes "reply") map ≡ Ok text
  pub reply : IsReply text served.reply
  pub director_roots : texts_in (codes "director_roots") map ≡ Ok served.director_roots
  pub image_roots : texts_in (codes "image_roots") map ≡ Ok served.image_roots
  pub files : AreTexts map served.image

abbrev pub IsServed : List ℕ → Served → Type 0
IsServed text served = (value : Data) × (or_error NotJson (read text) ≡ Ok value) × IsServedBy value served
