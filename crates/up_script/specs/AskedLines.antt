-- What a line of a script asks: a command or a view of a vehicle, and at which moment.
use Rattle.std.specs.Prelude.{ℕ, List, Bool, true, Result, Ok, codes}
use Rattle.serde_json.specs.Data.{Data}
use Rattle.up_canon.specs.JsonText.{value_in}
use Rattle.up_canon.specs.Members.{object_of, text_in, count_in}
use Rattle.up_canon.specs.Readers.{ident_in, file_name_in}
use Rattle.up_canon.specs.Steps.{◌>>=◌, or_error}
use Rattle.up_canon.specs.declared.refusal.Refusal.{Refusal}
use Rattle.up_canon.specs.declared.refusal.Refusal.TheVariants.{NotJson}
use Rattle.up_sign.specs.Schemes.{Rules}
use Rattle.up_roles.specs.Payload.{repository_in}
use Rattle.up_machine.specs.Commands.{opens_running}
use Rattle.up_machine.specs.declared.command.Command.{Command}
use Rattle.up_machine.specs.declared.command.Command.TheVariants as command
use Rattle.up_script.specs.declared.asked.Asked.{Asked}
use Rattle.up_script.specs.declared.asked.What.{What}
use Rattle.up_script.specs.declared.asked.What.TheVariants.{Call, Show}
use Rattle.up_script.specs.declared.word.Word.{Word}
use Rattle.up_script.specs.declared.word.Word.TheVariants as word
use Rattle.up_script.specs.Words.{word_in}
use Rattle.up_script.specs.KeyLines.{key_set_in}
use Rattle.up_script.specs.ImageLines.{image_in}
use Rattle.up_script.specs.VehicleLines.{vehicle_in, replacement_in}
use Rattle.up_script.specs.CampaignLines.{campaign_in}
use Rattle.up_script.specs.BenchLines.{bench_in}

-- ---- the members of each word

-- the command of what is read
abbrev pub calls : {A : Type 0} → (A → Command) → Result A Refusal → Result What Refusal
calls make read = do
  x ← read
  Ok (Call (make x))

-- the bytes of a text
unfoldable pub deliver_in : Data → Result What Refusal
deliver_in d = calls command.Deliver (text_in (codes "body") d)

unfoldable pub fetch_in : Data → Result What Refusal
fetch_in d = do
  repository ← repository_in d
  file ← file_name_in (codes "file") d
  Ok (Call (command.Fetch repository file))

unfoldable pub show_in : Data → Result What Refusal
show_in d = do
  vehicle ← ident_in (codes "vehicle") d
  Ok (Show vehicle)

-- each word has its command, and that of a bench is a delivery of the manifest that is built
abbrev pub what_in : Rules → Word → Data → Result What Refusal
what_in k word.Found d = calls command.Found (key_set_in d)
what_in k word.Rotate d = calls command.Rotate (key_set_in d)
what_in k word.AddVehicle d = calls command.AddVehicle (vehicle_in d)
what_in k word.ReplaceEcu d = calls command.ReplaceEcu (replacement_in d)
what_in k word.AddImage d = calls command.AddImage (image_in d)
what_in k word.Refresh d = calls command.Refresh (count_in (codes "version") d)
what_in k word.OpenCampaign d = calls command.OpenCampaign (campaign_in d)
what_in k word.CloseCampaign d = calls command.CloseCampaign (ident_in (codes "campaign") d)
what_in k word.Deliver d = deliver_in d
what_in k word.Fetch d = fetch_in d
what_in k word.Bench d = calls command.Deliver (bench_in k d)
what_in k word.Show d = show_in d

-- a campaign that a line opens is running
abbrev pub asks_running : What → Bool
asks_running (Call command) = opens_running command
asks_running (Show vehicle) = true

-- ---- lines

-- the word, then the moment
unfoldable pub head_in : Data → Result ℕ Refusal
head_in d = do
  word ← word_in d
  count_in (codes "at") d

-- the word, then the moment, then the word's members
unfoldable pub asked_of : Rules → Data → Result Asked Refusal
asked_of k d = do
  word ← word_in d
  at ← count_in (codes "at") d
  what ← what_in k word d
  Ok (record { at = at; what = what })

-- what a line asks, or its first fault
unfoldable pub asked_in : Rules → List ℕ → Result Asked Refusal
asked_in k line = do
  d ← or_error NotJson (value_in line)
  members ← object_of (codes "do") d
  asked_of k members
