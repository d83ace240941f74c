-- The word of a line, which says what the line asks for.
use Rattle.std.specs.Prelude.{ℕ, List, Option, Some, None, if◌then◌else◌, bytes_eq, Result, codes}
use Rattle.serde_json.specs.Data.{Data}
use Rattle.up_canon.specs.Members.{text_in}
use Rattle.up_canon.specs.Steps.{◌>>=◌, or_error}
use Rattle.up_canon.specs.declared.refusal.Refusal.{Refusal}
use Rattle.up_canon.specs.declared.refusal.Refusal.TheVariants.{BadShape}
use Rattle.up_script.specs.declared.word.Word.{Word}
use Rattle.up_script.specs.declared.word.Word.TheVariants.{Found, Rotate, AddVehicle, ReplaceEcu, AddImage, Refresh, OpenCampaign, CloseCampaign, Deliver, Fetch, Bench, Show}

-- none of another text
abbrev pub word_of : List ℕ → Option Word
word_of text =
    if bytes_eq text (codes "found") then Some Found
    else if bytes_eq text (codes "rotate") then Some Rotate
    else if bytes_eq text (codes "add_vehicle") then Some AddVehicle
    else if bytes_eq text (codes "replace_ecu") then Some ReplaceEcu
    else if bytes_eq text (codes "add_image") then Some AddImage
    else if bytes_eq text (codes "refresh") then Some Refresh
    else if bytes_eq text (codes "open_campaign") then Some OpenCampaign
    else if bytes_eq text (codes "close_campaign") then Some CloseCampaign
    else if bytes_eq text (codes "deliver") then Some Deliver
    else if bytes_eq text (codes "fetch") then Some Fetch
    else if bytes_eq text (codes "bench") then Some Bench
    else if bytes_eq text (codes "show") then Some Show
    else None

unfoldable pub word_in : Data → Result Word Refusal
word_in d = do
  text ← text_in (codes "do") d
  or_error (BadShape (codes "do")) (word_of text)
