-- What the types of the parts keep, of each state: identifiers, filenames, counts and hashes are within their limits.
use Rattle.std.specs.Prelude.{◌&&◌, Bool, true, Some, IsTrue, ◌≡◌, ℕ, List, nat_le}
use Rattle.std.specs.List.{AllByRecursion, list_all}
use Rattle.std.specs.FinMap as table
use Rattle.up_canon.specs.Canon.{max_count}
use Rattle.up_canon.specs.HexText.{is_hash, is_second_hash}
use Rattle.up_canon.specs.Names.{Name, is_ident, is_file_name}
use Rattle.up_sign.specs.Schemes.{Rules}
use Rattle.up_plan.specs.Images.{ImageData}
use Rattle.up_machine.specs.declared.command.Command.{Command}
use Rattle.up_machine.specs.declared.command.Command.TheVariants.{AddImage, AddVehicle, ReplaceEcu}
use Rattle.up_machine.specs.Vehicles.{ecu_names}
use Rattle.up_machine.specs.State.{Vehicle, State, empty_state}
use Rattle.up_machine.specs.Machine.{Timed, step, run}

-- its filename, its length in bytes, its hashes, the names of its hardware, and its release counter
abbrev pub image_is_typed : ImageData → Bool
image_is_typed image =
    is_file_name image.file && nat_le image.length max_count && is_hash image.sha256 && is_second_hash image.sha512
    && list_all is_ident image.hardware && nat_le image.release max_count

-- the identifiers of the vehicle, of its ECUs, and of those that were replaced
pub record IsTypedVehicle (name : Name) (v : Vehicle) : Type 0 where
  pub named : IsTrue (is_ident name)
  pub ecus : IsTrue (list_all is_ident (ecu_names v.ecus))
  pub retired : IsTrue (list_all is_ident v.retired)

pub record IsTyped (s : State) : Type 0 where
  pub images : (file : Name) (image : ImageData) → table.get s.images file ≡ Some image → IsTrue (image_is_typed image)
  pub vehicles : (name : Name) (v : Vehicle) → table.get s.vehicles name ≡ Some v → IsTypedVehicle name v

-- of a command: those of the image or the ECUs that it brings, which the types of its fields keep
abbrev pub command_is_typed : Command → Bool
command_is_typed (AddImage image) = image_is_typed image
command_is_typed (AddVehicle new) = is_ident new.vehicle && list_all is_ident (ecu_names new.ecus)
command_is_typed (ReplaceEcu r) = is_ident r.ecu.ecu
command_is_typed _ = true

abbrev pub EmptyIsTyped : Type 0
EmptyIsTyped = IsTyped empty_state

abbrev pub StepsStayTyped : Type 0
StepsStayTyped = (k : Rules) (s : State) (at : ℕ) (c : Command) → IsTrue (command_is_typed c) → IsTyped s → IsTyped (step k s at c).next

abbrev pub RunsStayTyped : Type 0
RunsStayTyped = (k : Rules) (s : State) (ts : List Timed) → AllByRecursion (λ t. IsTrue (command_is_typed t.command)) ts → IsTyped s → IsTyped (run k s ts)
