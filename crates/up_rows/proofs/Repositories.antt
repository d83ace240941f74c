-- A root version, new files of the image repository, and an image, take the rows of a state to those of the next.
use Rattle.std.proofs.Common.{◌≡◌, ℕ, List, [], ◌∷◌, ◌++◌, Some, sym, ap, ◌∙◌}
use Rattle.std.specs.FinMap as table
use Rattle.std.proofs.lemmas.Option.{same_Some}
use Rattle.up_machine.specs.State.{State, last_text}
use Rattle.up_machine.specs.Repositories.{stamped, with_root, with_image}
use Rattle.up_machine.specs.Rows.{founding_row, rows_of}
use Rattle.up_machine.proofs.Places.{nth_last}
use Rattle.up_rows.specs.Tables.{each_value}
use Rattle.up_rows.specs.StateRows.{kept_rows, retired_names}
use Rattle.up_rows.specs.Laws.{RootsAreAdded, FilesAreReplaced, ImagesAreAdded}

-- a text that is put behind others is the last
put_behind : (texts : List (List ℕ)) (text last : List ℕ) → last_text (texts ++ text ∷ []) ≡ Some last → texts ++ last ∷ [] ≡ texts ++ text ∷ []
put_behind texts text last h = ap (λ t. texts ++ t ∷ []) (same_Some last text (sym h ∙ nth_last texts text))

pub roots_added : RootsAreAdded
roots_added k s at version keys rows has =
    let next : State = stamped k (with_root k s at keys) at version in
    let founding : Some rows.founding ≡ founding_row next = sym has.founding in
    let director : s.director.texts ++ rows.director ∷ [] ≡ next.director.texts = put_behind s.director.texts _ rows.director has.director in
    let image : s.image.texts ++ rows.image ∷ [] ≡ next.image.texts = put_behind s.image.texts _ rows.image has.image in
    let files : Some rows.files ≡ next.files = sym has.files in
    λ i. record { founding = founding i; director = director i; image = image i; images = s.images; files = files i; campaigns = s.campaigns; vehicles = each_value rows_of s.vehicles; kept = kept_rows s; retired = retired_names s }

pub files_replaced : FilesAreReplaced
files_replaced k s at version rows has =
    let next : State = stamped k s at version in
    let founding : Some rows.founding ≡ founding_row next = sym has.founding in
    let files : Some rows.files ≡ next.files = sym has.files in
    λ i. record { founding = founding i; director = s.director.texts; image = s.image.texts; images = s.images; files = files i; campaigns = s.campaigns; vehicles = each_value rows_of s.vehicles; kept = kept_rows s; retired = retired_names s }

pub images_added : ImagesAreAdded
images_added k s at version image rows has =
    let next : State = stamped k (with_image s image) at version in
    let founding : Some rows.founding ≡ founding_row next = sym has.founding in
    let files : Some rows.files ≡ next.files = sym has.files in
    λ i. record { founding = founding i; director = s.director.texts; image = s.image.texts; images = table.insert s.images image.file image; files = files i; campaigns = s.campaigns; vehicles = each_value rows_of s.vehicles; kept = kept_rows s; retired = retired_names s }
