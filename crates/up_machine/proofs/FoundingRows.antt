-- The founding's row of a state, what is due of the state that a new root version or a change of the register leaves, and its rows.
use Rattle.std.proofs.Common.{◌≡◌, ℕ, ◌+◌, List, [], ◌∷◌, true, false, Option, Some, None, Result, Ok, Err, length, refl, sym, ap, ap₂, ◌∙◌, subst}
use Rattle.std.specs.Prelude.{option_map, map, is_some, IfOk}
use Rattle.std.specs.FinMap as table
use Rattle.std.proofs.lemmas.List.{length-append}
use Rattle.std.proofs.lemmas.Option.{same_Some}
use Rattle.up_canon.specs.Names.{Table}
use Rattle.up_sign.specs.Schemes.{Rules}
use Rattle.up_roles.specs.declared.repository.Repository.{Repository}
use Rattle.up_roles.specs.declared.repository.Repository.TheVariants.{Director, Image}
use Rattle.up_roles.specs.declared.targets.Target.{Target}
use Rattle.up_plan.specs.Images.{ImageData}
use Rattle.up_metadata.specs.declared.hashed_keys.HashedKeySet.{HashedKeySet}
use Rattle.up_metadata.specs.declared.keys.KeySet.{KeySet}
use Rattle.up_metadata.specs.declared.role_files.RoleTexts.{RoleTexts}
use Rattle.up_metadata.specs.Files.{MetadataSet, root_text, role_texts}
use Rattle.up_machine.specs.declared.rows.Founding.{Founding}
use Rattle.up_machine.specs.declared.decision.NextRoot.{NextRoot}
use Rattle.up_machine.specs.declared.decision.RegisterRows.{RegisterRows}
use Rattle.up_machine.specs.declared.decision.RootRows.{RootRows}
use Rattle.up_machine.specs.State.{State, is_founded, chain_of, root_number, image_root_number, key_set, keys_before, last_text}
use Rattle.up_machine.specs.Files.{target_of}
use Rattle.up_machine.specs.Rows.{founding_row}
use Rattle.up_machine.specs.Repositories.{next_chain, with_root, stamped, are_roots_full}
use Rattle.up_machine.specs.Decisions.{HasRootRows, HasRegisterRows}
use Rattle.up_machine.specs.Due.{row_with_root, HasNewFiles, HasRoot, HasFounding}
use Rattle.up_machine.proofs.FoundedRow.{row_of}
use Rattle.up_machine.proofs.Places.{nth_last}

-- ---- what the row says of the state

pub founding_of : (s : State) (f : Founding) → Some f ≡ founding_row s → (is_founded s ≡ true) × (f ≡ row_of s)
founding_of s f h = by_files s.files h
  where
    by_files : (o : Option RoleTexts) → Some f ≡ option_map (λ files. row_of s) o → (is_some o ≡ true) × (f ≡ row_of s)
    by_files None h = cc
    by_files (Some files) h = (refl, same_Some f (row_of s) h)

pub has_files : (s : State) (f : Founding) → Some f ≡ founding_row s → is_founded s ≡ true
has_files s f h = (founding_of s f h).0

-- no row, no files
pub unfounded : (s : State) → None ≡ founding_row s → s.files ≡ None
unfounded s h = by_files s.files h
  where
    by_files : (o : Option RoleTexts) → None ≡ option_map (λ files. row_of s) o → o ≡ None
    by_files None h = refl
    by_files (Some files) h = cc

pub none_there : {A : Type 0} (o : Option A) → is_some o ≡ false → o ≡ None
none_there None h = refl
none_there (Some x) h = cc

pub root_number_is : (s : State) (f : Founding) → Some f ≡ founding_row s → f.root ≡ root_number s
root_number_is s f h = ap (λ (f : Founding). f.root) (founding_of s f h).1

pub image_root_number_is : (s : State) (f : Founding) → Some f ≡ founding_row s → f.image_root ≡ image_root_number s
image_root_number_is s f h = ap (λ (f : Founding). f.image_root) (founding_of s f h).1

pub as_full : (s : State) (f : Founding) → Some f ≡ founding_row s → are_roots_full f.root f.image_root ≡ are_roots_full (root_number s) (image_root_number s)
as_full s f h = ap (λ (f : Founding). are_roots_full f.root f.image_root) (founding_of s f h).1

pub version_number : (s : State) (f : Founding) → Some f ≡ founding_row s → f.image_version ≡ s.image_version
version_number s f h = ap (λ (f : Founding). f.image_version) (founding_of s f h).1

pub old_before : (s : State) (f : Founding) → Some f ≡ founding_row s → Some f.keys ≡ keys_before s
old_before s f h = ap (option_map (λ (f : Founding). f.keys)) h ∙ by_files s.files
  where
    by_files : (o : Option RoleTexts) → option_map (λ (f : Founding). f.keys) (option_map (λ files. row_of s) o) ≡ option_map (λ files. key_set s) o
    by_files None = refl
    by_files (Some files) = refl

-- ---- what is due

-- the text of the new root version is the last one
new_text : (k : Rules) (repository : Repository) (s : State) (at : ℕ) (keys : KeySet) (number : ℕ) (before : Option KeySet) → number ≡ length (chain_of repository s).texts + 1 → before ≡ keys_before s
    → last_text (next_chain k repository s at keys).texts ≡ Some (root_text k repository number (record { keys = keys; at = at }) before)
new_text k repository s at keys number before is old =
    nth_last (chain_of repository s).texts _
    ∙ ap₂ (λ n b. Some (root_text k repository n (record { keys = keys; at = at }) b)) (sym is) (sym old)

pub root_is_due : (k : Rules) (s : State) (at : ℕ) (keys : KeySet) (version number image_number : ℕ) (hashed : HashedKeySet) (before : Option KeySet) → number ≡ root_number s + 1 → image_number ≡ image_root_number s + 1
    → before ≡ keys_before s
    → HasRoot k (stamped k (with_root k s at keys) at version) at keys (record { number = number; image_number = image_number; version = version; hashed = hashed; before = before })
root_is_due k s at keys version number image_number hashed before is image_is old = record {
  founding = ap₂ {C = Option Founding} (λ n m. Some (record { root = n; image_root = m; keys = keys; image_version = version; targets_version = version; stamp = at }))
      (length-append s.director.texts (_ ∷ []) ∙ sym is) (length-append s.image.texts (_ ∷ []) ∙ sym image_is);
  director = new_text k Director s at keys number before is old;
  image = new_text k Image s at keys image_number before image_is old;
  files = refl;
}

-- the founding's row with new files of the image repository
abbrev pub row_with : Founding → ℕ → ℕ → Founding
row_with f version at = record { root = f.root; image_root = f.image_root; keys = f.keys; image_version = version; targets_version = version; stamp = at }

pub files_are_due : (k : Rules) (s : State) (images : Table ImageData) (at version : ℕ) (f : Founding) → founding_row s ≡ Some f
    → HasFounding (stamped k (record s { images = images }) at version) (row_with f version at)
files_are_due k s images at version f h =
    let next = stamped k (record s { images = images }) at version in
    subst (λ f. HasFounding next (row_with f version at)) (sym (founding_of s f (sym h)).1) refl

-- ---- the rows of what is due

-- the image repository's files
abbrev pub metadata_of : Founding → List Target → MetadataSet
metadata_of f targets = record { repository = Image; keys = f.keys; vehicle = None; version = f.image_version; at = f.stamp; targets = targets }

abbrev pub files_of : Rules → Founding → List ImageData → RoleTexts
files_of k f images = role_texts k (metadata_of f (map (target_of None) images))

new_files_are : (k : Rules) (next : State) (f : Founding) → founding_row next ≡ Some f → HasNewFiles k next → next.files ≡ Some (files_of k f (table.values next.images))
new_files_are k next f has made = made ∙ ap (λ f. Some (files_of k f (table.values next.images))) (sym (founding_of next f (sym has)).1)

pub register_rows_hold : (k : Rules) (next : State) (f : Founding) → HasFounding next f → HasNewFiles k next → HasRegisterRows next (record { founding = f; files = files_of k f (table.values next.images) })
register_rows_hold k next f has made = record { founding = has; files = new_files_are k next f has made }

abbrev pub root_rows_of : Rules → ℕ → KeySet → NextRoot → Option KeySet → List ImageData → RootRows
root_rows_of k at keys new before images = record {
  founding = row_with_root at keys new;
  director = root_text k Director new.number (record { keys = keys; at = at }) before;
  image = root_text k Image new.image_number (record { keys = keys; at = at }) before;
  files = files_of k (row_with_root at keys new) images;
}

pub root_rows_hold : (k : Rules) (next : State) (at : ℕ) (keys : KeySet) (new : NextRoot) → HasRoot k next at keys new
    → HasRootRows next (root_rows_of k at keys new new.before (table.values next.images))
root_rows_hold k next at keys new has = record {
  founding = has.founding;
  director = has.director;
  image = has.image;
  files = new_files_are k next (row_with_root at keys new) has.founding has.files;
}

-- what is made of the targets of these images
pub of_targets : {E : Type 0} (k : Rules) (f : Founding) (images : List ImageData) (targets : List Target) → targets ≡ map (target_of None) images → (result : Result RegisterRows E)
    → IfOk result (λ rows. rows ≡ record { founding = f; files = role_texts k (metadata_of f targets) }) → IfOk result (λ rows. rows ≡ record { founding = f; files = files_of k f images })
of_targets k f images targets are (Ok rows) is = is ∙ ap (λ ts. record { founding = f; files = role_texts k (metadata_of f ts) }) are
of_targets k f images targets are (Err e) is = tt

-- what is made of these images
pub register_rows_are : {E : Type 0} (k : Rules) (next : State) (f : Founding) → HasFounding next f → HasNewFiles k next → (images : List ImageData) → images ≡ table.values next.images → (result : Result RegisterRows E)
    → IfOk result (λ rows. rows ≡ record { founding = f; files = files_of k f images }) → IfOk result (λ rows. HasRegisterRows next rows)
register_rows_are k next f has made images are (Ok rows) is =
    subst (HasRegisterRows next) (sym (is ∙ ap (λ xs. record { founding = f; files = files_of k f xs }) are)) (register_rows_hold k next f has made)
register_rows_are k next f has made images are (Err e) is = tt

pub root_rows_are : {E : Type 0} (k : Rules) (next : State) (at : ℕ) (keys : KeySet) (new : NextRoot) → HasRoot k next at keys new → (images : List ImageData) → images ≡ table.values next.images → (result : Result RootRows E)
    → IfOk result (λ rows. rows ≡ root_rows_of k at keys new new.before images) → IfOk result (λ rows. HasRootRows next rows)
root_rows_are k next at keys new has images are (Ok rows) is =
    subst (HasRootRows next) (sym (is ∙ ap (root_rows_of k at keys new new.before) are)) (root_rows_hold k next at keys new has)
root_rows_are k next at keys new has images are (Err e) is = tt
