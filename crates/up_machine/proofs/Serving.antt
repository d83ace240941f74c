-- Each text that is served is a Root file or one of the image repository's files.
use Rattle.std.proofs.Common.{◌≡◌, ℕ, suc, ◌+◌, List, [], ◌∷◌, ◌++◌, Option, Some, None, ◌⊎◌, inl, inr, refl, subst, arith}
use Rattle.std.specs.Prelude.{length, map, find, bytes_eq, slice_get, option_map, option_to_list, codes}
use Rattle.std.specs.List.{AllByRecursion, enumerate_from}
use Rattle.up_roles.specs.declared.repository.Repository.{Repository}
use Rattle.up_roles.specs.declared.repository.Repository.TheVariants.{Director, Image}
use Rattle.up_metadata.specs.declared.role_files.RoleTexts.{RoleTexts}
use Rattle.up_machine.specs.State.{State, nth, last_text}
use Rattle.up_machine.specs.Files.{File, numbered_root_name, numbered_roots, latest_root, texts_in, files}
use Rattle.up_machine.specs.SignedLaws.{IsRootText, IsImageText, IsServedText, ServedFilesAreKnown}
use Rattle.up_canon.proofs.Lists.{each_of_both}
use Rattle.up_canon.proofs.Steps.{map_some}
use Rattle.up_machine.proofs.Installing.{found_is}
use Rattle.up_machine.proofs.Places.{nth_at_place}

-- the file's text is one of these
abbrev IsOneOf : List (List ℕ) → File → Type 0
IsOneOf texts f = (i : ℕ) × (nth texts i ≡ Some f.1)

latest_known : (texts : List (List ℕ)) (o : Option (List ℕ)) → last_text texts ≡ o
    → AllByRecursion (IsOneOf texts) (option_to_list (option_map (λ text. (codes "root.json", text)) o))
latest_known texts None h = tt
latest_known texts (Some text) h = ((length texts, h), tt)

numbered_known : (all : List (List ℕ)) (n : ℕ) (texts : List (List ℕ)) → ((i : ℕ) (text : List ℕ) → slice_get texts i ≡ Some text → nth all (n + i) ≡ Some text)
    → AllByRecursion (IsOneOf all) (map (λ (r : ℕ × List ℕ). (numbered_root_name r.0, r.1)) (enumerate_from n texts))
numbered_known all n [] at = tt
numbered_known all n (text ∷ texts) at = (
  (n, subst (λ (i : ℕ). nth all i ≡ Some text) (plain n) (at 0 text refl)),
  numbered_known all (n + 1) texts (λ i other h. subst (λ (i : ℕ). nth all i ≡ Some other) (later n i) (at (suc i) other h)),
)
  where
    plain : (n : ℕ) → n + 0 ≡ n
    plain n = omega arith

    later : (n i : ℕ) → n + suc i ≡ n + 1 + i
    later n i = omega arith

roots_known : (texts : List (List ℕ)) → AllByRecursion (IsOneOf texts) (latest_root texts ++ numbered_roots texts)
roots_known texts = each_of_both (IsOneOf texts) (latest_root texts) (numbered_roots texts)
    (latest_known texts (last_text texts) refl)
    (numbered_known texts 1 texts (λ i text h. nth_at_place texts (1 + i) i text refl h))

abbrev IsImageFile : State → File → Type 0
IsImageFile s f = IsRootText s Image f.1 ⊎ IsImageText s f.1

each_root_is : (s : State) (fs : List File) → AllByRecursion (IsOneOf s.image.texts) fs → AllByRecursion (IsImageFile s) fs
each_root_is s [] h = tt
each_root_is s (f ∷ fs) h = (inl h.0, each_root_is s fs h.1)

image_known : (s : State) (o : Option RoleTexts) → s.files ≡ o → AllByRecursion (IsImageFile s) (texts_in o)
image_known s None h = tt
image_known s (Some files) h = (inr (files, h, inl refl), (inr (files, h, inr (inl refl)), (inr (files, h, inr (inr refl)), tt)))

served_known : (s : State) (repository : Repository) → AllByRecursion (λ (f : File). IsServedText s repository f.1) (files s repository)
unfolding files
served_known s Director = roots_known s.director.texts
served_known s Image = each_of_both (IsImageFile s) (latest_root s.image.texts ++ numbered_roots s.image.texts) (texts_in s.files)
    (each_root_is s (latest_root s.image.texts ++ numbered_roots s.image.texts) (roots_known s.image.texts)) (image_known s s.files refl)

pub served_files_known : ServedFilesAreKnown
served_files_known s repository name text h =
    let found = map_some (λ (f : File). f.1) (find (λ (f : File). bytes_eq f.0 name) (files s repository)) text h in
    subst (IsServedText s repository) found.2 (found_is (λ (f : File). IsServedText s repository f.1) (λ (f : File). bytes_eq f.0 name) (files s repository) found.0 (served_known s repository) found.1)
