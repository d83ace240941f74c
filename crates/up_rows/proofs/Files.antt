-- The text that is found among the rows of a state is the file's.
use Rattle.std.proofs.Common.{◌≡◌, ℕ, List, [], ◌∷◌, ◌++◌, Bool, true, false, cond, Option, Some, None, refl, sym, ap, ◌∙◌}
use Rattle.std.specs.Prelude.{option_map, option_to_list, find, bytes_eq, codes, if◌then◌else◌}
use Rattle.std.specs.Option.{option_or}
use Rattle.up_canon.specs.Names.{Name}
use Rattle.up_roles.specs.declared.repository.Repository.TheVariants.{Director, Image}
use Rattle.up_machine.specs.State.{last_text}
use Rattle.up_machine.specs.Files.{File, numbered_roots, latest_root, texts_in, files}
use Rattle.up_rows.specs.Lookups.{text_named, root_named}
use Rattle.up_rows.specs.Laws.{FilesAreFound}

-- ---- what is found in lists one after another

abbrev named : Name → File → Bool
named name f = bytes_eq f.0 name

either_found : (name : Name) (fs gs : List File) → text_named name (fs ++ gs) ≡ option_or (text_named name fs) (text_named name gs)
either_found name [] gs = refl
either_found name (f ∷ fs) gs = by_test (named name f) (either_found name fs gs)
  where
    by_test : (t : Bool) → text_named name (fs ++ gs) ≡ option_or (text_named name fs) (text_named name gs)
        → option_map (λ (f : File). f.1) (cond t (Some f) (find (named name) (fs ++ gs))) ≡ option_or (option_map (λ (f : File). f.1) (cond t (Some f) (find (named name) fs))) (text_named name gs)
    by_test true more = refl
    by_test false more = more

pub or_none : {A : Type 0} (o : Option A) → option_or o None ≡ o
or_none None = refl
or_none (Some x) = refl

-- ---- Root files

latest_found : (name : Name) (o : Option (List ℕ))
    → text_named name (option_to_list (option_map (λ (text : List ℕ). (codes "root.json", text)) o)) ≡ (if bytes_eq (codes "root.json") name then o else None)
latest_found name None = by_test (bytes_eq (codes "root.json") name)
  where
    by_test : (t : Bool) → option_map (λ (f : File). f.1) None ≡ cond t None None
    by_test true = refl
    by_test false = refl
latest_found name (Some text) = by_test (bytes_eq (codes "root.json") name)
  where
    by_test : (t : Bool) → option_map (λ (f : File). f.1) (cond t (Some (codes "root.json", text)) None) ≡ cond t (Some text) None
    by_test true = refl
    by_test false = refl

roots_found : (name : Name) (texts : List (List ℕ)) → text_named name (latest_root texts ++ numbered_roots texts) ≡ root_named name texts
roots_found name texts =
    either_found name (latest_root texts) (numbered_roots texts)
    ∙ ap (λ (o : Option (List ℕ)). option_or o (text_named name (numbered_roots texts))) (latest_found name (last_text texts))

pub files_found : FilesAreFound
unfolding files
files_found s Director name = or_none _ ∙ sym (roots_found name s.director.texts)
files_found s Image name =
    ap (λ (o : Option (List ℕ)). option_or o (text_named name (texts_in s.files))) (sym (roots_found name s.image.texts))
    ∙ sym (either_found name (latest_root s.image.texts ++ numbered_roots s.image.texts) (texts_in s.files))
