-- The files of both repositories: those that are served, and those that are made next.
use Rattle.std.specs.Prelude.{ℕ, ◌++◌, List, [], ◌∷◌, Option, Some, None, option_map, option_to_list, map, find, bytes_eq, codes, decimal}
use Rattle.std.specs.List.{enumerate_from}
use Rattle.std.specs.FinMap as table
use Rattle.up_canon.specs.Names.{Name}
use Rattle.up_roles.specs.declared.repository.Repository.{Repository}
use Rattle.up_roles.specs.declared.repository.Repository.TheVariants.{Director, Image}
use Rattle.up_roles.specs.declared.targets.Target.{Target}
use Rattle.up_metadata.specs.declared.role_files.RoleTexts.{RoleTexts}
use Rattle.up_metadata.specs.Files.{MetadataSet}
use Rattle.up_plan.specs.Images.{ImageData}
use Rattle.up_machine.specs.State.{State, key_set, last_text}

-- ---- what is made

-- the target of an image, with both of its hashes
abbrev pub target_of : Option Name → ImageData → Target
target_of ecu image = record {
  ecu = ecu;
  file = image.file;
  length = image.length;
  sha256 = image.sha256;
  sha512 = image.sha512;
  hardware = image.hardware;
  release = image.release;
}

-- the image repository's files are of all images in the order of their filenames, under the last root's keys
abbrev pub image_metadata : State → MetadataSet
image_metadata s = record {
  repository = Image;
  keys = key_set s;
  vehicle = None;
  version = s.image_version;
  at = s.stamp;
  targets = map (target_of None) (table.values s.images);
}

-- ---- what is served

-- a file's name and text
abbrev pub File : Type 0
File = Name × List ℕ

abbrev pub numbered_root_name : ℕ → Name
numbered_root_name number = decimal number ++ codes ".root.json"

-- `1.root.json`, `2.root.json` and so on
abbrev pub numbered_roots : List (List ℕ) → List File
numbered_roots texts = map (λ r. (numbered_root_name r.0, r.1)) (enumerate_from 1 texts)

-- `root.json` is the latest
abbrev pub latest_root : List (List ℕ) → List File
latest_root texts = option_to_list (option_map (λ text. (codes "root.json", text)) (last_text texts))

-- `targets.json`, `snapshot.json` and `timestamp.json`
abbrev pub latest_texts : RoleTexts → List File
latest_texts texts = (codes "targets.json", texts.targets) ∷ (codes "snapshot.json", texts.snapshot) ∷ (codes "timestamp.json", texts.timestamp) ∷ []

abbrev pub texts_in : Option RoleTexts → List File
texts_in None = []
texts_in (Some texts) = latest_texts texts

-- each repository's files; before founding there are none
unfoldable pub files : State → Repository → List File
files s Director = latest_root s.director.texts ++ numbered_roots s.director.texts
files s Image = latest_root s.image.texts ++ numbered_roots s.image.texts ++ texts_in s.files

-- the text of the file of this name
abbrev pub file : State → Repository → Name → Option (List ℕ)
file s repository name = option_map (λ f. f.1) (find (λ f. bytes_eq f.0 name) (files s repository))
