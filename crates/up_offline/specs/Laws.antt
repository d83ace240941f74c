-- The laws of published files over single commands.
use Rattle.std.specs.Cmp.Lexicographic.{pointwise}
use Rattle.std.specs.Prelude.{◌≡◌, ℕ, ◌<◌, ◌≤◌, ◌⊎◌, ◌++◌, ◌+◌, List, [], ◌∷◌, Option, Some, None, IsTrue, option_map, option_and_then, Ok, ⊤}
use Rattle.up_sign.specs.Schemes.{Rules, IsScheme}
use Rattle.up_sign.specs.Formats.{envelope_text}
use Rattle.up_sign.specs.declared.envelope.Envelope.{Envelope}
use Rattle.up_roles.specs.declared.root.RootFile.{RootFile}
use Rattle.up_roles.specs.declared.targets.Target.{Target}
use Rattle.up_roles.specs.declared.targets.TargetsFile.{TargetsFile}
use Rattle.up_roles.specs.Root.{root_in}
use Rattle.up_roles.specs.Targets.{targets_in}
use Rattle.up_metadata.specs.declared.keys.KeySet.{KeySet}
use Rattle.up_metadata.specs.Files as today
use Rattle.up_roles.specs.declared.repository.Repository.{Repository}
use Rattle.up_roles.specs.declared.repository.Repository.TheVariants.{Director, Image}
use Rattle.up_roles.specs.declared.root.RoleKeys.{RoleKeys}
use Rattle.up_metadata.specs.declared.keys.RoleSecrets.{RoleSecrets}
use Rattle.up_metadata.specs.declared.keys.RepoKeys.{RepoKeys}
use Rattle.up_metadata.specs.declared.role_files.RoleTexts.{RoleTexts}
use Rattle.up_shown.specs.Showing.{Showing, ShowsKeys}
use Rattle.up_brought.specs.Shown.{accepts}
use Rattle.up_offline.specs.Trusted.{Holds, IsTrusted}
use Rattle.up_offline.specs.State.{Chain, State, is_offline, is_founded, root_number, last_root}
use Rattle.up_offline.specs.Making.{MetadataSet, image_targets, made_targets, role_texts, root_text}
use Rattle.up_brought.specs.Brought.{accepted_before, root_read, same_target}
use Rattle.up_offline.specs.Publications.{Publication}
use Rattle.up_offline.specs.Repositories.{Command, Publish, Refresh, decide, step}

abbrev pub targets_text : State → Option (List ℕ)
targets_text s = option_map (λ files. files.targets) s.files

-- ---- versions never fall; one version, one text

-- the texts of root versions stay, and more may follow
abbrev pub IsLater : Chain → Chain → Type 0
IsLater chain later = (more : List (List ℕ)) × (later.texts ≡ chain.texts ++ more)

pub record Rises (s next : State) : Type 0 where
  pub director : IsLater s.director next.director
  pub image : IsLater s.image next.image
  pub image_version : s.image_version ≤ next.image_version
  pub targets_version : s.targets_version ≤ next.targets_version
  pub one_text : next.targets_version ≡ s.targets_version → targets_text next ≡ targets_text s

-- Targets are of a version that the Snapshot's has reached
abbrev pub IsBelow : State → Type 0
IsBelow s = (s.targets_version ≤ s.image_version)

abbrev pub VersionsRise : Type 0
VersionsRise = (k : Showing) (s : State) (at : ℕ) (c : Command) → IsBelow s → IsTrue (is_founded s) → Rises s (step k s at c) × IsBelow (step k s at c)

-- ---- what is kept offline is never made here

-- the text was brought as Targets, in its one spelling and before it expired, is signed for the Targets role of the last Root, and lists just the
-- registered images
pub record IsBroughtTargets (k : Showing) (at : ℕ) (c : Command) (next : State) (text : List ℕ) : Type 0 where
  pub publication : Publication
  pub command : c ≡ Publish publication
  pub brought : publication.targets ≡ Some text
  pub file : TargetsFile
  pub envelope : Envelope
  pub read : targets_in text ≡ Ok (file, envelope)
  pub spelled : text ≡ envelope_text envelope
  pub lasts : at < file.expires
  pub root : RootFile
  pub last : option_and_then root_read (last_root next.image) ≡ Some root
  pub signed : IsTrue (accepts k root.targets envelope)
  pub lists : IsTrue (pointwise same_target file.targets (image_targets next))

-- where the keys of the image repository's Targets are offline behind a command, Targets stay as they are, or were brought: so it is where they
-- were taken offline just then, too
abbrev pub OfflineTargetsAreBrought : Type 0
OfflineTargetsAreBrought = (k : Showing) (s : State) (at : ℕ) (c : Command) → IsTrue (is_offline (step k s at c).image.keys.targets)
    → (targets_text (step k s at c) ≡ targets_text s)
    ⊎ ((text : List ℕ) × (targets_text (step k s at c) ≡ Some text) × IsBroughtTargets k at c (step k s at c) text)

-- the text is a Root that was brought, in its one spelling and before it expired, signed for the root role of the last one and for its own
pub record IsBroughtRoot (k : Showing) (at : ℕ) (chain : Chain) (text : List ℕ) : Type 0 where
  pub file : RootFile
  pub envelope : Envelope
  pub read : root_in text ≡ Ok (file, envelope)
  pub spelled : text ≡ envelope_text envelope
  pub lasts : at < file.expires
  pub number : file.version ≡ root_number chain + 1
  pub before : IsTrue (accepted_before k (last_root chain) envelope)
  pub own : IsTrue (accepts k file.root envelope)

-- where a root role is kept offline behind a command, root versions stay, or one followed that was brought: so it is of the one that took the role
-- offline, too
abbrev pub GrowsByBrought : Showing → ℕ → Chain → Chain → Type 0
GrowsByBrought k at chain next = IsTrue (is_offline next.keys.root)
    → (next ≡ chain) ⊎ ((text : List ℕ) × (next.texts ≡ chain.texts ++ text ∷ []) × IsBroughtRoot k at chain text)

-- a role that was kept offline is so still
abbrev pub StaysOffline : RoleSecrets → RoleSecrets → Type 0
StaysOffline role next = IsTrue (is_offline role) → IsTrue (is_offline next)

pub record OfflineRootsAreBrought (k : Showing) (at : ℕ) (s next : State) : Type 0 where
  pub director : GrowsByBrought k at s.director next.director
  pub image : GrowsByBrought k at s.image next.image
  pub stay : IsTrue (is_founded s) → StaysOffline s.director.keys.root next.director.keys.root × StaysOffline s.image.keys.root next.image.keys.root

abbrev pub OfflineRootsGrow : Type 0
OfflineRootsGrow = (k : Showing) (s : State) (at : ℕ) (c : Command) → OfflineRootsAreBrought k at s (step k s at c)

-- ---- secrets are of the last Root

-- the secrets of a role are those of the keys that are listed, or none are held
abbrev pub HoldsAtMost : Showing → RoleSecrets → RoleKeys → Type 0
HoldsAtMost k role listed = IsTrue (is_offline role) ⊎ Holds k role listed

-- of each role of this Root
pub record HoldsOf (k : Showing) (keys : RepoKeys) (listed : RootFile) : Type 0 where
  pub root : HoldsAtMost k keys.root listed.root
  pub targets : HoldsAtMost k keys.targets listed.targets
  pub snapshot : HoldsAtMost k keys.snapshot listed.snapshot
  pub timestamp : HoldsAtMost k keys.timestamp listed.timestamp

-- A repository stays as it is; or its last Root was made of the keys that are held then; or it was brought, and what is held is of the keys that it
-- lists. So no secret stays that the last Root doesn't list.
pub data HoldsLast (k : Showing) (repository : Repository) (at : ℕ) (chain next : Chain) : Type 0 where
  stayed : next ≡ chain → HoldsLast k repository at chain next
  made : (keys : KeySet) → next.keys ≡ today.keys_of repository keys → next.texts ≡ chain.texts ++ root_text k.rules repository at next.keys chain ∷ [] → HoldsLast k repository at chain next
  came : (root : RootFile) → option_and_then root_read (last_root next) ≡ Some root → HoldsOf k next.keys root → HoldsLast k repository at chain next

pub record HoldLast (k : Showing) (at : ℕ) (s next : State) : Type 0 where
  pub director : HoldsLast k Director at s.director next.director
  pub image : HoldsLast k Image at s.image next.image

abbrev pub SecretsAreOfTheLastRoot : Type 0
SecretsAreOfTheLastRoot = (k : Showing) (s : State) (at : ℕ) (c : Command) → HoldLast k at s (step k s at c)

-- ---- what is made by held keys is today's, byte for byte

abbrev pub of_today : MetadataSet → KeySet → List Target → today.MetadataSet
of_today m keys targets = record { repository = m.repository; keys = keys; vehicle = m.vehicle; version = m.version; at = m.at; targets = targets }

abbrev pub FilesAreTodays : Type 0
FilesAreTodays = (k : Rules) (m : MetadataSet) (keys : KeySet) (targets : List Target) → m.keys ≡ today.keys_of m.repository keys
    → role_texts k m (made_targets k m targets) ≡ today.role_texts k (of_today m keys targets)

-- a root version of the keys `keys`, behind one of the keys `before`, or the first
abbrev pub RootsAreTodays : Type 0
RootsAreTodays = (k : Rules) (repository : Repository) (at : ℕ) (keys : today.Root) (before : Option KeySet) (chain : Chain) → keys.at ≡ at
    → chain.keys.root.keys ≡ today.root_secrets repository before
    → root_text k repository at (today.keys_of repository keys.keys) chain ≡ today.root_text k repository (root_number chain + 1) keys before

-- ---- what whoever verifies finds

-- nothing is published
pub record IsNew (s : State) : Type 0 where
  pub files : s.files ≡ None
  pub director : s.director.texts ≡ []
  pub image : s.image.texts ≡ []
  pub targets_version : s.targets_version ≡ 0

-- nothing is published, or what is published is trusted
abbrev pub IsNewOrTrusted : Showing → State → Type 0
IsNewOrTrusted k s = IsNew s ⊎ ((files : RoleTexts) × (s.files ≡ Some files) × IsTrusted k s files)

-- a publication or a refresh
abbrev pub Publishes : Command → Type 0
Publishes (Publish p) = ⊤
Publishes (Refresh version) = ⊤
Publishes _ = ⊥

-- of a lawful scheme that shows its keys, what is published is trusted behind each publication and each refresh that is done and leaves the
-- image repository's Targets offline
abbrev pub PublishedIsTrusted : Type 0
PublishedIsTrusted = (k : Showing) (s next : State) (at : ℕ) (c : Command) → IsScheme k.rules → ShowsKeys k → IsNewOrTrusted k s → Publishes c
    → decide k s at c ≡ Ok (Some next) → IsTrue (is_offline next.image.keys.targets)
    → (files : RoleTexts) × (next.files ≡ Some files) × IsTrusted k next files
