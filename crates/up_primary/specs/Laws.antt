-- The laws of a Primary beside the plain machine.
use Rattle.std.specs.Prelude.{◌≡◌, ℕ, ◌+◌, ◌<◌, ◌≤◌, ◌⊎◌, ◌++◌, List, [], Bool, None, Some, IsTrue, length, Ok, filter_map}
use Rattle.std.specs.List.{All, AllByRecursion, Contains}
use Rattle.std.specs.FinMap as table
use Rattle.sha2.specs.Sha256.{sha256}
use Rattle.up_sign.specs.Schemes.{Rules, IsScheme}
use Rattle.up_roles.specs.declared.repository.Repository.{Repository}
use Rattle.up_roles.specs.declared.repository.Repository.TheVariants.{Director, Image}
use Rattle.up_roles.specs.declared.targets.Target.{Target}
use Rattle.up_roles.specs.Lifetimes.{lifetimes}
use Rattle.up_roles.specs.Payload.{largest_file}
use Rattle.up_plan.specs.Images.{ImageData}
use Rattle.up_plan.specs.Planning.{is_for}
use Rattle.up_metadata.specs.declared.keys.KeySet.{KeySet}
use Rattle.up_metadata.specs.declared.role_files.RoleTexts.{RoleTexts}
use Rattle.up_metadata.specs.Files.{Root, root_text, snapshot_text, targets_file}
use Rattle.up_machine.specs.Commands.{is_command}
use Rattle.up_machine.specs.State.{Entry, State, empty_state, nth, chain_of, is_founded, root_number, version}
use Rattle.up_machine.specs.Files.{file, image_metadata, numbered_root_name, target_of}
use Rattle.up_machine.specs.Replies.{reply_metadata}
use Rattle.up_machine.specs.Deliveries.{Received, receive, check_new, accepted, plan_in, fitted}
use Rattle.up_machine.specs.Machine.{Timed, run}
use Rattle.up_machine.specs.Made.{IsMade, roots_of}
use Rattle.up_machine.specs.Sound.{IsSound}
use Rattle.up_laws.specs.Plans.{HasOwnPlans}
use Rattle.up_laws.specs.Readings.{AreReadAgain}
use Rattle.up_laws.specs.Typed.{IsTyped, command_is_typed}
use Rattle.up_verify.specs.declared.trust.OwnEcu.{OwnEcu}
use Rattle.up_verify.specs.declared.trust.Primary.{Primary}
use Rattle.up_verify.specs.declared.served.Served.{Served}
use Rattle.up_verify.specs.declared.served.Accepted.{Accepted}
use Rattle.up_verify.specs.Verifiers.{Verifier}
use Rattle.up_verify.specs.Roots.{follow}
use Rattle.up_verify.specs.Verify.{verify, after}
use Rattle.up_primary.specs.Machine.{reply_for, served_in}
use Rattle.up_primary.specs.Forging.{IsEntryAt, IsUnforged, AreUnforged, AreSafeFrom, AreSafeTimestamps}
use Rattle.up_primary.specs.Following.{FollowsRoot, AreUpTo, Follows, KnowsKeys, KeysAgree, KnowsEcu, Suits, IsFresh}

-- commands within their limits, whose names, counts and hashes are those of their types
abbrev pub AreGiven : List Timed → Type 0
AreGiven ts = AllByRecursion (λ t. IsTrue (is_command t.command) × IsTrue (command_is_typed t.command)) ts

-- ---- what is fetched

-- each Root file by its number, and none of the number behind the last
abbrev pub RootsAreFetched : Type 0
RootsAreFetched = (k : Rules) (s : State) (repository : Repository) (i : ℕ) (text : List ℕ) → IsSound k s → nth (chain_of repository s).texts i ≡ Some text
    → file s repository (numbered_root_name i) ≡ Some text

abbrev pub NoMoreAreFetched : Type 0
NoMoreAreFetched = (k : Rules) (s : State) (repository : Repository) → IsSound k s → file s repository (numbered_root_name (length (chain_of repository s).texts + 1)) ≡ None

-- ---- completeness

-- the Image repository's files are read again
abbrev pub ImageFilesAreReadAgain : Type 0
ImageFilesAreReadAgain = (k : Rules) (s : State) → IsScheme k → IsSound k s → IsTyped s → IsTrue (is_founded s) → AreReadAgain k (image_metadata s)

-- and each Root behind another is small enough
abbrev pub RootsAreSmall : Type 0
RootsAreSmall = (k : Rules) (s : State) (roots : List Root) (repository : Repository) (i : ℕ) (root before : Root) → IsScheme k → IsSound k s → IsMade k s roots
    → nth roots (i + 1) ≡ Some root → nth roots i ≡ Some before → length (root_text k repository (i + 1) root (Some before.keys)) ≤ largest_file

-- once founded, the Image repository's version never goes back
abbrev pub ImageVersionsRise : Type 0
ImageVersionsRise = (k : Rules) (s : State) (ts : List Timed) → IsTrue (is_founded s) → s.image_version ≤ (run k s ts).image_version

-- a Primary that follows a state follows each later one
abbrev pub FollowingLasts : Type 0
FollowingLasts = (k : Rules) (s : State) (roots : List Root) (ts : List Timed) (p : Primary) → IsMade k s roots → Follows k s roots p → Follows k (run k s ts) (roots ++ roots_of k s ts) p

-- what is served is accepted: what is assigned is to be installed, and the Primary follows the state
pub record IsTaken (v : Verifier) (s : State) (roots : List Root) (number : ℕ) (e : Entry) (root : Root) (now : ℕ) (p : Primary) : Type 0 where
  pub files : RoleTexts
  pub served : s.files ≡ Some files
  pub result : Accepted
  pub is : verify v now p (served_in s files p (reply_for v.rules s p.vehicle number e root)) ≡ Ok result
  pub installs : result.installs ≡ (reply_metadata s root.keys p.vehicle number e.at e.plan).targets
  pub follows : Follows v.rules s roots result.next

-- A Primary that follows a state and knows the keys accepts a reply under the last root, new or a repeat, and all that is served with it,
-- however many roots and versions came since: while nothing of it has expired, it has verified no later reply, and what is assigned
-- suits its ECUs.
abbrev pub RepliesAreTaken : Type 0
RepliesAreTaken = (v : Verifier) (s : State) (roots : List Root) (now number : ℕ) (e : Entry) (root : Root) (p : Primary) → IsScheme v.rules
    → IsSound v.rules s → IsTyped s → HasOwnPlans s → IsMade v.rules s roots → KeysAgree v.rules roots
    → Follows v.rules s roots p → KnowsKeys v roots
    → IsEntryAt s roots p.vehicle number e root → e.root ≡ root_number s
    → AreUpTo number p.director.versions → All (Suits p.ecus) (reply_metadata s root.keys p.vehicle number e.at e.plan).targets → IsFresh s root e now
    → IsTaken v s roots number e root now p

-- a manifest of the Primary's vehicle that is accepted
pub record IsAnswered (k : Rules) (s : State) (at : ℕ) (body : List ℕ) (p : Primary) : Type 0 where
  pub received : Received
  pub is : receive k s at body ≡ Ok received
  pub new : check_new k received ≡ Ok tt
  pub of_vehicle : received.incoming.manifest.vehicle ≡ p.vehicle

-- What is assigned to a new manifest suits the ECUs of a Primary that reports them as they are.
abbrev pub NewPlansSuit : Type 0
NewPlansSuit = (k : Rules) (s : State) (at : ℕ) (body : List ℕ) (keys : KeySet) (p : Primary) (a : IsAnswered k s at body p) → IsSound k s
    → All (KnowsEcu s p.ecus) (filter_map (fitted a.received.incoming.manifest.reports) a.received.vehicle.ecus)
    → All (Suits p.ecus) (reply_metadata (accepted k s at a.received).next keys p.vehicle (version a.received.vehicle.entries + 1) at (plan_in s a.received)).targets

-- ---- soundness

-- Whatever bytes it is served, a Primary that trusts a Root of the Director's accepts only Targets that the machine made for its vehicle,
-- of no lower version than is remembered behind the Roots that came: if of the Director's root and Targets keys fewer are stolen than have to sign, and nothing was forged
-- under the others.
abbrev pub DirectorIsHeard : Type 0
DirectorIsHeard = (v : Verifier) (ts : List Timed) (stolen : List ℕ → Bool) (now : ℕ) (p : Primary) (served : Served) (result : Accepted) → IsScheme v.rules
    → AreGiven ts → KeysAgree v.rules (roots_of v.rules empty_state ts) → AreUnforged v.rules ts stolen served.director_roots served.reply.files.targets
    → FollowsRoot v.rules (roots_of v.rules empty_state ts) Director p.director
    → AreSafeFrom v.rules (roots_of v.rules empty_state ts) Director stolen p.director.root.version
    → verify v now p served ≡ Ok result
    → (number : ℕ) × (e : Entry) × (root : Root) × IsEntryAt (run v.rules empty_state ts) (roots_of v.rules empty_state ts) p.vehicle number e root
    × (result.targets ≡ targets_file (reply_metadata (run v.rules empty_state ts) root.keys p.vehicle number e.at e.plan)) × ((follow v Director p.director served.director_roots).trust.versions.targets ≤ number)

-- Where this is true of the Timestamp and its keys too, what is accepted is of a manifest of the last seven days.
abbrev pub DirectorIsFresh : Type 0
DirectorIsFresh = (v : Verifier) (ts : List Timed) (stolen : List ℕ → Bool) (now : ℕ) (p : Primary) (served : Served) (result : Accepted) → IsScheme v.rules
    → AreGiven ts → KeysAgree v.rules (roots_of v.rules empty_state ts) → AreUnforged v.rules ts stolen served.director_roots served.reply.files.targets
    → IsUnforged v.rules ts stolen served.reply.files.timestamp
    → FollowsRoot v.rules (roots_of v.rules empty_state ts) Director p.director
    → AreSafeFrom v.rules (roots_of v.rules empty_state ts) Director stolen p.director.root.version
    → AreSafeTimestamps v.rules (roots_of v.rules empty_state ts) Director stolen p.director.root.version
    → verify v now p served ≡ Ok result
    → (number : ℕ) × (e : Entry) × (root : Root) × IsEntryAt (run v.rules empty_state ts) (roots_of v.rules empty_state ts) p.vehicle number e root
    × (result.targets ≡ targets_file (reply_metadata (run v.rules empty_state ts) root.keys p.vehicle number e.at e.plan)) × (now < e.at + (lifetimes Director).timestamp)

-- the target is a registered image as it is registered, for an ECU of the vehicle, for its hardware, and of no lower release
pub record IsRegistered (s : State) (ecus : List OwnEcu) (t : Target) : Type 0 where
  pub own : OwnEcu
  pub present : Contains ecus own
  pub image : ImageData
  pub known : table.get s.images t.file ≡ Some image
  pub is : t ≡ target_of (Some own.ecu) image
  pub hardware : IsTrue (is_for own.hardware image)
  pub release : own.release ≤ image.release

-- And whatever bytes it is served, it is to install only images that are registered, as they are registered, for the hardware of its
-- ECUs: if of the Image repository's root and Targets keys fewer are stolen than have to sign, and nothing was forged under the others,
-- even if all of the Director's are stolen.
abbrev pub OnlyRegisteredIsInstalled : Type 0
OnlyRegisteredIsInstalled = (v : Verifier) (ts : List Timed) (stolen : List ℕ → Bool) (now : ℕ) (p : Primary) (served : Served) (result : Accepted) → IsScheme v.rules
    → AreGiven ts → KeysAgree v.rules (roots_of v.rules empty_state ts) → AreUnforged v.rules ts stolen served.image_roots served.image.targets
    → FollowsRoot v.rules (roots_of v.rules empty_state ts) Image p.image
    → AreSafeFrom v.rules (roots_of v.rules empty_state ts) Image stolen p.image.root.version
    → verify v now p served ≡ Ok result
    → All (IsRegistered (run v.rules empty_state ts) p.ecus) result.installs

-- The Image repository's Timestamp is that of a state on the way, which hasn't expired, and so is the version of all that is trusted. The
-- Snapshot that came has the hash of that state's.
pub record IsTimelyImage (v : Verifier) (ts : List Timed) (now : ℕ) (served : Served) (result : Accepted) : Type 0 where
  pub earlier : List Timed
  pub later : List Timed
  pub split : ts ≡ earlier ++ later
  pub founded : IsTrue (is_founded (run v.rules empty_state earlier))
  pub fresh : now < (run v.rules empty_state earlier).stamp + (lifetimes Image).timestamp
  pub timestamp : result.next.image.versions.timestamp ≡ (run v.rules empty_state earlier).image_version
  pub snapshot : result.next.image.versions.snapshot ≡ (run v.rules empty_state earlier).image_version
  pub hash : sha256 served.image.snapshot ≡ sha256 (snapshot_text v.rules (image_metadata (run v.rules empty_state earlier)))

-- Where this is true of the Image repository's Timestamp and its keys too, nothing is to be installed, or what it served was made less than
-- a day ago: nobody can hold its files back for longer.
abbrev pub ImagesAreFresh : Type 0
ImagesAreFresh = (v : Verifier) (ts : List Timed) (stolen : List ℕ → Bool) (now : ℕ) (p : Primary) (served : Served) (result : Accepted) → IsScheme v.rules
    → AreGiven ts → KeysAgree v.rules (roots_of v.rules empty_state ts) → AreUnforged v.rules ts stolen served.image_roots served.image.targets
    → IsUnforged v.rules ts stolen served.image.timestamp
    → FollowsRoot v.rules (roots_of v.rules empty_state ts) Image p.image
    → AreSafeFrom v.rules (roots_of v.rules empty_state ts) Image stolen p.image.root.version
    → AreSafeTimestamps v.rules (roots_of v.rules empty_state ts) Image stolen p.image.root.version
    → verify v now p served ≡ Ok result
    → (result.installs ≡ []) ⊎ IsTimelyImage v ts now served result

-- a Primary that trusts the machine's Roots trusts such Roots after what came, accepted or not
abbrev pub TrustStaysTrue : Type 0
TrustStaysTrue = (v : Verifier) (ts : List Timed) (stolen : List ℕ → Bool) (now : ℕ) (p : Primary) (served : Served) → IsScheme v.rules
    → AreGiven ts → KeysAgree v.rules (roots_of v.rules empty_state ts)
    → AreUnforged v.rules ts stolen served.director_roots served.reply.files.targets → AreUnforged v.rules ts stolen served.image_roots served.image.targets
    → FollowsRoot v.rules (roots_of v.rules empty_state ts) Director p.director → FollowsRoot v.rules (roots_of v.rules empty_state ts) Image p.image
    → AreSafeFrom v.rules (roots_of v.rules empty_state ts) Director stolen p.director.root.version → AreSafeFrom v.rules (roots_of v.rules empty_state ts) Image stolen p.image.root.version
    → FollowsRoot v.rules (roots_of v.rules empty_state ts) Director (after v p served (verify v now p served)).director
    × FollowsRoot v.rules (roots_of v.rules empty_state ts) Image (after v p served (verify v now p served)).image
