-- Refusals: what a call answers in place of a value, and what is promised where memory may be refused.
use Rattle.std.specs.Prelude.{◌≡◌, ◌++◌, ℕ, List, [], ◌∷◌, Bool, true, false, Option, Some, None, codes, decimal, Result, Ok, Err, MatchBool, ⊤}
use Rattle.serde_json.specs.Data.{Data}
use Rattle.up_canon.specs.Canon.{canon}
use Rattle.up_canon.specs.Steps.{or_error}
use Rattle.up_canon.specs.declared.refusal.Refusal.{Refusal}
use Rattle.up_canon.specs.declared.refusal.Refusal.TheVariants.{Memory, Store, MomentOutOfRange, TooLarge, NotJson, NotCanonical, BadShape, NotFounded, AlreadyFounded, UnknownVehicle, WrongPrimary, BadManifestSignature, Stale, UnknownEcu, DuplicateEcu, MissingEcu, BadReportSignature, ReportReplayed, ImageTaken, RegisterFull, VersionLimit, VehicleTaken, EcuTaken, CampaignTaken, UnknownCampaign, UnknownImage, WrongHardware, VersionNotGreater, UnknownFile, RootFull, PrimaryFixed}

-- the refusal that no definition computes, since no definition knows how much memory there is
abbrev pub is_memory : Refusal → Bool
is_memory Memory = true
is_memory _ = false

-- What a call answers is what is computed, unless memory was refused.
abbrev pub Gives : {A : Type 0} → Result A Refusal → Result A Refusal → Type 0
Gives (Ok x) computed = computed ≡ Ok x
Gives (Err r) computed = MatchBool (is_memory r) ⊤ (computed ≡ Err r)

-- The same of an answer that stands for what is computed.
abbrev pub GivesAs : {R A : Type 0} → (R → A) → Result R Refusal → Result A Refusal → Type 0
GivesAs shown (Ok x) computed = computed ≡ Ok (shown x)
GivesAs shown (Err r) computed = MatchBool (is_memory r) ⊤ (computed ≡ Err r)

-- the canonical text of a value, or the refusal where it has none
unfoldable pub canonical_text : Data → Result (List ℕ) Refusal
canonical_text d = or_error NotCanonical (canon d)

-- ---- the table of refusals

-- a refusal's number, its name and, where it has one, the text of its value
pub record Row : Type 0 where
  pub number : ℕ
  pub name : List ℕ
  pub value : Option (List ℕ)

-- a refusal without a value
abbrev bare : ℕ → List ℕ → Row
bare number name = record { number = number; name = name; value = None }

-- a refusal with a value
abbrev valued : ℕ → List ℕ → List ℕ → Row
valued number name value = record { number = number; name = name; value = Some value }

-- the table: each refusal's row
abbrev pub row : Refusal → Row
row Memory = bare 1 (codes "Memory")
row Store = bare 2 (codes "Store")
row MomentOutOfRange = bare 3 (codes "MomentOutOfRange")
row TooLarge = bare 4 (codes "TooLarge")
row NotJson = bare 5 (codes "NotJson")
row NotCanonical = bare 6 (codes "NotCanonical")
row (BadShape field) = valued 7 (codes "BadShape") field
row NotFounded = bare 8 (codes "NotFounded")
row AlreadyFounded = bare 9 (codes "AlreadyFounded")
row UnknownVehicle = bare 10 (codes "UnknownVehicle")
row WrongPrimary = bare 11 (codes "WrongPrimary")
row BadManifestSignature = bare 12 (codes "BadManifestSignature")
row (Stale last) = valued 13 (codes "Stale") (decimal last)
row (UnknownEcu ecu) = valued 14 (codes "UnknownEcu") ecu
row (DuplicateEcu ecu) = valued 15 (codes "DuplicateEcu") ecu
row (MissingEcu ecu) = valued 16 (codes "MissingEcu") ecu
row (BadReportSignature ecu) = valued 17 (codes "BadReportSignature") ecu
row (ReportReplayed ecu) = valued 18 (codes "ReportReplayed") ecu
row ImageTaken = bare 19 (codes "ImageTaken")
row RegisterFull = bare 20 (codes "RegisterFull")
row VersionLimit = bare 21 (codes "VersionLimit")
row VehicleTaken = bare 22 (codes "VehicleTaken")
row (EcuTaken ecu) = valued 23 (codes "EcuTaken") ecu
row CampaignTaken = bare 24 (codes "CampaignTaken")
row UnknownCampaign = bare 25 (codes "UnknownCampaign")
row UnknownImage = bare 26 (codes "UnknownImage")
row WrongHardware = bare 27 (codes "WrongHardware")
row VersionNotGreater = bare 28 (codes "VersionNotGreater")
row UnknownFile = bare 29 (codes "UnknownFile")
row RootFull = bare 30 (codes "RootFull")
row PrimaryFixed = bare 31 (codes "PrimaryFixed")

-- a space and the value, where there is one
abbrev then_value : Option (List ℕ) → List ℕ
then_value None = []
then_value (Some value) = 32 ∷ value

-- the name and, behind a space, the value
abbrev pub refusal_text : Refusal → List ℕ
refusal_text r = (row r).name ++ then_value (row r).value

-- Refusals of one number are of one name.
abbrev pub NumbersAreApart : Type 0
NumbersAreApart = (r s : Refusal) → (row r).number ≡ (row s).number → (row r).name ≡ (row s).name
