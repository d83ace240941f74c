-- The files of the Image repository by their names, and what of a state they are made of.
use Rattle.std.proofs.Common.{◌≡◌, ℕ, ◌+◌, ◌<◌, List, [], ◌∷◌, ◌++◌, Bool, true, false, cond, Option, Some, None, length, map, get_or, inl, inr, Ok, refl, sym, ap, ◌∙◌, subst, arith, length-append}
use Rattle.std.specs.Prelude.{◌⊎◌, bytes_eq, find, option_map, option_to_list, codes, decimal}
use Rattle.std.specs.List.{AllByRecursion, enumerate_from}
use Rattle.std.specs.Cmp.Lexicographic.{bytes_decides}
use Rattle.up_canon.specs.Names.{Name}
use Rattle.up_sign.specs.Schemes.{Rules}
use Rattle.up_roles.specs.declared.repository.Repository.TheVariants.{Image}
use Rattle.up_metadata.specs.declared.role_files.RoleTexts.{RoleTexts}
use Rattle.up_metadata.specs.Files.{MetadataSet}
use Rattle.up_machine.specs.declared.command.Command.{Command}
use Rattle.up_machine.specs.declared.command.Command.TheVariants.{Found, Rotate, AddImage, Refresh, AddVehicle, ReplaceEcu, OpenCampaign, CloseCampaign, Deliver, Fetch}
use Rattle.up_machine.specs.Deciding.{Outcome, already}
use Rattle.up_machine.specs.Files.{File, file, files, image_metadata, numbered_root_name, numbered_roots, latest_root, texts_in}
use Rattle.up_machine.specs.Machine.{Timed, decide, step, run}
use Rattle.up_machine.specs.State.{State, is_founded, last_text}
use Rattle.up_machine.proofs.Decided.{found_ok, rotate_ok, image_ok, refresh_ok, vehicle_ok, replace_ok, open_ok, close_ok, delivery_ok, fetch_ok}
use Rattle.up_machine.proofs.Growing.{by_decision}

-- ---- no Root file has such a name

abbrev suffix : List ℕ
suffix = codes ".root.json"

not_targets : (xs : List ℕ) → xs ++ suffix ≡ codes "targets.json" → ⊥
not_targets [] h = let differ : 46 ≡ 116 = ap (λ l. get_or l 0 0) h in omega (arith, differ)
not_targets (a ∷ []) h = let differ : 46 ≡ 97 = ap (λ l. get_or l 1 0) h in omega (arith, differ)
not_targets (a ∷ b ∷ []) h = let differ : 46 ≡ 114 = ap (λ l. get_or l 2 0) h in omega (arith, differ)
not_targets (a ∷ b ∷ c ∷ xs) h = let same = ap length h in let size = length-append xs suffix in omega (arith, same, size)

not_snapshot : (xs : List ℕ) → xs ++ suffix ≡ codes "snapshot.json" → ⊥
not_snapshot [] h = let differ : 46 ≡ 115 = ap (λ l. get_or l 0 0) h in omega (arith, differ)
not_snapshot (a ∷ []) h = let differ : 46 ≡ 110 = ap (λ l. get_or l 1 0) h in omega (arith, differ)
not_snapshot (a ∷ b ∷ []) h = let differ : 46 ≡ 97 = ap (λ l. get_or l 2 0) h in omega (arith, differ)
not_snapshot (a ∷ b ∷ c ∷ []) h = let differ : 46 ≡ 112 = ap (λ l. get_or l 3 0) h in omega (arith, differ)
not_snapshot (a ∷ b ∷ c ∷ d ∷ xs) h = let same = ap length h in let size = length-append xs suffix in omega (arith, same, size)

not_timestamp : (xs : List ℕ) → xs ++ suffix ≡ codes "timestamp.json" → ⊥
not_timestamp [] h = let differ : 46 ≡ 116 = ap (λ l. get_or l 0 0) h in omega (arith, differ)
not_timestamp (a ∷ []) h = let differ : 46 ≡ 105 = ap (λ l. get_or l 1 0) h in omega (arith, differ)
not_timestamp (a ∷ b ∷ []) h = let differ : 46 ≡ 109 = ap (λ l. get_or l 2 0) h in omega (arith, differ)
not_timestamp (a ∷ b ∷ c ∷ []) h = let differ : 46 ≡ 101 = ap (λ l. get_or l 3 0) h in omega (arith, differ)
not_timestamp (a ∷ b ∷ c ∷ d ∷ []) h = let differ : 46 ≡ 115 = ap (λ l. get_or l 4 0) h in omega (arith, differ)
not_timestamp (a ∷ b ∷ c ∷ d ∷ e ∷ xs) h = let same = ap length h in let size = length-append xs suffix in omega (arith, same, size)

not_same : (a b : Name) → (a ≡ b → ⊥) → bytes_eq a b ≡ false
not_same a b apart = by_test (bytes_eq a b) refl
  where
    by_test : (t : Bool) → bytes_eq a b ≡ t → t ≡ false
    by_test true h = absurd (apart ((bytes_decides a b).0 h))
    by_test false h = refl

-- ---- among all files

abbrev at_name : Name → File → Bool
at_name name f = bytes_eq f.0 name

skipped : (p : File → Bool) (xs ys : List File) → AllByRecursion (λ f. p f ≡ false) xs → find p (xs ++ ys) ≡ find p ys
skipped p [] ys h = refl
skipped p (x ∷ xs) ys h = ap (λ (b : Bool). cond b (Some x) (find p (xs ++ ys))) h.0 ∙ skipped p xs ys h.1

no_numbered : (name : Name) (n : ℕ) (texts : List (List ℕ)) → ((i : ℕ) → bytes_eq (numbered_root_name i) name ≡ false)
    → AllByRecursion (λ f. at_name name f ≡ false) (map (λ (r : ℕ × List ℕ). (numbered_root_name r.0, r.1)) (enumerate_from n texts))
no_numbered name n [] apart = tt
no_numbered name n (text ∷ texts) apart = (apart n, no_numbered name (n + 1) texts apart)

no_latest : (name : Name) (o : Option (List ℕ)) → bytes_eq (codes "root.json") name ≡ false → AllByRecursion (λ f. at_name name f ≡ false) (option_to_list (option_map (λ text. (codes "root.json", text)) o))
no_latest name None apart = tt
no_latest name (Some text) apart = (apart, tt)

pub each_of_both : {A : Type 0} (P : A → Type 0) (xs ys : List A) → AllByRecursion P xs → AllByRecursion P ys → AllByRecursion P (xs ++ ys)
each_of_both P [] ys a b = b
each_of_both P (x ∷ xs) ys a b = (a.0, each_of_both P xs ys a.1 b)

among_texts : (s : State) (name : Name) → bytes_eq (codes "root.json") name ≡ false → ((i : ℕ) → bytes_eq (numbered_root_name i) name ≡ false)
    → find (at_name name) (files s Image) ≡ find (at_name name) (texts_in s.files)
unfolding files
among_texts s name latest numbered = skipped (at_name name) (latest_root s.image.texts ++ numbered_roots s.image.texts) (texts_in s.files)
    (each_of_both (λ f. at_name name f ≡ false) (latest_root s.image.texts) (numbered_roots s.image.texts) (no_latest name (last_text s.image.texts) latest) (no_numbered name 1 s.image.texts numbered))

-- the three texts, by their names
pub targets_at : (s : State) (texts : RoleTexts) → s.files ≡ Some texts → file s Image (codes "targets.json") ≡ Some texts.targets
targets_at s texts there =
    ap (option_map (λ (f : File). f.1)) (among_texts s (codes "targets.json") refl (λ i. not_same _ _ (not_targets (decimal i)))
    ∙ ap (λ (o : Option RoleTexts). find (at_name (codes "targets.json")) (texts_in o)) there)

pub snapshot_at : (s : State) (texts : RoleTexts) → s.files ≡ Some texts → file s Image (codes "snapshot.json") ≡ Some texts.snapshot
snapshot_at s texts there =
    ap (option_map (λ (f : File). f.1)) (among_texts s (codes "snapshot.json") refl (λ i. not_same _ _ (not_snapshot (decimal i)))
    ∙ ap (λ (o : Option RoleTexts). find (at_name (codes "snapshot.json")) (texts_in o)) there)

pub timestamp_at : (s : State) (texts : RoleTexts) → s.files ≡ Some texts → file s Image (codes "timestamp.json") ≡ Some texts.timestamp
timestamp_at s texts there =
    ap (option_map (λ (f : File). f.1)) (among_texts s (codes "timestamp.json") refl (λ i. not_same _ _ (not_timestamp (decimal i)))
    ∙ ap (λ (o : Option RoleTexts). find (at_name (codes "timestamp.json")) (texts_in o)) there)

-- ---- what they are made of

-- the Image repository's files are made of the same, or their version is greater
abbrev pub Moves : State → State → Type 0
Moves s t = (image_metadata s ≡ image_metadata t) ⊎ (s.image_version < t.image_version)

same_version : (s t : State) → image_metadata s ≡ image_metadata t → s.image_version ≡ t.image_version
same_version s t h = ap (λ (m : MetadataSet). m.version) h

moved : (s t u : State) → Moves s t → Moves t u → Moves s u
moved s t u (inl a) (inl b) = inl (a ∙ b)
moved s t u (inl a) (inr more) = let same = same_version s t a in inr (omega (arith, same, more))
moved s t u (inr more) (inl b) = let same = same_version t u b in inr (omega (arith, same, more))
moved s t u (inr more) (inr further) = inr (omega (arith, more, further))

-- and there are files still
abbrev Comes : State → State → Type 0
Comes s t = Moves s t × (is_founded t ≡ true)

idle : (s : State) (o : Outcome) → is_founded s ≡ true → already s ≡ o → Comes s o.next
idle s o founded h = subst (λ (o : Outcome). Comes s o.next) h (inl refl, founded)

move_outcome : (k : Rules) (s : State) (at : ℕ) (c : Command) (o : Outcome) → is_founded s ≡ true → decide k s at c ≡ Ok o → Comes s o.next
move_outcome k s at (Found keys) o founded h =
    let none = (found_ok k s at keys o h).none in
    absurd (let never : false ≡ true = sym none ∙ founded in cc)
move_outcome k s at (Rotate keys) o founded h = subst (λ (o : Outcome). Comes s o.next) (rotate_ok k s at keys o h).is (inr (omega arith), refl)
move_outcome k s at (AddImage image) o founded h = elim (image_ok k s at image o h) [
  | inl it ↦ idle s o founded it
  | inr new ↦ subst (λ (o : Outcome). Comes s o.next) new.is (inr (omega arith), refl)
]
move_outcome k s at (Refresh version) o founded h =
    let is = refresh_ok k s at version o h in
    subst (λ (o : Outcome). Comes s o.next) is.is (inr is.above, refl)
move_outcome k s at (AddVehicle new) o founded h = elim (vehicle_ok k s at new o h) [
  | inl it ↦ idle s o founded it
  | inr is ↦ subst (λ (o : Outcome). Comes s o.next) is.is (inl refl, founded)
]
move_outcome k s at (ReplaceEcu r) o founded h = subst (λ (o : Outcome). Comes s o.next) (replace_ok k s at r o h).is (inl refl, founded)
move_outcome k s at (OpenCampaign campaign) o founded h = elim (open_ok s at campaign o h) [
  | inl it ↦ idle s o founded it
  | inr is ↦ subst (λ (o : Outcome). Comes s o.next) is.is (inl refl, founded)
]
move_outcome k s at (CloseCampaign name) o founded h = elim (close_ok s at name o h) [
  | inl it ↦ idle s o founded it
  | inr is ↦ subst (λ (o : Outcome). Comes s o.next) is.is (inl refl, founded)
]
move_outcome k s at (Deliver body) o founded h = subst (λ (o : Outcome). Comes s o.next) (delivery_ok k s at body o h).is (inl refl, founded)
move_outcome k s at (Fetch repository name) o founded h = subst (λ (o : Outcome). Comes s o.next) (fetch_ok s at repository name o h).2 (inl refl, founded)

move : (k : Rules) (s : State) (at : ℕ) (c : Command) → is_founded s ≡ true → Comes s (step k s at c).next
unfolding step
move k s at c founded = by_decision s (decide k s at c) (Comes s) (inl refl, founded) (λ o h. move_outcome k s at c o founded h)

pub moves : (k : Rules) (s : State) (ts : List Timed) → is_founded s ≡ true → Moves s (run k s ts) × (is_founded (run k s ts) ≡ true)
moves k s [] founded = (inl refl, founded)
moves k s (t ∷ ts) founded =
    let next = (step k s t.at t.command).next in
    let one = move k s t.at t.command founded in
    let rest = moves k next ts one.1 in
    (moved s next (run k next ts) one.0 rest.0, rest.1)
