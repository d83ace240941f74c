-- Whatever bytes come, only registered images are installed; and Roots that are trusted stay the machine's.
use Rattle.std.proofs.Common.{◌≡◌, ℕ, ◌≤◌, List, [], ◌∷◌, true, Option, Some, None, Ok, inl, inr, map, refl, sym, ap, ◌∙◌, subst, arith}
use Rattle.std.specs.Prelude.{◌==◌, bytes_eq}
use Rattle.std.specs.List.{AllByRecursion, Contains, list_any}
use Rattle.std.specs.FinMap as table
use Rattle.std.specs.Cmp.Lexicographic.{pointwise, bytes_decides}
use Rattle.std.specs.Option.{option_eq}
use Rattle.std.proofs.lemmas.Bool.{and_parts, eqb-true, leb-true}
use Rattle.std.proofs.lemmas.List.Elements.{All-contains_itself, All-from_recursion, recursion_from_All}
use Rattle.std.proofs.lemmas.Slice.Eq.{slice_eq-Decides, bytes_eq-Decides}
use Rattle.up_canon.specs.Names.{Name}
use Rattle.up_canon.specs.Steps.{each}
use Rattle.up_canon.proofs.Steps.{first_ok, same_ok, or_error_ok, unless_ok}
use Rattle.up_sign.specs.Schemes.{Rules}
use Rattle.up_roles.specs.declared.repository.Repository.TheVariants.{Director, Image}
use Rattle.up_roles.specs.declared.root.RootFile.{RootFile}
use Rattle.up_roles.specs.declared.targets.Target.{Target}
use Rattle.up_roles.specs.declared.targets.TargetsFile.{TargetsFile}
use Rattle.up_roles.specs.Meaning.{MeansTargets}
use Rattle.up_roles.specs.Targets.{targets_in}
use Rattle.up_plan.specs.Images.{ImageData}
use Rattle.up_metadata.specs.Files.{root_file}
use Rattle.up_machine.specs.State.{State, empty_state}
use Rattle.up_machine.specs.Files.{target_of}
use Rattle.up_machine.specs.Laws.{IsLater}
use Rattle.up_machine.specs.Machine.{run}
use Rattle.up_machine.specs.Made.{roots_of}
use Rattle.up_machine.specs.Sound.{IsSound}
use Rattle.up_machine.proofs.Installing.{found_is}
use Rattle.up_machine.proofs.Lists.{found_passes}
use Rattle.up_machine.proofs.Values.{any_found}
use Rattle.up_verify.specs.declared.refused.Refused.TheVariants.{UnnamedEcu}
use Rattle.up_verify.specs.declared.trust.OwnEcu.{OwnEcu}
use Rattle.up_verify.specs.declared.trust.Trust.{Trust}
use Rattle.up_verify.specs.declared.trust.Primary.{Primary}
use Rattle.up_verify.specs.Verifiers.{is_signed_for}
use Rattle.up_verify.specs.Roots.{follow, latest}
use Rattle.up_verify.specs.Verify.{same_target, own_ecu, not_own, check_target_for, check_target}
use Rattle.up_primary.specs.Following.{FollowsRoot}
use Rattle.up_primary.specs.Laws.{IsRegistered, OnlyRegisteredIsInstalled}
use Rattle.up_primary.proofs.Heard.{accepted_parts}
use Rattle.up_primary.proofs.Honest.{of_targets, machine_signed}
use Rattle.up_primary.proofs.Meant.{enveloped}
use Rattle.up_primary.proofs.Runs.{Keeping, on_the_way}
use Rattle.up_primary.proofs.SignedTexts.{Formats, targets_from}
use Rattle.up_primary.proofs.Taken.{list_any-map}
use Rattle.up_primary.proofs.TrueRoots.{of_file_ok, latest_ok, Safe, true_roots}

-- ---- one target

-- what a target that was accepted has passed
record Passed (ecus : List OwnEcu) (images : List Target) (t : Target) : Type 0 where
  pub name : Name
  pub named : t.ecu ≡ Some name
  pub own : OwnEcu
  pub there : own_ecu ecus name ≡ Some own
  pub among : list_any (same_target t) images ≡ true
  pub hardware : list_any (bytes_eq own.hardware) t.hardware ≡ true
  pub release : own.release ≤ t.release

target_parts : (p : Primary) (images : List Target) (t u : Target) → check_target p images t ≡ Ok u → Passed p.ecus images u
unfolding check_target check_target_for
target_parts p images t u h = first_ok _ _ _ _ h (λ name named h. first_ok _ _ _ _ h (λ own there h. first_ok _ _ _ _ h (λ a among h. first_ok _ _ _ _ h (λ b hardware h. first_ok _ _ _ _ h (λ c release h.
    subst (λ (t : Target). Passed p.ecus images t) (same_ok _ _ h) (record {
      name = name;
      named = or_error_ok UnnamedEcu t.ecu name named;
      own = own;
      there = or_error_ok (not_own p.replaced name) (own_ecu p.ecus name) own there;
      among = unless_ok _ _ a among;
      hardware = unless_ok _ _ b hardware;
      release = leb-true _ _ (unless_ok _ _ c release);
    }))))))

each_parts : (p : Primary) (images ts us : List Target) → each (check_target p images) ts ≡ Ok us → AllByRecursion (Passed p.ecus images) us
unfolding each
each_parts p images [] us h = subst (λ (us : List Target). AllByRecursion (Passed p.ecus images) us) (same_ok _ _ h) tt
each_parts p images (t ∷ ts) us h = first_ok _ _ _ _ h (λ u is h. first_ok _ _ _ _ h (λ rest more h.
    subst (λ (us : List Target). AllByRecursion (Passed p.ecus images) us) (same_ok _ _ h) (target_parts p images t u is, each_parts p images ts rest more)))

-- ---- the image that it is

same_hashes : (a b : Option (List ℕ)) → option_eq bytes_eq a b ≡ true → a ≡ b
same_hashes None None h = refl
same_hashes (Some a) (Some b) h = ap Some ((bytes_decides a b).0 h)
same_hashes None (Some b) h = cc
same_hashes (Some a) None h = cc

same_names : (xs ys : List Name) → pointwise bytes_eq xs ys ≡ true → xs ≡ ys
same_names xs ys h = (slice_eq-Decides bytes_eq-Decides xs ys (pointwise bytes_eq xs ys) refl).0 h

-- the same image, for this ECU
image_is : (t : Target) (name : Name) (image : ImageData) → t.ecu ≡ Some name → same_target t (target_of None image) ≡ true → (t ≡ target_of (Some name) image) × (t.file ≡ image.file)
image_is t name image named h =
    let release = and_parts _ _ h in
    let hardware = and_parts _ _ release.0 in
    let second = and_parts _ _ hardware.0 in
    let hash = and_parts _ _ second.0 in
    let file = and_parts (bytes_eq t.file image.file) (t.length == image.length) hash.0 in
    let is_file : t.file ≡ image.file = (bytes_decides t.file image.file).0 file.0 in
    let is_length : t.length ≡ image.length = eqb-true t.length image.length file.1 in
    let is_hash : t.sha256 ≡ image.sha256 = (bytes_decides t.sha256 image.sha256).0 hash.1 in
    let is_second : t.sha512 ≡ image.sha512 = same_hashes t.sha512 image.sha512 second.1 in
    let is_hardware : t.hardware ≡ image.hardware = same_names t.hardware image.hardware hardware.1 in
    let is_release : t.release ≡ image.release = eqb-true t.release image.release release.1 in
    (made t.ecu (Some name) t.file image.file t.length image.length t.sha256 image.sha256 t.sha512 image.sha512 t.hardware image.hardware t.release image.release named is_file is_length is_hash is_second is_hardware is_release, is_file)
  where
    made : (e e2 : Option Name) (f f2 : Name) (l l2 : ℕ) (s s2 : List ℕ) (d d2 : Option (List ℕ)) (h h2 : List Name) (r r2 : ℕ) → e ≡ e2 → f ≡ f2 → l ≡ l2 → s ≡ s2 → d ≡ d2 → h ≡ h2 → r ≡ r2
        → ◌≡◌ {A = Target} (record { ecu = e; file = f; length = l; sha256 = s; sha512 = d; hardware = h; release = r }) (record { ecu = e2; file = f2; length = l2; sha256 = s2; sha512 = d2; hardware = h2; release = r2 })
    made e e2 f f2 l l2 s s2 d d2 h h2 r r2 a b c g i j m = cc

found_own : (ecus : List OwnEcu) (name : Name) (own : OwnEcu) → own_ecu ecus name ≡ Some own → Contains ecus own × (own.ecu ≡ name)
found_own ecus name own h = (
  found_is (Contains ecus) (λ (e : OwnEcu). bytes_eq e.ecu name) ecus own (recursion_from_All (Contains ecus) ecus (All-contains_itself ecus)) h,
  (bytes_decides own.ecu name).0 (found_passes (λ (e : OwnEcu). bytes_eq e.ecu name) ecus own h),
)

one_registered : (k : Rules) (s later : State) (ecus : List OwnEcu) (t : Target) → IsSound k s → IsLater s later → Passed ecus (map (target_of None) (table.values s.images)) t → IsRegistered later ecus t
one_registered k s later ecus t sound is passed =
    let found = any_found (λ image. same_target t (target_of None image)) s.images (sym (list_any-map (same_target t) (target_of None) (table.values s.images)) ∙ passed.among) in
    let image = found.1 in
    let at : table.get s.images image.file ≡ Some image = ap (table.get s.images) (sound.repositories.each_image found.0 image found.2).named ∙ found.2 in
    let same = image_is t passed.name image passed.named found.3 in
    let own = found_own ecus passed.name passed.own passed.there in
    let known : table.get later.images t.file ≡ Some image = ap (table.get later.images) same.1 ∙ is.images image.file image at in
    let whole : t ≡ target_of (Some passed.own.ecu) image = same.0 ∙ ap (λ (n : Name). target_of (Some n) image) (sym own.1) in
    let low = passed.release in
    let release = ap (λ (u : Target). u.release) whole in
    record {
      own = passed.own;
      present = own.0;
      image = image;
      known = known;
      is = whole;
      hardware = ap (λ (u : Target). list_any (bytes_eq passed.own.hardware) u.hardware) (sym whole) ∙ passed.hardware;
      release = omega (arith, low, release);
    }

all_registered : (k : Rules) (s later : State) (ecus : List OwnEcu) (ts : List Target) → IsSound k s → IsLater s later → AllByRecursion (Passed ecus (map (target_of None) (table.values s.images))) ts → AllByRecursion (IsRegistered later ecus) ts
all_registered k s later ecus [] sound is passed = tt
all_registered k s later ecus (t ∷ ts) sound is passed = (one_registered k s later ecus t sound is passed.0, all_registered k s later ecus ts sound is passed.1)

-- ---- all that is installed

pub registered : Formats → Keeping → OnlyRegisteredIsInstalled
registered formats keeping v ts stolen now p served result law given agree unforged follows safe h =
    let s = run v.rules empty_state ts in
    let parts = accepted_parts v now p served result h in
    elim parts.installed [
      | inl none ↦ All-from_recursion (IsRegistered s p.ecus) result.installs (subst (λ (us : List Target). AllByRecursion (IsRegistered s p.ecus) us) (sym none) tt)
      | inr is ↦
          let roots = roots_of v.rules empty_state ts in
          let all : Safe v ts Image stolen p.image.root.version = record { formats = formats; keeping = keeping; scheme = law; given = given; agree = agree; safe = safe } in
          let newer = served.image_roots in
          let reached = true_roots v ts Image stolen p.image.root.version all newer p.image unforged.each_root (omega arith) follows in
          let same : (follow v Image p.image newer).trust ≡ is.image = latest_ok now (follow v Image p.image newer) is.image (of_file_ok Image _ (latest now (follow v Image p.image newer)) is.image is.latest) in
          let f : FollowsRoot v.rules roots Image is.image = subst (λ (t : Trust). FollowsRoot v.rules roots Image t) same reached.0 in
          let from : p.image.root.version ≤ is.image.root.version = subst (λ (t : Trust). p.image.root.version ≤ t.root.version) same reached.1 in
          let root = root_file v.rules Image is.image.root.version f.root in
          let signed : is_signed_for v root.targets is.checked.envelope ≡ true = ap (λ (r : RootFile). is_signed_for v r.targets is.checked.envelope) (sym f.is) ∙ is.checked.signed in
          let was = machine_signed v ts stolen served.image.targets unforged.of_targets Image is.image.root.version f.root f.there root.targets (of_targets root) (safe is.image.root.version f.root from f.there).1 is.checked.envelope
          (enveloped MeansTargets targets_in formats.meaning.targets served.image.targets is.targets is.checked.envelope is.checked.read) signed in
          let way = on_the_way keeping v.rules ts was.0 was.1 law given agree was.2 in
          let earlier = run v.rules empty_state was.0 in
          elim (targets_from formats v.rules earlier (roots_of v.rules empty_state was.0) way.facts served.image.targets is.targets is.checked.envelope is.checked.read was.3) [
            | inl image ↦
                let listed : is.targets.targets ≡ map (target_of None) (table.values earlier.images) = ap (λ (file : TargetsFile). file.targets) image.is in
                let passed = each_parts p is.targets.targets result.targets.targets result.installs is.each_is in
                All-from_recursion (IsRegistered s p.ecus) result.installs
                (all_registered v.rules earlier s p.ecus result.installs way.facts.sound way.later (subst (λ (images : List Target). AllByRecursion (Passed p.ecus images) result.installs) listed passed))
            | inr reply ↦ absurd (apart (sym (ap (λ (file : TargetsFile). file.repository) reply.is) ∙ is.checked.repository))
          ]
    ]
  where
    apart : Director ≡ Image → ⊥
    apart h = cc
