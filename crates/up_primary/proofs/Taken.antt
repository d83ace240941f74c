-- What the machine serves is accepted.
use Rattle.std.proofs.Common.{◌≡◌, ℕ, ◌+◌, ◌<◌, ◌≤◌, List, [], ◌∷◌, Bool, true, Option, Some, None, Ok, Err, map, refl, sym, ap, ◌∙◌, subst, arith}
use Rattle.std.specs.Prelude.{◌&&◌, ◌||◌, ◌==◌, length, bytes_eq, filter_map, option_map, nat_le, if◌then◌else◌}
use Rattle.std.specs.List.{AllByRecursion, list_any, cons_option}
use Rattle.std.specs.FinMap as table
use Rattle.std.specs.Cmp.Lexicographic.{pointwise}
use Rattle.std.specs.Option.{option_eq}
use Rattle.std.proofs.lemmas.Bool.{eq-eqb, lt-ltb}
use Rattle.std.proofs.lemmas.Bool.Decides.{nat_tests}
use Rattle.std.proofs.lemmas.List.Elements.{recursion_from_All}
use Rattle.up_canon.specs.Names.{Name}
use Rattle.up_canon.specs.Steps.{or_error, each}
use Rattle.up_canon.proofs.Printable.{both}
use Rattle.up_canon.proofs.Steps.{one_value}
use Rattle.up_sign.specs.Laws.{SealedFits, SealedIsAccepted}
use Rattle.up_sign.specs.Schemes.{Rules}
use Rattle.up_sign.proofs.Accepted.{bytes_eq-refl}
use Rattle.up_roles.specs.declared.repository.Repository.{Repository}
use Rattle.up_roles.specs.declared.repository.Repository.TheVariants.{Director, Image}
use Rattle.up_roles.specs.declared.targets.Target.{Target}
use Rattle.up_roles.specs.declared.targets.TargetsFile.{TargetsFile}
use Rattle.up_roles.specs.Laws.{RootsAreRead}
use Rattle.up_plan.specs.declared.assigned.Assigned.{Assigned}
use Rattle.up_plan.specs.Images.{ImageData}
use Rattle.up_metadata.specs.declared.keys.KeySet.{KeySet}
use Rattle.up_metadata.specs.declared.role_files.RoleTexts.{RoleTexts}
use Rattle.up_metadata.specs.Files.{Root, keys_of, root_file, targets_file, role_texts}
use Rattle.up_machine.specs.State.{Entry, Vehicle, State, nth, key_set, root_number, version}
use Rattle.up_machine.specs.Files.{image_metadata, target_of}
use Rattle.up_machine.specs.Replies.{assigned_target, reply_metadata}
use Rattle.up_machine.proofs.Keeping.{there as is_there}
use Rattle.up_machine.proofs.MadeRoots.{last_there}
use Rattle.up_machine.proofs.Values.{found_any}
use Rattle.up_laws.specs.Readings.{RepliesAreReadAgain}
use Rattle.up_verify.specs.declared.refused.Fault.TheVariants.{Expired}
use Rattle.up_verify.specs.declared.refused.Role.TheVariants.{Root as RootRole}
use Rattle.up_verify.specs.declared.refused.Refused.TheVariants.{UnnamedEcu}
use Rattle.up_verify.specs.declared.trust.Trust.{Trust}
use Rattle.up_verify.specs.declared.trust.Primary.{Primary}
use Rattle.up_verify.specs.declared.served.Served.{Served}
use Rattle.up_verify.specs.declared.served.Checked.{Checked}
use Rattle.up_verify.specs.declared.served.Accepted.{Accepted}
use Rattle.up_verify.specs.Verifiers.{Verifier}
use Rattle.up_verify.specs.declared.roots.Followed.{Followed}
use Rattle.up_verify.specs.Roots.{follow, unless_expired, latest}
use Rattle.up_verify.specs.Files.{of_file, check_files}
use Rattle.up_verify.specs.Verify.{check_reply, same_target, not_own, check_target_for, check_target, director_now, image_now, trusting, check_installs, verify}
use Rattle.up_primary.specs.Machine.{reply_for, roots_behind, served_in}
use Rattle.up_primary.specs.Following.{FollowsRoot, AreUpTo, Follows, Suits}
use Rattle.up_primary.specs.Laws.{ImageFilesAreReadAgain, RootsAreSmall, RepliesAreTaken}
use Rattle.up_primary.proofs.ManyRoots.{Reached, roots_reached, number_within}
use Rattle.up_primary.proofs.NextRoot.{Known, ReadRoles, read_roles}
use Rattle.up_primary.proofs.Serving.{repository_keys_fit, chain_size, sound_root, serves_roots}
use Rattle.up_primary.proofs.Lasting.{founded_with}
use Rattle.up_primary.proofs.Sets.{all_of, set_checked}
use Rattle.up_verify.proofs.Steps.{go_ok, pass}

-- ---- the latest Root

latest_is : (now : ℕ) (f : Followed) → f.fault ≡ None → now < f.trust.root.expires → latest now f ≡ Ok f.trust
latest_is now f whole fresh =
    ap (unless_expired now f.trust) whole ∙ ap (λ (b : Bool). if b then Ok f.trust else Err Expired) (lt-ltb now f.trust.root.expires fresh)

-- both repositories' Roots last a year
root_expires : (k : Rules) (repository : Repository) (n : ℕ) (root : Root) → (root_file k repository n root).expires ≡ root.at + 31_536_000
root_expires k Director n root = refl
root_expires k Image n root = refl

reached_is : (k : Rules) (roots : List Root) (repository : Repository) (t : Trust) (f : Followed) (root : Root) (now : ℕ) → Reached k roots repository t f → nth roots (length roots) ≡ Some root
    → now < root.at + 31_536_000 → latest now f ≡ Ok f.trust
reached_is k roots repository t f root now r there fresh =
    let same : r.last ≡ root = one_value _ _ _ r.there there in
    let expires : f.trust.root.expires ≡ root.at + 31_536_000 = ap (λ file. file.expires) r.is ∙ root_expires k repository (length roots) r.last ∙ ap (λ (root : Root). root.at + 31_536_000) same in
    latest_is now f r.whole (omega (arith, fresh, expires))

-- ---- each target

pub list_any-map : {A B : Type 0} (p : B → Bool) (f : A → B) (xs : List A) → list_any p (map f xs) ≡ list_any (λ x. p (f x)) xs
list_any-map p f [] = refl
list_any-map p f (x ∷ xs) = ap (λ b. p (f x) || b) (list_any-map p f xs)

same_hashes : (h : Option (List ℕ)) → option_eq bytes_eq h h ≡ true
same_hashes None = refl
same_hashes (Some x) = bytes_eq-refl x

same_names : (xs : List Name) → pointwise bytes_eq xs xs ≡ true
same_names [] = refl
same_names (x ∷ xs) = both _ _ (bytes_eq-refl x) (same_names xs)

same_image : (ecu : Name) (image : ImageData) → same_target (target_of (Some ecu) image) (target_of None image) ≡ true
same_image ecu image =
    both _ _ (both _ _ (both _ _ (both _ _ (both _ _ (bytes_eq-refl image.file) (eq-eqb image.length image.length refl)) (bytes_eq-refl image.sha256)) (same_hashes image.sha512))
    (same_names image.hardware)) (eq-eqb image.release image.release refl)

-- a target of a registered image is among those of the Image repository
abbrev pub Among : State → Target → Type 0
Among s t = list_any (same_target t) (map (target_of None) (table.values s.images)) ≡ true

among_images : (s : State) (ecu file : Name) (image : ImageData) → table.get s.images file ≡ Some image → Among s (target_of (Some ecu) image)
among_images s ecu file image there =
    list_any-map (same_target (target_of (Some ecu) image)) (target_of None) (table.values s.images)
    ∙ found_any (λ other. same_target (target_of (Some ecu) image) (target_of None other)) s.images file image there (same_image ecu image)

each_among : (s : State) (assigned : List Assigned) → AllByRecursion (Among s) (filter_map (assigned_target s) assigned)
each_among s [] = tt
each_among s (a ∷ assigned) = by_image (table.get s.images a.file) refl (each_among s assigned)
  where
    by_image : (o : Option ImageData) → table.get s.images a.file ≡ o → AllByRecursion (Among s) (filter_map (assigned_target s) assigned)
        → AllByRecursion (Among s) (cons_option (option_map (target_of (Some a.ecu)) o) (filter_map (assigned_target s) assigned))
    by_image None there rest = rest
    by_image (Some image) there rest = (among_images s a.ecu a.file image there, rest)

one_taken : (p : Primary) (images : List Target) (t : Target) → Suits p.ecus t → list_any (same_target t) images ≡ true → check_target p images t ≡ Ok t
unfolding check_target check_target_for
one_taken p images t suits among =
    let low = suits.release in
    let release : nat_le suits.own.release t.release ≡ true = grind (arith, nat_tests) in
    go_ok _ _ suits.name _ (ap (or_error UnnamedEcu) suits.named)
    (go_ok _ _ suits.own _ (ap (or_error (not_own p.replaced suits.name)) suits.there)
    (pass _ _ _ _ among
    (pass _ _ _ _ suits.hardware
    (pass _ _ _ _ release
    refl))))

all_taken : (p : Primary) (images ts : List Target) → AllByRecursion (Suits p.ecus) ts → AllByRecursion (λ t. list_any (same_target t) images ≡ true) ts → each (check_target p images) ts ≡ Ok ts
unfolding each
all_taken p images [] suit among = refl
all_taken p images (t ∷ ts) suit among =
    go_ok _ _ t _ (one_taken p images t suit.0 among.0)
    (go_ok _ _ ts _ (all_taken p images ts suit.1 among.1)
    refl)

-- ---- all that is installed

-- what is accepted of these targets, once both repositories are verified
abbrev result_of : Primary → TargetsFile → Trust → Trust → List Target → Accepted
result_of p targets director image [] = record { next = record p { director = director }; targets = targets; installs = [] }
result_of p targets director image (t ∷ ts) = record { next = record p { director = director; image = image }; targets = targets; installs = t ∷ ts }

installs_taken : (v : Verifier) (now : ℕ) (p : Primary) (served : Served) (director image : Trust) (checked : Checked) (targets : TargetsFile) (ts : List Target)
    → image_now v now p served ≡ Ok image → check_files v (record { repository = Image; vehicle = None; moment = now }) image served.image ≡ Ok checked
    → AllByRecursion (Suits p.ecus) ts → AllByRecursion (λ t. list_any (same_target t) checked.targets.targets ≡ true) ts
    → check_installs v now p served director targets ts ≡ Ok (result_of p targets director (trusting image checked) ts)
unfolding check_installs
installs_taken v now p served director image checked targets [] is_now is_checked suit among = refl
installs_taken v now p served director image checked targets (t ∷ ts) is_now is_checked suit among =
    go_ok _ _ image _ is_now
    (go_ok _ _ checked _ is_checked
    (go_ok _ _ (t ∷ ts) _ (all_taken p checked.targets.targets (t ∷ ts) suit among)
    refl))

-- ---- the reply

reply_taken : (v : Verifier) (now number : ℕ) (s : State) (vehicle : Name) (t : Trust) (e : Entry) (root : Root) (checked : Checked)
    → e.root ≡ t.root.version
    → check_files v (record { repository = Director; vehicle = Some vehicle; moment = now }) t (role_texts v.rules (reply_metadata s root.keys vehicle number e.at e.plan)) ≡ Ok checked
    → checked.versions ≡ all_of number
    → check_reply v now vehicle t (reply_for v.rules s vehicle number e root) ≡ Ok checked
unfolding check_reply
reply_taken v now number s vehicle t e root checked same is versions =
    let low : nat_le e.root t.root.version ≡ true = grind (arith, nat_tests) in
    let is_it = eq-eqb number number refl in
    pass _ _ _ _ (bytes_eq-refl vehicle)
    (pass _ _ _ _ low
    (pass _ _ _ _ (eq-eqb e.root t.root.version same)
    (go_ok _ _ checked _ is
    (pass _ _ _ _ (ap (λ vs. (vs.timestamp == number) && (vs.snapshot == number) && (vs.targets == number)) versions ∙ both _ _ (both _ _ is_it is_it) is_it)
    refl))))

-- ---- following

-- who reached the last Root trusts it
pub follows_reached : (k : Rules) (roots : List Root) (repository : Repository) (t : Trust) (f : Followed) (next : Trust) → Reached k roots repository t f → next.root ≡ f.trust.root → FollowsRoot k roots repository next
follows_reached k roots repository t f next r same =
    let whole : next.root ≡ root_file k repository (length roots) r.last = same ∙ r.is in
    let number : next.root.version ≡ length roots = ap (λ file. file.version) whole in
    record {
      root = r.last;
      there = ap (nth roots) number ∙ r.there;
      is = whole ∙ ap (λ n. root_file k repository n r.last) (sym number);
    }

pub all_up_to : (n m : ℕ) → n ≤ m → AreUpTo m (all_of n)
all_up_to n m h = record { timestamp = h; snapshot = h; targets = h }

-- what the Primary follows then
follows_result : (k : Rules) (s : State) (roots : List Root) (p : Primary) (targets : TargetsFile) (director image : Trust) (ts : List Target) (number : ℕ) → (f : Follows k s roots p)
    → FollowsRoot k roots Director director → FollowsRoot k roots Image image → AreUpTo (version f.owner.entries) director.versions → AreUpTo s.image_version image.versions
    → Follows k s roots (result_of p targets director image ts).next
follows_result k s roots p targets director image [] number f d i dv iv = record { director = d; image = f.image; owner = f.owner; known = f.known; director_versions = dv; image_versions = f.image_versions }
follows_result k s roots p targets director image (t ∷ ts) number f d i dv iv = record { director = d; image = i; owner = f.owner; known = f.known; director_versions = dv; image_versions = iv }

installs_are : (p : Primary) (targets : TargetsFile) (director image : Trust) (ts : List Target) → (result_of p targets director image ts).installs ≡ ts
installs_are p targets director image [] = refl
installs_are p targets director image (t ∷ ts) = refl

-- ---- all of it

pub taken : SealedFits → SealedIsAccepted → RootsAreRead → RepliesAreReadAgain → ImageFilesAreReadAgain → RootsAreSmall → RepliesAreTaken
unfolding verify
taken seals accepts roots_read replies_read images_read small v s roots now number e root p law sound typed own made agree f knows at last versions suit fresh =
    let known : Known v.rules = record { scheme = law; seals = seals; accepts = accepts; roots_read = roots_read } in
    let size : root_number s ≡ length roots = chain_size v.rules s roots Director made in
    let there : nth roots (length roots) ≡ Some root = ap (nth roots) (sym (last ∙ size)) ∙ at.under in
    let founded = founded_with v.rules s roots e.root root made at.under in
    let texts = is_there s.files founded in
    let files : RoleTexts = texts.0 in
    let is_root = sound_root v.rules s roots (length roots) root made there in
    let d = roots_reached v known s roots Director (serves_roots small v s roots Director law sound made agree knows) p.director p.director.root.version f.director.root f.director.there f.director.is in
    let i = roots_reached v known s roots Image (serves_roots small v s roots Image law sound made agree knows) p.image p.image.root.version f.image.root f.image.there f.image.is in
    let served = served_in s files p (reply_for v.rules s p.vehicle number e root) in
    let df = follow v Director p.director (roots_behind s Director p.director.root.version) in
    let if_ = follow v Image p.image (roots_behind s Image p.image.root.version) in
    let m = reply_metadata s root.keys p.vehicle number e.at e.plan in
    let n = image_metadata s in
    let director_is : director_now v now p served ≡ Ok df.trust = ap (of_file Director RootRole) (reached_is v.rules roots Director p.director df root now d there fresh.roots) in
    let image_is : image_now v now p served ≡ Ok if_.trust = ap (of_file Image RootRole) (reached_is v.rules roots Image p.image if_ root now i there fresh.roots) in
    let d_last : d.last ≡ root = one_value _ _ _ d.there there in
    let i_last : i.last ≡ root = one_value _ _ _ i.there there in
    let last_one = last_there v.rules s roots made founded in
    let held : root.keys ≡ key_set s = ap (λ (r : Root). r.keys) (one_value _ _ _ there last_one.1) ∙ last_one.2 in
    let day = fresh.image in
    let d_checked : check_files v (record { repository = Director; vehicle = Some p.vehicle; moment = now }) df.trust (role_texts v.rules m) ≡ Ok (record { versions = all_of number; targets = targets_file m }) =
    set_checked v known m now df.trust (replies_read v.rules s roots p.vehicle at.owner number e root law sound typed own made at.known at.there at.under) (record {
      number = length roots;
      root = root;
      keys = refl;
      trusted = d.is ∙ ap (root_file v.rules Director (length roots)) d_last;
      fits = repository_keys_fit v.rules Director root.keys is_root.keys;
      reads = read_roles v (keys_of Director root.keys) (knows Director (length roots) root there);
      versions = d.keeps number versions;
      targets = fresh.reply;
      snapshot = fresh.reply;
      timestamp = fresh.reply;
    }) in
    let i_checked : check_files v (record { repository = Image; vehicle = None; moment = now }) if_.trust (role_texts v.rules n) ≡ Ok (record { versions = all_of s.image_version; targets = targets_file n }) =
    set_checked v known n now if_.trust (images_read v.rules s law sound typed founded) (record {
      number = length roots;
      root = root;
      keys = held;
      trusted = i.is ∙ ap (root_file v.rules Image (length roots)) i_last;
      fits = repository_keys_fit v.rules Image (key_set s) (sound.repositories.founded founded).keys;
      reads = subst (λ (keys : KeySet). ReadRoles v (keys_of Image keys)) held (read_roles v (keys_of Image root.keys) (knows Image (length roots) root there));
      versions = i.keeps s.image_version f.image_versions;
      targets = omega (arith, day);
      snapshot = omega (arith, day);
      timestamp = fresh.image;
    }) in
    let number_is : e.root ≡ df.trust.root.version = last ∙ size ∙ sym (ap (λ file. file.version) d.is) in
    let d_checked_is : Checked = record { versions = all_of number; targets = targets_file m } in
    let i_checked_is : Checked = record { versions = all_of s.image_version; targets = targets_file n } in
    let director = trusting df.trust d_checked_is in
    let image = trusting if_.trust i_checked_is in
    let owner : at.owner ≡ f.owner = one_value _ _ _ at.known f.known in
    let within = number_within at.owner.entries number e at.there in
    let high : number ≤ version f.owner.entries = subst (λ (w : Vehicle). number ≤ version w.entries) owner within in
    record {
      files = files;
      served = texts.1;
      result = result_of p (targets_file m) director image m.targets;
      is =
          go_ok _ _ df.trust _ director_is
          (go_ok _ _ d_checked_is _ (reply_taken v now number s p.vehicle df.trust e root d_checked_is number_is d_checked refl)
          (installs_taken v now p served director if_.trust i_checked_is (targets_file m) m.targets image_is (ap (check_files v (record { repository = Image; vehicle = None; moment = now }) if_.trust) (made.files files texts.1) ∙ i_checked) (recursion_from_All (Suits p.ecus) m.targets suit) (each_among s e.plan.assigned)));
      installs = installs_are p (targets_file m) director image m.targets;
      follows = follows_result v.rules s roots p (targets_file m) director image m.targets number f (follows_reached v.rules roots Director p.director df director d refl) (follows_reached v.rules roots Image p.image if_ image i refl)
          (all_up_to number (version f.owner.entries) high) (all_up_to s.image_version s.image_version (omega arith));
    }
