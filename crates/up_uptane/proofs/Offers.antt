-- What a reply offers, the Image repository lists.
use Rattle.std.proofs.Common.{◌≡◌, ℕ, List, [], ◌∷◌, ◌++◌, true, Option, Some, None, refl, subst}
use Rattle.std.specs.Prelude.{map, filter_map, option_map}
use Rattle.std.specs.List.{AllByRecursion, Contains, cons_option}
use Rattle.std.specs.FinMap as table
use Rattle.std.proofs.lemmas.List.Elements.{All-contains_itself, All-from_recursion, recursion_from_All}
use Rattle.up_canon.specs.Names.{Name}
use Rattle.up_canon.proofs.Steps.{and_then_some, map_some}
use Rattle.up_sign.specs.Schemes.{Rules, IsScheme}
use Rattle.up_plan.specs.declared.assigned.Assigned.{Assigned}
use Rattle.up_plan.specs.Images.{ImageData}
use Rattle.up_metadata.specs.Files.{Root, targets_file, targets_text, role_texts}
use Rattle.up_machine.specs.Files.{image_metadata, target_of}
use Rattle.up_machine.specs.Laws.{IsLater}
use Rattle.up_machine.specs.Machine.{run}
use Rattle.up_machine.specs.Made.{IsReplyMade, roots_of}
use Rattle.up_machine.specs.Replies.{assigned_target, reply_metadata, reply_to}
use Rattle.up_machine.specs.State.{Entry, Vehicle, State, empty_state, nth, is_founded}
use Rattle.up_machine.proofs.Growing.{grow_on}
use Rattle.up_machine.proofs.Places.{nth_stays}
use Rattle.up_machine.proofs.Values.{found_each}
use Rattle.up_laws.specs.Readings.{RepliesAreReadAgain}
use Rattle.up_primary.specs.Laws.{ImageFilesAreReadAgain}
use Rattle.up_primary.proofs.Lasting.{founded_with}
use Rattle.up_uptane.specs.Offers.{IsListed, IsOffered, RepliesOfferWhatIsListed}
use Rattle.up_uptane.proofs.Published.{targets_at}
use Rattle.up_uptane.proofs.Reaching.{Reaching, Reached, reach, further}
use Rattle.up_uptane.proofs.Versions.{published_files}

-- ---- one image

each_mapped : {A B : Type 0} (P : B → Type 0) (f : A → B) (xs : List A) → AllByRecursion P (map f xs) → AllByRecursion (λ x. P (f x)) xs
each_mapped P f [] h = tt
each_mapped P f (x ∷ xs) h = (h.0, each_mapped P f xs h.1)

-- an image that is registered is among the targets of all
among : (s : State) (file : Name) (image : ImageData) → table.get s.images file ≡ Some image → Contains (map (target_of None) (table.values s.images)) (target_of None image)
among s file image there =
    let all = map (target_of None) (table.values s.images) in
    found_each (λ (x : ImageData). Contains all (target_of None x)) s.images file image
    (each_mapped (Contains all) (target_of None) (table.values s.images) (recursion_from_All (Contains all) all (All-contains_itself all))) there

one_listed : (k : Rules) (s later : State) (roots : List Root) (ecu : Name) (file : Name) (image : ImageData) → IsScheme k → ImageFilesAreReadAgain → Reached k later roots → IsLater s later → is_founded later ≡ true
    → table.get s.images file ≡ Some image → IsListed later (target_of (Some ecu) image)
one_listed k s later roots ecu file image law again at is founded known =
    let m = image_metadata later in
    record {
      bytes = targets_text k m;
      published = targets_at later (role_texts k m) (published_files k later roots at founded);
      listing = targets_file m;
      envelope = _;
      read = (again k later law at.sound at.typed founded).targets.read;
      image = target_of None image;
      there = among later file image (is.images file image known);
      same = record { file = refl; length = refl; sha256 = refl; sha512 = refl; hardware = refl; release = refl };
    }

all_listed : (k : Rules) (s later : State) (roots : List Root) → IsScheme k → ImageFilesAreReadAgain → Reached k later roots → IsLater s later → is_founded later ≡ true
    → (assigned : List Assigned) → AllByRecursion (IsListed later) (filter_map (assigned_target s) assigned)
all_listed k s later roots law again at is founded [] = tt
all_listed k s later roots law again at is founded (a ∷ assigned) = by_image (table.get s.images a.file) refl (all_listed k s later roots law again at is founded assigned)
  where
    by_image : (o : Option ImageData) → table.get s.images a.file ≡ o → AllByRecursion (IsListed later) (filter_map (assigned_target s) assigned)
        → AllByRecursion (IsListed later) (cons_option (option_map (target_of (Some a.ecu)) o) (filter_map (assigned_target s) assigned))
    by_image None known rest = rest
    by_image (Some image) known rest = (one_listed k s later roots a.ecu a.file image law again at is founded known, rest)

-- ---- one reply

offered : (k : Rules) (s later : State) (roots more : List Root) (vehicle : Name) (v : Vehicle) (number : ℕ) (e : Entry) → IsScheme k → RepliesAreReadAgain → ImageFilesAreReadAgain
    → Reached k s roots → Reached k later (roots ++ more) → IsLater s later
    → table.get s.vehicles vehicle ≡ Some v → nth v.entries number ≡ Some e → IsOffered later (reply_to vehicle number e)
offered k s later roots more vehicle v number e law replies again from at is there entry =
    let made : IsReplyMade k s roots vehicle number e = from.made.replies vehicle v number e there entry in
    let m = reply_metadata s made.root.keys vehicle number e.at e.plan in
    let founded = founded_with k later (roots ++ more) e.root made.root at.made (nth_stays roots more e.root made.root made.there) in
    record {
      root = e.root;
      files = role_texts k m;
      bytes = made.made;
      targets = targets_file m;
      envelope = _;
      read = (replies k s roots vehicle v number e made.root law from.sound from.typed from.own from.made there entry made.there).targets.read;
      vehicle = refl;
      version = refl;
      listed = All-from_recursion (IsListed later) (filter_map (assigned_target s) e.plan.assigned) (all_listed k s later (roots ++ more) law again at is founded e.plan.assigned);
    }

pub listed : Reaching → RepliesAreReadAgain → ImageFilesAreReadAgain → RepliesOfferWhatIsListed
listed keeping replies again k ts us vehicle number reply law given more kept =
    let s = run k empty_state ts in
    let later = run k s us in
    let roots = roots_of k empty_state ts in
    let from = reach keeping k ts given in
    let found = and_then_some (λ (v : Vehicle). option_map (reply_to vehicle number) (nth v.entries number)) (table.get s.vehicles vehicle) reply kept in
    let entry = map_some (reply_to vehicle number) (nth found.0.entries number) reply found.2 in
    subst (IsOffered later) entry.2
    (offered k s later roots (roots_of k s us) vehicle found.0 number entry.0 law replies again from (further keeping k s roots us more from) (grow_on k s us) found.1 entry.1)
