-- Every run leaves what is made of the keys and moments of its foundings and rotations.
use Rattle.std.proofs.Common.{◌≡◌, ℕ, ◌+◌, List, [], ◌∷◌, ◌++◌, true, Some, None, Ok, Err, Result, inl, inr, refl, sym, ap, ap₂, ◌∙◌, subst, append-nil, append_assoc, Option, ◌≤◌}
use Rattle.std.specs.Prelude.{length, option_map, filter_map, is_some, IsTrue}
use Rattle.std.specs.List.{AllByRecursion}
use Rattle.std.specs.Ordering.{nat_cmp}
use Rattle.std.specs.Cmp.Lexicographic.{slice_cmp}
use Rattle.std.specs.FinMap as table
use Rattle.std.specs.FinMap.{get-empty}
use Rattle.std.proofs.lemmas.Option.{same_Some}
use Rattle.up_canon.specs.Moments.{last_command_moment}
use Rattle.up_canon.specs.Names.{Name, Table}
use Rattle.up_canon.specs.declared.refusal.Refusal.{Refusal}
use Rattle.up_sign.specs.Schemes.{Rules}
use Rattle.up_manifest.specs.Laws.{BodiesAreRead, SignedTextsMean}
use Rattle.up_roles.specs.declared.repository.Repository.{Repository}
use Rattle.up_roles.specs.declared.repository.Repository.TheVariants.{Director, Image}
use Rattle.up_plan.specs.declared.assigned.Assigned.{Assigned}
use Rattle.up_metadata.specs.declared.keys.KeySet.{KeySet}
use Rattle.up_metadata.specs.declared.role_files.RoleTexts.{RoleTexts}
use Rattle.up_metadata.specs.Keys.{key_set_fits}
use Rattle.up_metadata.specs.Files.{Root, root_text, role_texts}
use Rattle.up_machine.specs.declared.command.Command.{Command}
use Rattle.up_machine.specs.declared.command.Command.TheVariants.{Found, Rotate, AddImage, Refresh, AddVehicle, ReplaceEcu, OpenCampaign, CloseCampaign, Deliver, Fetch}
use Rattle.up_machine.specs.State.{Chain, Entry, Vehicle, State, nth, chain_of, is_founded, key_set, keys_before}
use Rattle.up_machine.specs.Files.{image_metadata, target_of}
use Rattle.up_machine.specs.Replies.{assigned_target, reply_metadata, reply_json, reply_text}
use Rattle.up_machine.specs.Deciding.{Outcome}
use Rattle.up_machine.specs.Repositories.{next_chain, with_root, stamped}
use Rattle.up_machine.specs.Deliveries.{Received, entry_of, with_entry}
use Rattle.up_machine.specs.Machine.{decide, outcome_of, step, run}
use Rattle.up_machine.specs.Sound.{IsGrounded, IsSound}
use Rattle.up_machine.specs.Laws.{IsLater}
use Rattle.up_machine.specs.Made.{IsSoundRoot, keys_at, root_texts, IsReplyMade, IsMade, new_roots, roots_of, EmptyIsMade, StepsMake, RunsMake}
use Rattle.up_machine.proofs.Lists.{each_one_more}
use Rattle.up_machine.proofs.Tables.{get_after-insert}
use Rattle.up_machine.proofs.Places.{nth_stays, nth_last, nth_none, nth_one_more}
use Rattle.up_machine.proofs.Decided.{found_ok, rotate_ok, image_ok, refresh_ok, vehicle_ok, replace_ok, open_ok, close_ok, delivery_ok, fetch_ok}
use Rattle.up_machine.proofs.Receiving.{received}
use Rattle.up_machine.proofs.Growing.{grow_outcome}
use Rattle.up_machine.proofs.Keeping.{nth_at, there}
use Rattle.up_machine.proofs.Soundness.{stay}
use Rattle.up_machine.proofs.MadeRoots.{as_many, one_more_text, last_there}

pub empty_made : EmptyIsMade
empty_made k = record {
  each_root = tt;
  director = refl;
  image = refl;
  keys = refl;
  targets = refl;
  files = λ files h. cc;
  replies = λ vehicle v number e h i. let none = get-empty {X = Vehicle} (slice_cmp nat_cmp) vehicle in cc;
}

-- ---- replies stay

target_stays : (s later : State) (a : Assigned) → IsLater s later → table.contains_key s.images a.file ≡ true → assigned_target later a ≡ assigned_target s a
target_stays s later a is known =
    let image = there (table.get s.images a.file) known in
    ap (option_map (target_of (Some a.ecu))) (is.images a.file image.0 image.1 ∙ sym image.1)

targets_stay : (s later : State) (assigned : List Assigned) → IsLater s later → AllByRecursion (λ a. IsTrue (table.contains_key s.images a.file)) assigned
    → filter_map (assigned_target later) assigned ≡ filter_map (assigned_target s) assigned
targets_stay s later [] is known = refl
targets_stay s later (a ∷ assigned) is known = rw (target_stays s later a is known.0, targets_stay s later assigned is known.1)

reply_stays : (k : Rules) (s later : State) (roots more : List Root) (vehicle : Name) (number : ℕ) (e : Entry) → IsLater s later → IsGrounded s e → IsReplyMade k s roots vehicle number e
    → IsReplyMade k later (roots ++ more) vehicle number e
reply_stays k s later roots more vehicle number e is grounded made = record {
  root = made.root;
  there = nth_stays roots more e.root made.root made.there;
  made = made.made ∙ ap (λ ts. reply_json vehicle number e.root (role_texts k (record {
    repository = Director;
    keys = made.root.keys;
    vehicle = Some vehicle;
    version = number;
    at = e.at;
    targets = ts;
  }))) (sym (targets_stay s later e.plan.assigned is grounded.images));
}

-- the replies of a vehicle
abbrev RepliesAre : Rules → State → List Root → Name → Vehicle → Type 0
RepliesAre k s roots vehicle v = (number : ℕ) (e : Entry) → nth v.entries number ≡ Some e → IsReplyMade k s roots vehicle number e

-- those of a vehicle that was there with the same entries
replies_of_old : (k : Rules) (s later : State) (roots more : List Root) → IsSound k s → IsMade k s roots → IsLater s later → (vehicle : Name) (v : Vehicle) → table.get s.vehicles vehicle ≡ Some v
    → RepliesAre k later (roots ++ more) vehicle v
replies_of_old k s later roots more sound made is vehicle v found = λ number e h.
    reply_stays k s later roots more vehicle number e is (nth_at (IsGrounded s) v.entries number e (sound.vehicles vehicle v found).grounded h) (made.replies vehicle v number e found h)

-- ---- commands that make no root version

-- the rest of it where root versions and keys stay
record StaysMade (k : Rules) (s next : State) (roots : List Root) : Type 0 where
  director : next.director ≡ s.director
  image : next.image ≡ s.image
  founded : is_some next.files ≡ is_some s.files
  targets : next.targets_version ≡ next.image_version
  files : (files : RoleTexts) → next.files ≡ Some files → files ≡ role_texts k (image_metadata next)
  replies : (vehicle : Name) (v : Vehicle) → table.get next.vehicles vehicle ≡ Some v → RepliesAre k next (roots ++ []) vehicle v

same_keys : (s next : State) (a b : Option RoleTexts) → next.director ≡ s.director → next.image ≡ s.image → is_some a ≡ is_some b
    → option_map (λ (files : RoleTexts). key_set next) a ≡ option_map (λ (files : RoleTexts). key_set s) b
same_keys s next None None director image h = refl
same_keys s next None (Some y) director image h = cc
same_keys s next (Some x) None director image h = cc
same_keys s next (Some x) (Some y) director image h = ap₂ (λ (d i : Chain). Some (key_set (record s { director = d; image = i }))) director image

made_still : (k : Rules) (s next : State) (roots : List Root) → IsMade k s roots → StaysMade k s next roots → IsMade k next (roots ++ [])
made_still k s next roots made stays = with_roots (roots ++ []) (append-nil roots) stays.replies
  where
    with_roots : (rs : List Root) → rs ≡ roots → ((vehicle : Name) (v : Vehicle) → table.get next.vehicles vehicle ≡ Some v → RepliesAre k next rs vehicle v) → IsMade k next rs
    with_roots rs same replies = record {
      each_root = subst (AllByRecursion (IsSoundRoot k)) (sym same) made.each_root;
      director = ap (λ (c : Chain). c.texts) stays.director ∙ made.director ∙ ap (root_texts k Director 1 None) (sym same);
      image = ap (λ (c : Chain). c.texts) stays.image ∙ made.image ∙ ap (root_texts k Image 1 None) (sym same);
      keys = same_keys s next next.files s.files stays.director stays.image stays.founded ∙ made.keys ∙ ap (λ (xs : List Root). keys_at xs (length xs)) (sym same);
      targets = stays.targets;
      files = stays.files;
      replies = λ vehicle v number e found h. replies vehicle v found number e h;
    }

-- ---- a root version more

texts_grow : (k : Rules) (repository : Repository) (s : State) (roots : List Root) (at : ℕ) (keys : KeySet) → (chain_of repository s).texts ≡ root_texts k repository 1 None roots
    → keys_before s ≡ keys_at roots (length roots) → (next_chain k repository s at keys).texts ≡ root_texts k repository 1 None (roots ++ record { keys = keys; at = at } ∷ [])
texts_grow k repository s roots at keys texts held =
    let root : Root = record { keys = keys; at = at } in
    ap (λ (ts : List (List ℕ)). ts ++ root_text k repository (length ts + 1) root (keys_before s) ∷ []) texts
    ∙ ap₂ (λ (n : ℕ) (b : Option KeySet). root_texts k repository 1 None roots ++ root_text k repository (n + 1) root b ∷ []) (as_many k repository 1 None roots) held
    ∙ sym (one_more_text k repository roots root)

one_more_made : (k : Rules) (s : State) (roots : List Root) (at version : ℕ) (keys : KeySet) → IsSound k s → IsMade k s roots → key_set_fits k keys ≡ true → at ≤ last_command_moment
    → IsLater s (stamped k (with_root k s at keys) at version) → IsMade k (stamped k (with_root k s at keys) at version) (roots ++ record { keys = keys; at = at } ∷ [])
one_more_made k s roots at version keys sound made fits moment later =
    let root : Root = record { keys = keys; at = at } in
    let next = stamped k (with_root k s at keys) at version in
    record {
      each_root = each_one_more (IsSoundRoot k) roots root made.each_root (record { keys = fits; moment = moment });
      director = texts_grow k Director s roots at keys made.director made.keys;
      image = texts_grow k Image s roots at keys made.image made.keys;
      keys = sym (ap (option_map (λ (r : Root). r.keys)) (nth_last roots root));
      targets = refl;
      files = λ files h. sym (same_Some (role_texts k (image_metadata next)) files h);
      replies = λ vehicle v number e found h. replies_of_old k s next roots (root ∷ []) sound made later vehicle v found number e h;
    }

-- ---- deliveries

new_reply : (k : Rules) (s : State) (roots : List Root) (at : ℕ) (r : Received) (last : (root : Root) × (nth roots (length roots) ≡ Some root) × (root.keys ≡ key_set s)) → IsMade k s roots
    → IsReplyMade k (with_entry s r.incoming.manifest.vehicle r.vehicle (entry_of k s at r)) (roots ++ []) r.incoming.manifest.vehicle (length r.vehicle.entries + 1) (entry_of k s at r)
unfolding reply_text
new_reply k s roots at r last made =
    let size : length s.director.texts ≡ length roots = ap (λ (ts : List (List ℕ)). length ts) made.director ∙ as_many k Director 1 None roots in
    record {
      root = last.0;
      there = nth_stays roots [] (length s.director.texts) last.0 (ap (nth roots) size ∙ last.1);
      made = ap (λ (keys : KeySet). reply_json r.incoming.manifest.vehicle (length r.vehicle.entries + 1) (length s.director.texts)
          (role_texts k (reply_metadata s keys r.incoming.manifest.vehicle (length r.vehicle.entries + 1) at (entry_of k s at r).plan))) (sym last.2);
    }

replies_of_new : (k : Rules) (s : State) (roots : List Root) (at : ℕ) (r : Received) → IsSound k s → IsMade k s roots → is_founded s ≡ true → table.get s.vehicles r.incoming.manifest.vehicle ≡ Some r.vehicle
    → IsLater s (with_entry s r.incoming.manifest.vehicle r.vehicle (entry_of k s at r))
    → RepliesAre k (with_entry s r.incoming.manifest.vehicle r.vehicle (entry_of k s at r)) (roots ++ []) r.incoming.manifest.vehicle (record r.vehicle { entries = r.vehicle.entries ++ entry_of k s at r ∷ [] })
replies_of_new k s roots at r sound made founded found later = λ number e h.
    let name = r.incoming.manifest.vehicle in
    let next = with_entry s name r.vehicle (entry_of k s at r) in
    elim (nth_one_more r.vehicle.entries (entry_of k s at r) e number h) [
      | inl old ↦ replies_of_old k s next roots [] sound made later name r.vehicle found number e old
      | inr new ↦ subst (λ (x : Entry). IsReplyMade k next (roots ++ []) name number x) new.1
          (subst (λ (n : ℕ). IsReplyMade k next (roots ++ []) name n (entry_of k s at r)) (sym new.0) (new_reply k s roots at r (last_there k s roots made founded) made))
    ]

-- ---- each outcome

-- the state stays
unchanged : (k : Rules) (s : State) (roots : List Root) → IsMade k s roots → IsMade k s (roots ++ [])
unchanged k s roots made = subst (IsMade k s) (sym (append-nil roots)) made

-- what a command leaves, by its answer
abbrev Leaves : Rules → ℕ → Command → List Root → Outcome → Type 0
Leaves k at c roots o = IsMade k o.next (roots ++ new_roots at c o.answer)

-- where nothing of what is published changes
bystander : (k : Rules) (s next : State) (roots : List Root) → IsSound k s → IsMade k s roots → next.director ≡ s.director → next.image ≡ s.image → next.files ≡ s.files
    → next.targets_version ≡ s.targets_version → next.image_version ≡ s.image_version → image_metadata next ≡ image_metadata s → ((vehicle : Name) (v : Vehicle) → table.get next.vehicles vehicle ≡ Some v → RepliesAre k next (roots ++ []) vehicle v) → IsMade k next (roots ++ [])
bystander k s next roots sound made director image files targets version same replies = made_still k s next roots made (record {
  director = director;
  image = image;
  founded = ap is_some files;
  targets = targets ∙ made.targets ∙ sym version;
  files = λ texts h. made.files texts (sym files ∙ h) ∙ ap (role_texts k) (sym same);
  replies = replies;
})

-- where the image repository's files are made anew
restamped : (k : Rules) (s next : State) (roots : List Root) (at version : ℕ) → IsSound k s → IsMade k s roots → is_founded s ≡ true → IsLater s (stamped k next at version)
    → next.director ≡ s.director → next.image ≡ s.image → next.vehicles ≡ s.vehicles → IsMade k (stamped k next at version) (roots ++ [])
restamped k s next roots at version sound made founded later director image vehicles = made_still k s (stamped k next at version) roots made (record {
  director = director;
  image = image;
  founded = sym founded;
  targets = refl;
  files = λ texts h. sym (same_Some (role_texts k (image_metadata (stamped k next at version))) texts h);
  replies = λ vehicle v found. replies_of_old k s (stamped k next at version) roots [] sound made later vehicle v (ap (λ (t : Table Vehicle). table.get t vehicle) (sym vehicles) ∙ found);
})

acted : (k : Rules) (s : State) (at : ℕ) (c : Command) (roots : List Root) (o : Outcome) → IsSound k s → IsMade k s roots → decide k s at c ≡ Ok o → IsLater s o.next → Leaves k at c roots o
acted k s at (Found keys) roots o sound made h later =
    let is = found_ok k s at keys o h in
    subst (λ (o : Outcome). IsLater s o.next → Leaves k at (Found keys) roots o) is.is (λ later. one_more_made k s roots at 1 keys sound made is.fits is.moment later) later
acted k s at (Rotate keys) roots o sound made h later =
    let is = rotate_ok k s at keys o h in
    subst (λ (o : Outcome). IsLater s o.next → Leaves k at (Rotate keys) roots o) is.is (λ later. one_more_made k s roots at (s.image_version + 1) keys sound made is.fits is.moment later) later
acted k s at (AddImage image) roots o sound made h later = elim (image_ok k s at image o h) [
  | inl same ↦ subst (Leaves k at (AddImage image) roots) same (unchanged k s roots made)
  | inr is ↦ subst (λ (o : Outcome). IsLater s o.next → Leaves k at (AddImage image) roots o) is.is (λ later. restamped k s (record s { images = table.insert s.images image.file image }) roots at (s.image_version + 1) sound made is.founded later refl refl refl) later
]
acted k s at (Refresh version) roots o sound made h later =
    let is = refresh_ok k s at version o h in
    subst (λ (o : Outcome). IsLater s o.next → Leaves k at (Refresh version) roots o) is.is (λ later. restamped k s s roots at version sound made is.founded later refl refl refl) later
acted k s at (AddVehicle new) roots o sound made h later = elim (vehicle_ok k s at new o h) [
  | inl same ↦ subst (Leaves k at (AddVehicle new) roots) same (unchanged k s roots made)
  | inr is ↦ subst (λ (o : Outcome). IsLater s o.next → Leaves k at (AddVehicle new) roots o) is.is (λ later. bystander k s _ roots sound made refl refl refl refl refl refl (λ vehicle v found.
      get_after-insert (RepliesAre k _ (roots ++ [])) s.vehicles new.vehicle vehicle v _ found (λ number e h. absurd (nth_none number e h)) (λ old. replies_of_old k s _ roots [] sound made later vehicle v old))) later
]
acted k s at (ReplaceEcu r) roots o sound made h later =
    let is = replace_ok k s at r o h in
    subst (λ (o : Outcome). IsLater s o.next → Leaves k at (ReplaceEcu r) roots o) is.is (λ later. bystander k s _ roots sound made refl refl refl refl refl refl (λ vehicle v found.
    get_after-insert (RepliesAre k _ (roots ++ [])) s.vehicles r.vehicle vehicle v _ found (replies_of_old k s _ roots [] sound made later r.vehicle is.vehicle is.there) (λ old. replies_of_old k s _ roots [] sound made later vehicle v old))) later
acted k s at (OpenCampaign campaign) roots o sound made h later = elim (open_ok s at campaign o h) [
  | inl same ↦ subst (Leaves k at (OpenCampaign campaign) roots) same (unchanged k s roots made)
  | inr is ↦ subst (λ (o : Outcome). IsLater s o.next → Leaves k at (OpenCampaign campaign) roots o) is.is (λ later. bystander k s _ roots sound made refl refl refl refl refl refl (λ vehicle v found. replies_of_old k s _ roots [] sound made later vehicle v found)) later
]
acted k s at (CloseCampaign name) roots o sound made h later = elim (close_ok s at name o h) [
  | inl same ↦ subst (Leaves k at (CloseCampaign name) roots) same (unchanged k s roots made)
  | inr is ↦ subst (λ (o : Outcome). IsLater s o.next → Leaves k at (CloseCampaign name) roots o) is.is (λ later. bystander k s _ roots sound made refl refl refl refl refl refl (λ vehicle v found. replies_of_old k s _ roots [] sound made later vehicle v found)) later
]
acted k s at (Deliver body) roots o sound made h later =
    let is = delivery_ok k s at body o h in
    let r = is.received in
    let there = received k s at body r is.receives in
    subst (λ (o : Outcome). IsLater s o.next → Leaves k at (Deliver body) roots o) is.is (λ later. bystander k s _ roots sound made refl refl refl refl refl refl (λ vehicle v found.
    get_after-insert (RepliesAre k _ (roots ++ [])) s.vehicles r.incoming.manifest.vehicle vehicle v _ found (replies_of_new k s roots at r sound made there.founded there.vehicle later)
    (λ old. replies_of_old k s _ roots [] sound made later vehicle v old))) later
acted k s at (Fetch repository name) roots o sound made h later = subst (Leaves k at (Fetch repository name) roots) (fetch_ok s at repository name o h).2 (unchanged k s roots made)

by_decision : (k : Rules) (s : State) (at : ℕ) (c : Command) (roots : List Root) (r : Result Outcome Refusal) → IsMade k s roots → ((o : Outcome) → r ≡ Ok o → Leaves k at c roots o) → Leaves k at c roots (outcome_of s r)
by_decision k s at c roots (Ok o) made go = go o refl
by_decision k s at c roots (Err e) made go = unchanged k s roots made

pub make : StepsMake
unfolding step
make k s at c roots sound made = by_decision k s at c roots (decide k s at c) made (λ o h. acted k s at c roots o sound made h (grow_outcome k s at c o h))

pub make_on : BodiesAreRead → SignedTextsMean → RunsMake
make_on bodies texts k s [] roots fits sound made = unchanged k s roots made
make_on bodies texts k s (t ∷ ts) roots fits sound made =
    let o = step k s t.at t.command in
    subst (IsMade k (run k s (t ∷ ts))) (append_assoc roots (new_roots t.at t.command o.answer) (roots_of k o.next ts))
    (make_on bodies texts k o.next ts (roots ++ new_roots t.at t.command o.answer) fits.1 (stay bodies texts k s t.at t.command fits.0 sound) (make k s t.at t.command roots sound made))
