-- What a rotation of keys comes to.
use Rattle.std.proofs.Common.{◌≡◌, ℕ, ◌+◌, ◌-◌, ◌<◌, ◌≤◌, List, [], ◌∷◌, ◌++◌, Bool, true, false, cond, Option, Some, None, Result, Ok, Err, inl, inr, length, refl, sym, ap, ◌∙◌, subst, arith, length-append}
use Rattle.std.specs.Prelude.{◌⊎◌, ◌||◌, IsTrue, filter, bytes_eq, option_map, is_some, nat_le}
use Rattle.std.specs.List.{list_any}
use Rattle.std.proofs.lemmas.Bool.{or_parts, leb-true}
use Rattle.std.proofs.lemmas.Bool.Decides.{nat_tests}
use Rattle.std.proofs.lemmas.List.Folds.{list_any-append}
use Rattle.up_canon.specs.declared.refusal.Refusal.{Refusal}
use Rattle.up_canon.proofs.Steps.{one_value}
use Rattle.up_sign.specs.Schemes.{Rules}
use Rattle.up_roles.specs.declared.repository.Repository.{Repository}
use Rattle.up_roles.specs.declared.repository.Repository.TheVariants.{Director, Image}
use Rattle.up_roles.specs.Root.{root_payload, root_text_of}
use Rattle.up_roles.specs.Snapshot.{snapshot_payload, snapshot_text_of}
use Rattle.up_roles.specs.Targets.{targets_payload, targets_text_of}
use Rattle.up_roles.specs.Timestamp.{timestamp_payload, timestamp_text_of}
use Rattle.up_metadata.specs.declared.keys.KeySet.{KeySet}
use Rattle.up_metadata.specs.declared.keys.RepoKeys.{RepoKeys}
use Rattle.up_metadata.specs.declared.role_files.RoleTexts.{RoleTexts}
use Rattle.up_metadata.specs.Files.{Root, keys_of, root_file, root_secrets, root_signers, root_text, MetadataSet, targets_file, targets_text, snapshot_file, snapshot_text, timestamp_file, timestamp_text, role_texts}
use Rattle.up_machine.specs.declared.answer.Answer.TheVariants.{Done, Reply as Replied}
use Rattle.up_machine.specs.declared.answer.Reply.{Reply}
use Rattle.up_machine.specs.declared.command.Command.TheVariants.{Deliver, Rotate}
use Rattle.up_machine.specs.Commands.{is_command}
use Rattle.up_machine.specs.Deciding.{Outcome}
use Rattle.up_machine.specs.Deliveries.{Received, plan_in}
use Rattle.up_machine.specs.Files.{image_metadata, numbered_root_name}
use Rattle.up_machine.specs.Laws.{IsLater, EmptyIsSound, RunsStaySound}
use Rattle.up_machine.specs.Machine.{Timed, decide, outcome_of, step, run}
use Rattle.up_machine.specs.Made.{keys_at, IsMade, roots_of, EmptyIsMade, RunsMake}
use Rattle.up_machine.specs.Replies.{reply_metadata, reply_text}
use Rattle.up_machine.specs.Repositories.{next_chain, stamped, with_root}
use Rattle.up_machine.specs.SignedLaws.{IsRootText, IsImageText, IsServedText, ServedFilesAreKnown}
use Rattle.up_machine.specs.Sound.{IsSound}
use Rattle.up_machine.specs.State.{Chain, State, empty_state, nth, chain_of, key_set, keys_before, version}
use Rattle.up_machine.proofs.Decided.{IsDelivered, IsRotated as WasRotated, rotate_ok, delivery_ok}
use Rattle.up_machine.proofs.Growing.{grow, grow_on, onward}
use Rattle.up_machine.proofs.MadeRoots.{made_root, last_there}
use Rattle.up_machine.proofs.Places.{nth-append, nth_last, nth_there}
use Rattle.up_primary.specs.Following.{all_secrets}
use Rattle.up_primary.specs.Laws.{RootsAreFetched}
use Rattle.up_primary.proofs.ManyRoots.{number_within}
use Rattle.up_primary.proofs.Runs.{run-append}
use Rattle.up_primary.proofs.Serving.{chain_size}
use Rattle.up_uptane.specs.Deliveries.{AreCommands}
use Rattle.up_uptane.specs.Rotations.{IsSealedBy, IsSealedWithout, IsLeftOut, IsPublished, IsRotated, RotationsLeaveOut, IsSealedByLast, NewRepliesAreOfTheLastRoot}
use Rattle.up_uptane.proofs.Deliveries.{reply_of}
use Rattle.up_uptane.proofs.Published.{each_of_both}
use Rattle.up_uptane.proofs.Versions.{chain_later, text_stays}

-- ---- who signs

root_sealed : (k : Rules) (repository : Repository) (i : ℕ) (root : Root) (before : Option KeySet) → IsSealedBy k (root_signers repository root before) (root_text k repository i root before)
unfolding root_text root_text_of
root_sealed k repository i root before = record { payload = root_payload (root_file k repository i root); is = refl }

targets_sealed : (k : Rules) (m : MetadataSet) → IsSealedBy k (keys_of m.repository m.keys).targets.keys (targets_text k m)
unfolding targets_text targets_text_of
targets_sealed k m = record { payload = targets_payload (targets_file m); is = refl }

snapshot_sealed : (k : Rules) (m : MetadataSet) → IsSealedBy k (keys_of m.repository m.keys).snapshot.keys (snapshot_text k m)
unfolding snapshot_text snapshot_text_of
snapshot_sealed k m = record { payload = snapshot_payload (snapshot_file m); is = refl }

timestamp_sealed : (k : Rules) (m : MetadataSet) → IsSealedBy k (keys_of m.repository m.keys).timestamp.keys (timestamp_text k m)
unfolding timestamp_text timestamp_text_of
timestamp_sealed k m = record { payload = timestamp_payload (timestamp_file k m); is = refl }

-- ---- who doesn't

record IsOut (secret : List ℕ) (keys : RepoKeys) : Type 0 where
  pub root : list_any (bytes_eq secret) keys.root.keys ≡ false
  pub targets : list_any (bytes_eq secret) keys.targets.keys ≡ false
  pub snapshot : list_any (bytes_eq secret) keys.snapshot.keys ≡ false
  pub timestamp : list_any (bytes_eq secret) keys.timestamp.keys ≡ false

out_of : (secret : List ℕ) (keys : RepoKeys) → list_any (bytes_eq secret) (all_secrets keys) ≡ false → IsOut secret keys
out_of secret keys h =
    let p = bytes_eq secret in
    let r = keys.root.keys in
    let t = keys.targets.keys in
    let s = keys.snapshot.keys in
    let m = keys.timestamp.keys in
    let a = or_parts (list_any p (r ++ t ++ s)) (list_any p m) (sym (list_any-append p (r ++ t ++ s) m) ∙ h) in
    let b = or_parts (list_any p (r ++ t)) (list_any p s) (sym (list_any-append p (r ++ t) s) ∙ a.0) in
    let c = or_parts (list_any p r) (list_any p t) (sym (list_any-append p r t) ∙ b.0) in
    record { root = c.0; targets = c.1; snapshot = b.1; timestamp = a.1 }

none_of_both : (secret : List ℕ) (xs ys : List (List ℕ)) → list_any (bytes_eq secret) xs ≡ false → list_any (bytes_eq secret) ys ≡ false → list_any (bytes_eq secret) (xs ++ ys) ≡ false
none_of_both secret xs ys a b = list_any-append (bytes_eq secret) xs ys ∙ ap (λ (t : Bool). t || list_any (bytes_eq secret) ys) a ∙ b

none_of_some : (secret : List ℕ) (p : List ℕ → Bool) (xs : List (List ℕ)) → list_any (bytes_eq secret) xs ≡ false → list_any (bytes_eq secret) (filter p xs) ≡ false
none_of_some secret p [] h = refl
none_of_some secret p (x ∷ xs) h = let parts = or_parts (bytes_eq secret x) _ h in by_test (p x) parts.0 (none_of_some secret p xs parts.1)
  where
    by_test : (b : Bool) → bytes_eq secret x ≡ false → list_any (bytes_eq secret) (filter p xs) ≡ false → list_any (bytes_eq secret) (cond b (x ∷ filter p xs) (filter p xs)) ≡ false
    by_test true here rest = ap (λ (t : Bool). t || list_any (bytes_eq secret) (filter p xs)) here ∙ rest
    by_test false here rest = rest

no_signer : (secret : List ℕ) (repository : Repository) (root : Root) (before : Option KeySet) → list_any (bytes_eq secret) (keys_of repository root.keys).root.keys ≡ false
    → list_any (bytes_eq secret) (root_secrets repository before) ≡ false → list_any (bytes_eq secret) (root_signers repository root before) ≡ false
no_signer secret repository root before own old = none_of_both secret _ _ own (none_of_some secret _ (root_secrets repository before) old)

-- ---- one text behind a rotation

out_at : (roots : List Root) (repository : Repository) (n i : ℕ) (secret : List ℕ) (root : Root) → IsLeftOut roots repository n secret → n < i → nth roots i ≡ Some root → IsOut secret (keys_of repository root.keys)
out_at roots repository n i secret root left high there = out_of secret (keys_of repository root.keys) (left i root high there)

before_out : (roots : List Root) (repository : Repository) (n i : ℕ) (secret : List ℕ) → IsLeftOut roots repository n secret → n < i → (o : Option Root) → nth roots i ≡ o
    → list_any (bytes_eq secret) (root_secrets repository (option_map (λ (root : Root). root.keys) o)) ≡ false
before_out roots repository n i secret left high None there = refl
before_out roots repository n i secret left high (Some root) there = (out_at roots repository n i secret root left high there).root

abbrev Else : Rules → State → Repository → List ℕ → List ℕ → List ℕ → Type 0
Else k s repository next secret bytes = IsPublished s repository bytes ⊎ ((bytes ≡ next) ⊎ IsSealedWithout k secret bytes)

-- a later state, whose root versions are these, behind one that was there
record Behind (k : Rules) (s t : State) (roots : List Root) : Type 0 where
  sound : IsSound k s
  sound_later : IsSound k t
  later : IsLater s t
  made : IsMade k t roots

-- a later Root is signed without the secret
root_without : (k : Rules) (s t : State) (roots : List Root) (repository : Repository) (secret bytes : List ℕ) → Behind k s t roots → IsLeftOut roots repository (length (chain_of repository s).texts) secret
    → (i : ℕ) → nth (chain_of repository t).texts i ≡ Some bytes → length (chain_of repository s).texts + 1 < i → IsSealedWithout k secret bytes
root_without k s t roots repository secret bytes behind left i there low =
    let high = number_within (chain_of repository t).texts i bytes there in
    let size = chain_size k t roots repository behind.made in
    let at = nth_there roots i (omega (arith, low)) (omega (arith, high, size)) in
    let own = out_at roots repository (length (chain_of repository s).texts) i secret at.0 left (omega (arith, low)) at.1 in
    let old = before_out roots repository (length (chain_of repository s).texts) (i - 1) secret left (omega (arith, low)) (nth roots (i - 1)) refl in
    let signers = root_signers repository at.0 (keys_at roots (i - 1)) in
    let same : root_text k repository i at.0 (keys_at roots (i - 1)) ≡ bytes = one_value _ _ _ (made_root k t roots repository i at.0 behind.made at.1) there in
    record {
      secrets = signers;
      sealed = subst (IsSealedBy k signers) same (root_sealed k repository i at.0 (keys_at roots (i - 1)));
      without = no_signer secret repository at.0 (keys_at roots (i - 1)) own.root old;
    }

root_else : (k : Rules) (s t : State) (roots : List Root) (repository : Repository) (next secret bytes : List ℕ) → RootsAreFetched → Behind k s t roots
    → nth (chain_of repository t).texts (length (chain_of repository s).texts + 1) ≡ Some next → IsLeftOut roots repository (length (chain_of repository s).texts) secret → IsRootText t repository bytes → Else k s repository next secret bytes
root_else k s t roots repository next secret bytes fetched behind published left of =
    by_number (nat_le of.0 (length (chain_of repository s).texts)) refl (nat_le of.0 (length (chain_of repository s).texts + 1)) refl
  where
    by_number : (a : Bool) → nat_le of.0 (length (chain_of repository s).texts) ≡ a → (b : Bool) → nat_le of.0 (length (chain_of repository s).texts + 1) ≡ b → Else k s repository next secret bytes
    by_number true h b g =
        let high : of.0 ≤ length (chain_of repository s).texts = leb-true _ _ h in
        let grown = chain_later s t repository behind.later in
        let there : nth (chain_of repository s).texts of.0 ≡ Some bytes =
        sym (ap (λ (texts : List (List ℕ)). nth texts of.0) grown.1 ∙ nth-append (chain_of repository s).texts grown.0 of.0 high) ∙ of.1 in
        inl (numbered_root_name of.0, fetched k s repository of.0 bytes behind.sound there)
    by_number false h true g =
        let low : length (chain_of repository s).texts < of.0 = grind (arith, nat_tests) in
        let high : of.0 ≤ length (chain_of repository s).texts + 1 = leb-true _ _ g in
        let same : of.0 ≡ length (chain_of repository s).texts + 1 = omega (arith, low, high) in
        inr (inl (one_value _ _ _ of.1 (ap (λ (n : ℕ). nth (chain_of repository t).texts n) same ∙ published)))
    by_number false h false g =
        let low : length (chain_of repository s).texts + 1 < of.0 = grind (arith, nat_tests) in
        inr (inr (root_without k s t roots repository secret bytes behind left of.0 of.1 low))

image_else : (k : Rules) (s t : State) (roots : List Root) (next secret bytes : List ℕ) → Behind k s t roots → length s.image.texts < length t.image.texts → IsLeftOut roots Image (length s.image.texts) secret → IsImageText t bytes
    → Else k s Image next secret bytes
image_else k s t roots next secret bytes behind more left of =
    let m = image_metadata t in
    let last = last_there k t roots behind.made (ap is_some of.1) in
    let size = chain_size k t roots Image behind.made in
    let out : IsOut secret t.image.keys =
    subst (λ (keys : KeySet). IsOut secret (keys_of Image keys)) last.2 (out_at roots Image (length s.image.texts) (length roots) secret last.0 left (omega (arith, more, size)) last.1) in
    let made = behind.made.files of.0 of.1 in
    elim of.2 [
      | inl is ↦ inr (inr (record {
        secrets = t.image.keys.targets.keys;
        sealed = subst (IsSealedBy k t.image.keys.targets.keys) (sym (is ∙ ap (λ (texts : RoleTexts). texts.targets) made)) (targets_sealed k m);
        without = out.targets;
      }))
      | inr rest ↦ elim rest [
        | inl is ↦ inr (inr (record {
          secrets = t.image.keys.snapshot.keys;
          sealed = subst (IsSealedBy k t.image.keys.snapshot.keys) (sym (is ∙ ap (λ (texts : RoleTexts). texts.snapshot) made)) (snapshot_sealed k m);
          without = out.snapshot;
        }))
        | inr is ↦ inr (inr (record {
          secrets = t.image.keys.timestamp.keys;
          sealed = subst (IsSealedBy k t.image.keys.timestamp.keys) (sym (is ∙ ap (λ (texts : RoleTexts). texts.timestamp) made)) (timestamp_sealed k m);
          without = out.timestamp;
        }))
      ]
    ]

each_else : (k : Rules) (s t : State) (roots : List Root) (repository : Repository) (next secret bytes : List ℕ) → RootsAreFetched → Behind k s t roots → length (chain_of repository s).texts < length (chain_of repository t).texts
    → nth (chain_of repository t).texts (length (chain_of repository s).texts + 1) ≡ Some next → IsLeftOut roots repository (length (chain_of repository s).texts) secret → IsServedText t repository bytes → Else k s repository next secret bytes
each_else k s t roots Director next secret bytes fetched behind more published left of = root_else k s t roots Director next secret bytes fetched behind published left of
each_else k s t roots Image next secret bytes fetched behind more published left (inl of) = root_else k s t roots Image next secret bytes fetched behind published left of
each_else k s t roots Image next secret bytes fetched behind more published left (inr of) = image_else k s t roots next secret bytes behind more left of

-- ---- the rotation

chain_after : (k : Rules) (s : State) (at version : ℕ) (keys : KeySet) (repository : Repository) → chain_of repository (stamped k (with_root k s at keys) at version) ≡ next_chain k repository s at keys
chain_after k s at version keys Director = refl
chain_after k s at version keys Image = refl

held : (s : State) (o : Option RoleTexts) → is_some o ≡ true → option_map (λ (files : RoleTexts). key_set s) o ≡ Some (key_set s)
held s None h = cc
held s (Some files) h = refl

-- the text that a rotation adds
next_text : (k : Rules) (s t : State) (at : ℕ) (keys : KeySet) (repository : Repository) → IsLater (stamped k (with_root k s at keys) at (s.image_version + 1)) t
    → nth (chain_of repository t).texts (length (chain_of repository s).texts + 1) ≡ Some (root_text k repository (length (chain_of repository s).texts + 1) (record { keys = keys; at = at }) (keys_before s))
next_text k s t at keys repository later =
    let after = stamped k (with_root k s at keys) at (s.image_version + 1) in
    let texts = (chain_of repository s).texts in
    let next = root_text k repository (length texts + 1) (record { keys = keys; at = at }) (keys_before s) in
    let both = length-append texts (next ∷ []) in
    let number : length (chain_of repository s).texts + 1 ≡ length (texts ++ next ∷ []) = sym both in
    let last : nth (texts ++ next ∷ []) (length (chain_of repository s).texts + 1) ≡ Some next = ap (nth (texts ++ next ∷ [])) number ∙ nth_last texts next in
    let there : nth (chain_of repository after).texts (length (chain_of repository s).texts + 1) ≡ Some next =
    ap (λ (c : Chain). nth c.texts (length (chain_of repository s).texts + 1)) (chain_after k s at (s.image_version + 1) keys repository) ∙ last in
    text_stays after t repository (length (chain_of repository s).texts + 1) next later there

rotated : (k : Rules) (s t : State) (roots : List Root) (at : ℕ) (keys : KeySet) (o : Outcome) (repository : Repository) → ServedFilesAreKnown → RootsAreFetched → Behind k s t roots → WasRotated k s at keys o
    → IsLater o.next t → IsRotated k s t roots repository keys
rotated k s t roots at keys o repository known fetched behind is later =
    let follows = subst (λ (x : State). IsLater x t) (ap (λ (o : Outcome). o.next) (sym is.is)) later in
    let new : Root = record { keys = keys; at = at } in
    let number = length (chain_of repository s).texts + 1 in
    let there = next_text k s t at keys repository follows in
    let high = number_within (chain_of repository t).texts (length (chain_of repository s).texts + 1) (root_text k repository number new (keys_before s)) there in
    record {
      next = root_text k repository number new (keys_before s);
      published = fetched k t repository (length (chain_of repository s).texts + 1) (root_text k repository number new (keys_before s)) behind.sound_later there;
      sealed = subst (λ (before : Option KeySet). IsSealedBy k (root_signers repository new before) (root_text k repository number new (keys_before s))) (held s s.files is.founded)
          (root_sealed k repository number new (keys_before s));
      nothing_else = λ secret bytes left published.
          each_else k s t roots repository (root_text k repository number new (keys_before s)) secret bytes fetched behind (omega (arith, high)) there left (known t repository published.0 bytes published.1);
    }

pub left_out : EmptyIsSound → EmptyIsMade → RunsStaySound → RunsMake → ServedFilesAreKnown → RootsAreFetched → RotationsLeaveOut
unfolding step
left_out empty none_made stay make known fetched k ts us at keys repository given more done =
    let s = run k empty_state ts in
    let item : Timed = record { at = at; command = Rotate keys } in
    let all : AreCommands (ts ++ item ∷ us) = each_of_both (λ (t : Timed). IsTrue (is_command t.command)) ts (item ∷ us) given (refl, more) in
    let made = subst (λ (t : State). IsMade k t (roots_of k empty_state (ts ++ item ∷ us))) (run-append k empty_state ts (item ∷ us)) (make k empty_state (ts ++ item ∷ us) [] all (empty k) (none_made k)) in
    by_decision s (roots_of k empty_state (ts ++ item ∷ us)) (stay k empty_state ts given (empty k)) (decide k s at (Rotate keys)) refl made done
  where
    by_decision : (s : State) (roots : List Root) → IsSound k s → (d : Result Outcome Refusal) → decide k s at (Rotate keys) ≡ d → IsMade k (run k (outcome_of s d).next us) roots → (outcome_of s d).answer ≡ Done
        → IsRotated k s (run k (outcome_of s d).next us) roots repository keys
    by_decision s roots sound (Err e) h made done = cc
    by_decision s roots sound (Ok o) h made done =
        let next_sound : IsSound k o.next = subst (λ (d : Result Outcome Refusal). IsSound k (outcome_of s d).next) h (stay k s (record { at = at; command = Rotate keys } ∷ []) (refl, tt) sound) in
        let first : IsLater s o.next = subst (λ (d : Result Outcome Refusal). IsLater s (outcome_of s d).next) h (grow k s at (Rotate keys)) in
        let further : IsLater o.next (run k o.next us) = grow_on k o.next us in
        rotated k s (run k o.next us) roots at keys o repository known fetched
        (record { sound = sound; sound_later = stay k o.next us more next_sound; later = onward s o.next (run k o.next us) first further; made = made }) (rotate_ok k s at keys o h) further

-- ---- a new reply

abbrev OfLast : Rules → State → Outcome → Type 0
OfLast k s o = (reply : Reply) → o.answer ≡ Replied reply → IsSealedByLast k s reply

reply_sealed : (k : Rules) (s : State) (at : ℕ) (r : Received) → IsSealedByLast k s (reply_of k s at r)
unfolding reply_text
reply_sealed k s at r =
    let m = reply_metadata s (key_set s) r.incoming.manifest.vehicle (version r.vehicle.entries + 1) at (plan_in s r) in
    record { files = role_texts k m; bytes = refl; targets = targets_sealed k m; snapshot = snapshot_sealed k m; timestamp = timestamp_sealed k m }

of_last : (k : Rules) (s : State) (at : ℕ) (body : List ℕ) (o : Outcome) → IsDelivered k s at body o → OfLast k s o
of_last k s at body o is = subst (OfLast k s) is.is (λ reply h.
    let same : reply_of k s at is.received ≡ reply = same_told _ _ h in
    subst (IsSealedByLast k s) same (reply_sealed k s at is.received))
  where
    same_told : (a b : Reply) → Replied a ≡ Replied b → a ≡ b
    same_told a b h = cc

pub new_of_last : NewRepliesAreOfTheLastRoot
unfolding step
new_of_last k ts at body reply given told =
    let s = run k empty_state ts in
    by_decision s (decide k s at (Deliver body)) refl reply told
  where
    by_decision : (s : State) (d : Result Outcome Refusal) → decide k s at (Deliver body) ≡ d → OfLast k s (outcome_of s d)
    by_decision s (Ok o) h = of_last k s at body o (delivery_ok k s at body o h)
    by_decision s (Err e) h = λ reply told. cc
