-- Published files verify under the published Roots.
use Rattle.std.proofs.Common.{◌≡◌, ℕ, ◌+◌, ◌-◌, ◌≤◌, List, [], ◌∷◌, true, Option, Some, None, Ok, inl, inr, length, map, refl, sym, ap, ◌∙◌, subst, arith}
use Rattle.std.specs.Prelude.{◌⊎◌, IfSome, IsTrue, bytes_eq, is_some, nat_le, option_map}
use Rattle.std.specs.List.{list_all, list_any}
use Rattle.std.specs.FinMap as table
use Rattle.std.proofs.lemmas.Bool.{leb-true}
use Rattle.up_canon.specs.Canon.{max_count, text}
use Rattle.up_canon.specs.Moments.{MomentTextIsPlain}
use Rattle.up_canon.specs.Names.{Name}
use Rattle.up_canon.proofs.Steps.{and_then_some, map_some}
use Rattle.up_sign.specs.Envelopes.{sealed_envelope}
use Rattle.up_sign.specs.Schemes.{Rules, IsScheme}
use Rattle.up_sign.specs.declared.envelope.Envelope.{Envelope}
use Rattle.up_roles.specs.declared.repository.Repository.{Repository}
use Rattle.up_roles.specs.declared.repository.Repository.TheVariants.{Director, Image}
use Rattle.up_roles.specs.declared.root.RootKey.{RootKey}
use Rattle.up_roles.specs.Payload.{largest_file, sealed_text}
use Rattle.up_roles.specs.Root.{root_payload, root_in, root_text_of}
use Rattle.up_roles.specs.Snapshot.{snapshot_payload}
use Rattle.up_roles.specs.Targets.{targets_payload}
use Rattle.up_roles.specs.Timestamp.{timestamp_payload}
use Rattle.up_roles.specs.Writing.{CanSeal}
use Rattle.up_laws.proofs.SmallFiles.{envelope-length}
use Rattle.up_laws.specs.Readings.{AreReadAgain, RepliesAreReadAgain}
use Rattle.up_metadata.specs.declared.keys.RoleSecrets.{RoleSecrets}
use Rattle.up_metadata.specs.declared.keys.KeySet.{KeySet}
use Rattle.up_metadata.specs.declared.role_files.RoleTexts.{RoleTexts}
use Rattle.up_metadata.specs.Files.{Root, keys_of, root_key, role_keys, root_secrets, root_signers, root_file, root_text, MetadataSet, targets_file, snapshot_file, timestamp_file, role_texts}
use Rattle.up_metadata.specs.Keys.{role_fits, repository_fits}
use Rattle.up_metadata.specs.Signed.{HasFittingKeys}
use Rattle.up_metadata.proofs.Lists.{and_right}
use Rattle.up_metadata.proofs.RoleFiles.{role_signs, secrets_fit, keys_are_few, roles_fit}
use Rattle.up_metadata.proofs.RootFiles.{AreFew, root_file_is_fit, signers_seal}
use Rattle.up_machine.specs.Files.{image_metadata}
use Rattle.up_machine.specs.Machine.{run}
use Rattle.up_machine.specs.Made.{keys_at, IsReplyMade, IsMade, roots_of}
use Rattle.up_machine.specs.Replies.{reply_metadata, reply_to}
use Rattle.up_machine.specs.SignedLaws.{IsRootText, IsImageText, IsServedText, ServedFilesAreKnown}
use Rattle.up_machine.specs.Sound.{IsSound}
use Rattle.up_machine.specs.State.{Entry, Vehicle, State, empty_state, nth, is_founded, chain_of, root_number, image_root_number}
use Rattle.up_machine.proofs.MadeRoots.{made_root, last_there}
use Rattle.up_machine.proofs.NewFiles.{version_in_limits}
use Rattle.up_machine.proofs.Places.{nth_there}
use Rattle.up_primary.specs.Following.{KeysAgree}
use Rattle.up_primary.specs.Laws.{ImageFilesAreReadAgain, RootsAreFetched}
use Rattle.up_primary.proofs.ManyRoots.{number_within}
use Rattle.up_primary.proofs.NextRoot.{Known, IsRoot as CanBeServed, among_own, among_old, among_itself, expires_in_time}
use Rattle.up_primary.proofs.RootSizes.{payload-length}
use Rattle.up_primary.proofs.Serving.{repository_keys_fit, from_one, sound_root, few_roots, chain_size}
use Rattle.up_uptane.specs.Verifying.{shown_key, IsSignedUnder, IsRoot, RootsVerify, TargetsVerify, SnapshotVerifies, TimestampVerifies, IsNumbered, FilesVerify, ReplyVerifies, RepliesVerify}
use Rattle.up_uptane.proofs.Reaching.{Reaching, Reached, reach}

-- ---- signatures

shown_are : (k : Rules) (secrets : List (List ℕ)) → map (shown_key k) (map k.public_of secrets) ≡ map (root_key k) secrets
shown_are k [] = refl
shown_are k (s ∷ secrets) = ap (λ (rest : List RootKey). root_key k s ∷ rest) (shown_are k secrets)

-- a role that fits, each of whose keys is among the signers
signed_under : (k : Rules) → Known k → (role : RoleSecrets) (signers : List (List ℕ)) (signed : List ℕ) → role_fits k role ≡ true
    → list_all (λ s. list_any (bytes_eq s) signers) role.keys ≡ true → IsSignedUnder k (role_keys k role) (sealed_envelope k signers signed)
signed_under k known role signers signed fits among =
    let meets : nat_le role.threshold (length role.keys) ≡ true = and_right (nat_le 1 role.threshold) _ (and_right _ _ fits) in
    record {
      publics = map k.public_of role.keys;
      shown = shown_are k role.keys;
      accepted = known.accepts k role.keys signers signed role.threshold known.scheme (secrets_fit k role (role_signs k role fits)) among (leb-true _ _ meets);
    }

-- ---- a Root's text

old_are_few : (k : Rules) (repository : Repository) (before : Option KeySet) → IfSome before (HasFittingKeys k repository) → AreFew k (root_secrets repository before)
old_are_few k repository None h = record { fit = refl; few = omega arith }
old_are_few k repository (Some b) h =
    let old = (keys_of repository b).root in
    let signs = role_signs k old (roles_fit k (keys_of repository b) h).0 in
    record { fit = secrets_fit k old signs; few = (keys_are_few k old signs).1 }

seal_of : (k : Rules) (repository : Repository) (root : Root) (before : Option KeySet) → repository_fits k (keys_of repository root.keys) ≡ true → IfSome before (HasFittingKeys k repository)
    → CanSeal k (root_signers repository root before)
seal_of k repository root before fits h = signers_seal k (keys_of repository root.keys).root (root_secrets repository before) (roles_fit k (keys_of repository root.keys) fits).0 (old_are_few k repository before h)

root_is_small : MomentTextIsPlain → (k : Rules) → Known k → (repository : Repository) (i : ℕ) (root : Root) (before : Option KeySet) → CanBeServed k repository i root
    → CanSeal k (root_signers repository root before) → length (root_text k repository i root before) ≤ largest_file
unfolding root_text root_text_of sealed_text
root_is_small plain k known repository i root before is seal =
    let payload = text (root_payload (root_file k repository i root)) in
    let fits = (known.seals k (root_signers repository root before) payload known.scheme seal.fit seal.number.0 seal.number.1).0 in
    let size = payload-length plain (root_file k repository i root) (root_file_is_fit k known.scheme known.seals repository i root is.number is.fits) (expires_in_time k repository i root is.moment) in
    let whole = envelope-length (sealed_envelope k (root_signers repository root before) payload) 60_000 fits size in
    omega (arith, whole)

envelope_of : (k : Rules) (repository : Repository) (i : ℕ) (root : Root) (before : Option KeySet) → Envelope
envelope_of k repository i root before = sealed_envelope k (root_signers repository root before) (text (root_payload (root_file k repository i root)))

root_is_read : MomentTextIsPlain → (k : Rules) → Known k → (repository : Repository) (i : ℕ) (root : Root) (before : Option KeySet) → CanBeServed k repository i root
    → CanSeal k (root_signers repository root before) → root_in (root_text k repository i root before) ≡ Ok (root_file k repository i root, envelope_of k repository i root before)
unfolding root_text envelope_of
root_is_read plain k known repository i root before is seal =
    known.roots_read k (root_signers repository root before) (root_file k repository i root)
    (record { scheme = known.scheme; fit = seal.fit; some = seal.number.0; few = seal.number.1 })
    (root_file_is_fit k known.scheme known.seals repository i root is.number is.fits) (expires_in_time k repository i root is.moment) is.agree
    (root_is_small plain k known repository i root before is seal)

-- ---- the Roots of a state

-- what is known of a state, whose root versions are these
record Stands (k : Rules) (s : State) (roots : List Root) : Type 0 where
  known : Known k
  plain : MomentTextIsPlain
  fetched : RootsAreFetched
  sound : IsSound k s
  made : IsMade k s roots
  agree : KeysAgree k roots

can_be_served : (k : Rules) (s : State) (roots : List Root) → Stands k s roots → (repository : Repository) (i : ℕ) (root : Root) → nth roots i ≡ Some root → CanBeServed k repository i root
can_be_served k s roots stands repository i root there =
    let is = sound_root k s roots i root stands.made there in
    let low = from_one roots i root there in
    let high = number_within roots i root there in
    let limit = few_roots k s roots stands.sound stands.made in
    let far : i ≤ max_count = omega (arith, high, limit) in
    record { fits = repository_keys_fit k repository root.keys is.keys; moment = is.moment; number = version_in_limits i low far; agree = stands.agree repository i root there }

before_fits : (k : Rules) (s : State) (roots : List Root) → Stands k s roots → (repository : Repository) (i : ℕ) (o : Option Root) → nth roots i ≡ o
    → IfSome (option_map (λ (root : Root). root.keys) o) (HasFittingKeys k repository)
before_fits k s roots stands repository i None is = tt
before_fits k s roots stands repository i (Some before) is = (can_be_served k s roots stands repository i before is).fits

seal_at : (k : Rules) (s : State) (roots : List Root) → Stands k s roots → (repository : Repository) (i : ℕ) (root : Root) → nth roots i ≡ Some root → CanSeal k (root_signers repository root (keys_at roots (i - 1)))
seal_at k s roots stands repository i root there =
    seal_of k repository root (keys_at roots (i - 1)) (can_be_served k s roots stands repository i root there).fits (before_fits k s roots stands repository (i - 1) (nth roots (i - 1)) refl)

envelope_at : (k : Rules) (roots : List Root) (repository : Repository) (i : ℕ) (root : Root) → Envelope
envelope_at k roots repository i root = envelope_of k repository i root (keys_at roots (i - 1))

root_is : (k : Rules) (s : State) (roots : List Root) → Stands k s roots → (repository : Repository) (i : ℕ) (root : Root) → nth roots i ≡ Some root
    → IsRoot s repository i (root_file k repository i root) (envelope_at k roots repository i root)
unfolding envelope_at
root_is k s roots stands repository i root there = record {
  bytes = root_text k repository i root (keys_at roots (i - 1));
  published = stands.fetched k s repository i (root_text k repository i root (keys_at roots (i - 1))) stands.sound (made_root k s roots repository i root stands.made there);
  read = root_is_read stands.plain k stands.known repository i root (keys_at roots (i - 1)) (can_be_served k s roots stands repository i root there) (seal_at k s roots stands repository i root there);
  of_repository = refl;
  number = refl;
}

own_signed : (k : Rules) (s : State) (roots : List Root) → Stands k s roots → (repository : Repository) (i : ℕ) (root : Root) → nth roots i ≡ Some root
    → IsSignedUnder k (root_file k repository i root).root (envelope_at k roots repository i root)
unfolding envelope_at envelope_of
own_signed k s roots stands repository i root there =
    let keys = keys_of repository root.keys in
    signed_under k stands.known keys.root (root_signers repository root (keys_at roots (i - 1))) (text (root_payload (root_file k repository i root)))
    (roles_fit k keys (can_be_served k s roots stands repository i root there).fits).0 (among_own keys.root.keys _)

next_signed : (k : Rules) (s : State) (roots : List Root) → Stands k s roots → (repository : Repository) (i : ℕ) (root next : Root) → nth roots i ≡ Some root → nth roots (i + 1) ≡ Some next
    → IsSignedUnder k (root_file k repository i root).root (envelope_at k roots repository (i + 1) next)
unfolding envelope_at envelope_of
next_signed k s roots stands repository i root next there there_next =
    let keys = keys_of repository root.keys in
    let own = (keys_of repository next.keys).root.keys in
    let signed = text (root_payload (root_file k repository (i + 1) next)) in
    let same : keys_at roots (i + 1 - 1) ≡ Some root.keys = ap (λ (n : ℕ). keys_at roots n) (omega arith) ∙ ap (option_map (λ (r : Root). r.keys)) there in
    subst (λ (o : Option KeySet). IsSignedUnder k (role_keys k keys.root) (sealed_envelope k (root_signers repository next o) signed)) (sym same)
    (signed_under k stands.known keys.root (root_signers repository next (Some root.keys)) signed (roles_fit k keys (can_be_served k s roots stands repository i root there).fits).0
    (among_old own keys.root.keys keys.root.keys (among_itself keys.root.keys)))

-- what the laws need of every run
pub record Formats : Type 0 where
  pub seals : Rattle.up_sign.specs.Laws.SealedFits
  pub accepts : Rattle.up_sign.specs.Laws.SealedIsAccepted
  pub roots_read : Rattle.up_roles.specs.Laws.RootsAreRead
  pub plain : MomentTextIsPlain
  pub fetched : RootsAreFetched

stands : Formats → (k : Rules) (s : State) (roots : List Root) → IsScheme k → Reached k s roots → KeysAgree k roots → Stands k s roots
stands formats k s roots law at agree = record {
  known = record { scheme = law; seals = formats.seals; accepts = formats.accepts; roots_read = formats.roots_read };
  plain = formats.plain;
  fetched = formats.fetched;
  sound = at.sound;
  made = at.made;
  agree = agree;
}

pub roots_verify : Formats → Reaching → RootsVerify
roots_verify formats keeping k ts repository i law given agree low high =
    let s = run k empty_state ts in
    let roots = roots_of k empty_state ts in
    let is = stands formats k s roots law (reach keeping k ts given) agree in
    let size = chain_size k s roots repository is.made in
    let at = nth_there roots i low (omega (arith, high, size)) in (
      record {
        root = root_file k repository i at.0;
        envelope = envelope_at k roots repository i at.0;
        is = root_is k s roots is repository i at.0 at.1;
        signed = own_signed k s roots is repository i at.0 at.1;
      },
      λ below.
          let next = nth_there roots (i + 1) (omega arith) (omega (arith, below, size)) in
          record {
            root = root_file k repository i at.0;
            envelope = envelope_at k roots repository i at.0;
            is = root_is k s roots is repository i at.0 at.1;
            next = root_file k repository (i + 1) next.0;
            next_envelope = envelope_at k roots repository (i + 1) next.0;
            is_next = root_is k s roots is repository (i + 1) next.0 next.1;
            signed = next_signed k s roots is repository i at.0 next.0 at.1 next.1;
          },
    )

-- ---- the other files

-- the three files of a set of the root's keys
record SetVerifies (k : Rules) (s : State) (repository : Repository) (i : ℕ) (texts : RoleTexts) : Type 0 where
  targets : TargetsVerify k s repository i texts.targets
  snapshot : SnapshotVerifies k s repository i texts.snapshot
  timestamp : TimestampVerifies k s repository i texts.timestamp

set_verifies : (k : Rules) (s : State) (roots : List Root) → Stands k s roots → (m : MetadataSet) (i : ℕ) (root : Root) → nth roots i ≡ Some root → m.keys ≡ root.keys → AreReadAgain k m
    → SetVerifies k s m.repository i (role_texts k m)
set_verifies k s roots stands m i root there same again =
    let keys = keys_of m.repository m.keys in
    let fits : repository_fits k keys ≡ true = ap (λ (ks : KeySet). repository_fits k (keys_of m.repository ks)) same ∙ (can_be_served k s roots stands m.repository i root there).fits in
    let roles = roles_fit k keys fits in
    let under = root_is k s roots stands m.repository i root there in
    record {
      targets = record {
        content = targets_file m;
        envelope = sealed_envelope k keys.targets.keys (text (targets_payload (targets_file m)));
        read = again.targets.read;
        of_repository = refl;
        root = root_file k m.repository i root;
        root_envelope = envelope_at k roots m.repository i root;
        under = under;
        signed = subst (λ (ks : KeySet). IsSignedUnder k (role_keys k (keys_of m.repository ks).targets) (sealed_envelope k keys.targets.keys (text (targets_payload (targets_file m))))) same
            (signed_under k stands.known keys.targets keys.targets.keys (text (targets_payload (targets_file m))) roles.1 (among_itself keys.targets.keys));
      };
      snapshot = record {
        content = snapshot_file m;
        envelope = sealed_envelope k keys.snapshot.keys (text (snapshot_payload (snapshot_file m)));
        read = again.snapshot.read;
        of_repository = refl;
        root = root_file k m.repository i root;
        root_envelope = envelope_at k roots m.repository i root;
        under = under;
        signed = subst (λ (ks : KeySet). IsSignedUnder k (role_keys k (keys_of m.repository ks).snapshot) (sealed_envelope k keys.snapshot.keys (text (snapshot_payload (snapshot_file m))))) same
            (signed_under k stands.known keys.snapshot keys.snapshot.keys (text (snapshot_payload (snapshot_file m))) roles.2 (among_itself keys.snapshot.keys));
      };
      timestamp = record {
        content = timestamp_file k m;
        envelope = sealed_envelope k keys.timestamp.keys (text (timestamp_payload (timestamp_file k m)));
        read = again.timestamp.read;
        of_repository = refl;
        root = root_file k m.repository i root;
        root_envelope = envelope_at k roots m.repository i root;
        under = under;
        signed = subst (λ (ks : KeySet). IsSignedUnder k (role_keys k (keys_of m.repository ks).timestamp) (sealed_envelope k keys.timestamp.keys (text (timestamp_payload (timestamp_file k m))))) same
            (signed_under k stands.known keys.timestamp keys.timestamp.keys (text (timestamp_payload (timestamp_file k m))) roles.3 (among_itself keys.timestamp.keys));
      };
    }

numbered_is : (k : Rules) (s : State) (roots : List Root) → Stands k s roots → (repository : Repository) (bytes : List ℕ) → IsRootText s repository bytes → IsNumbered s repository bytes
numbered_is k s roots stands repository bytes is =
    record {
      number = is.0;
      from = from_one (chain_of repository s).texts is.0 bytes is.1;
      to = number_within (chain_of repository s).texts is.0 bytes is.1;
      is = stands.fetched k s repository is.0 bytes stands.sound is.1;
    }

abbrev Comes : Rules → State → Repository → List ℕ → Type 0
Comes k s repository bytes =
    IsNumbered s repository bytes
    ⊎ ((repository ≡ Image) × (TargetsVerify k s Image (image_root_number s) bytes ⊎ (SnapshotVerifies k s Image (image_root_number s) bytes ⊎ TimestampVerifies k s Image (image_root_number s) bytes)))

image_verifies : (k : Rules) (s : State) (roots : List Root) → Stands k s roots → (IsTrue (is_founded s) → AreReadAgain k (image_metadata s)) → (bytes : List ℕ) → IsImageText s bytes → Comes k s Image bytes
image_verifies k s roots stands again bytes is =
    let founded : is_founded s ≡ true = ap is_some is.1 in
    let last = last_there k s roots stands.made founded in
    let there : nth roots (image_root_number s) ≡ Some last.0 = ap (nth roots) (chain_size k s roots Image stands.made) ∙ last.1 in
    let whole = set_verifies k s roots stands (image_metadata s) (image_root_number s) last.0 there (sym last.2) (again founded) in
    let set : SetVerifies k s Image (image_root_number s) is.0 = subst (SetVerifies k s Image (image_root_number s)) (sym (stands.made.files is.0 is.1)) whole in
    elim is.2 [
      | inl same ↦ inr (refl, inl (subst (TargetsVerify k s Image (image_root_number s)) (sym same) set.targets))
      | inr (inl same) ↦ inr (refl, inr (inl (subst (SnapshotVerifies k s Image (image_root_number s)) (sym same) set.snapshot)))
      | inr (inr same) ↦ inr (refl, inr (inr (subst (TimestampVerifies k s Image (image_root_number s)) (sym same) set.timestamp)))
    ]

comes : (k : Rules) (s : State) (roots : List Root) → Stands k s roots → (IsTrue (is_founded s) → AreReadAgain k (image_metadata s))
    → (repository : Repository) (bytes : List ℕ) → IsServedText s repository bytes → Comes k s repository bytes
comes k s roots stands again Director bytes is = inl (numbered_is k s roots stands Director bytes is)
comes k s roots stands again Image bytes (inl is) = inl (numbered_is k s roots stands Image bytes is)
comes k s roots stands again Image bytes (inr is) = image_verifies k s roots stands again bytes is

pub files_verify : Formats → Reaching → ServedFilesAreKnown → ImageFilesAreReadAgain → FilesVerify
files_verify formats keeping served again k ts repository name bytes law given agree published =
    let s = run k empty_state ts in
    let roots = roots_of k empty_state ts in
    let at = reach keeping k ts given in
    comes k s roots (stands formats k s roots law at agree) (λ founded. again k s law at.sound at.typed founded) repository bytes (served s repository name bytes published)

-- ---- replies

reply_verifies : (k : Rules) (s : State) (roots : List Root) → Stands k s roots → RepliesAreReadAgain → Reached k s roots → (vehicle : Name) (v : Vehicle) (number : ℕ) (e : Entry)
    → table.get s.vehicles vehicle ≡ Some v → nth v.entries number ≡ Some e → ReplyVerifies k s (reply_to vehicle number e)
reply_verifies k s roots stands again at vehicle v number e there entry =
    let made : IsReplyMade k s roots vehicle number e = at.made.replies vehicle v number e there entry in
    let m = reply_metadata s made.root.keys vehicle number e.at e.plan in
    let set = set_verifies k s roots stands m e.root made.root made.there refl (again k s roots vehicle v number e made.root stands.known.scheme at.sound at.typed at.own at.made there entry made.there) in
    let high = number_within roots e.root made.root made.there in
    let size : root_number s ≡ length roots = chain_size k s roots Director at.made in
    record {
      root = e.root;
      from = from_one roots e.root made.root made.there;
      to = omega (arith, high, size);
      files = role_texts k m;
      bytes = made.made;
      targets = set.targets;
      snapshot = set.snapshot;
      timestamp = set.timestamp;
    }

pub replies_verify : Formats → Reaching → RepliesAreReadAgain → RepliesVerify
replies_verify formats keeping again k ts vehicle number reply law given agree kept =
    let s = run k empty_state ts in
    let roots = roots_of k empty_state ts in
    let at = reach keeping k ts given in
    let found = and_then_some (λ (v : Vehicle). option_map (reply_to vehicle number) (nth v.entries number)) (table.get s.vehicles vehicle) reply kept in
    let entry = map_some (reply_to vehicle number) (nth found.0.entries number) reply found.2 in
    subst (ReplyVerifies k s) entry.2 (reply_verifies k s roots (stands formats k s roots law at agree) again at vehicle found.0 number entry.0 found.1 entry.1)
