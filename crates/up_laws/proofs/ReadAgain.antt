-- The files of each reply are read again.
use Rattle.std.proofs.Common.{◌≡◌, ℕ, zero, suc, ◌+◌, ◌*◌, ◌≤◌, List, [], ◌∷◌, Bool, true, false, cond, Option, Some, None, refl, sym, ap, ◌∙◌, arith}
use Rattle.std.specs.Prelude.{◌&&◌, length, filter_map, option_map, nat_le, slice_get, ◌-◌, ◌==◌}
use Rattle.std.specs.List.{list_all, cons_option}
use Rattle.std.specs.FinMap as table
use Rattle.std.proofs.lemmas.Bool.{and_parts}
use Rattle.std.proofs.lemmas.Bool.Decides.{nat_tests}
use Rattle.up_canon.specs.Canon.{max_count, text}
use Rattle.up_canon.specs.Moments.{last_moment, last_command_moment, MomentTextIsPlain}
use Rattle.up_canon.specs.HexText.{is_hash, is_second_hash}
use Rattle.up_canon.specs.Names.{Name, is_ident, is_file_name}
use Rattle.up_canon.proofs.Printable.{both}
use Rattle.up_sign.specs.Laws.{SealedFits}
use Rattle.up_sign.specs.Envelopes.{sealed_envelope}
use Rattle.up_sign.specs.Formats.{envelope_fits}
use Rattle.up_sign.specs.Schemes.{Rules, IsScheme}
use Rattle.up_roles.specs.declared.repository.Repository.TheVariants.{Director}
use Rattle.up_roles.specs.declared.targets.Target.{Target}
use Rattle.up_roles.specs.Laws.{AreSigners, TargetsAreRead, SnapshotsAreRead, TimestampsAreRead}
use Rattle.up_roles.specs.Payload.{largest_file, version_fits, is_moment}
use Rattle.up_roles.specs.Snapshot.{snapshot_payload, snapshot_fits, snapshot_is_typed}
use Rattle.up_roles.specs.Timestamp.{timestamp_payload, timestamp_fits, timestamp_is_typed}
use Rattle.up_roles.specs.Targets.{target_fits, target_is_typed, targets_payload, targets_fits, targets_is_typed}
use Rattle.up_roles.proofs.PlainFiles.{canon_is, targets-canon, snapshot-canon, timestamp-canon}
use Rattle.up_plan.specs.declared.assigned.Assigned.{Assigned}
use Rattle.up_plan.specs.Images.{ImageData}
use Rattle.up_metadata.specs.declared.keys.RoleSecrets.{RoleSecrets}
use Rattle.up_metadata.specs.Keys.{role_fits}
use Rattle.up_metadata.specs.Files.{targets_file, targets_text, snapshot_file, snapshot_text, timestamp_file, timestamp_text}
use Rattle.up_metadata.proofs.Lists.{and_left, and_right}
use Rattle.up_metadata.proofs.RoleFiles.{secrets_fit, secrets_are_few, role_signs, roles_fit}
use Rattle.up_machine.specs.State.{Entry, Vehicle, State, nth, is_taken_in}
use Rattle.up_machine.specs.Files.{target_of}
use Rattle.up_machine.specs.Replies.{assigned_target, reply_metadata}
use Rattle.up_machine.specs.Laws.{VersionsAreCounts}
use Rattle.up_machine.specs.Made.{IsSoundRoot}
use Rattle.up_machine.specs.Sound.{IsGrounded}
use Rattle.up_machine.proofs.Counters.{versions_are_counts}
use Rattle.up_machine.proofs.DirectorTargets.{fits}
use Rattle.up_machine.proofs.Keeping.{nth_at}
use Rattle.up_machine.proofs.NewFiles.{version_in_limits}
use Rattle.up_laws.specs.Plans.{HasOwnPlans, IsPlanFor}
use Rattle.up_laws.specs.Typed.{image_is_typed, IsTyped}
use Rattle.up_laws.specs.Readings.{AreReadAgain, RepliesAreReadAgain}
use Rattle.up_laws.proofs.OwnPlans.{replies_name_once}
use Rattle.up_laws.proofs.StayingTyped.{taken_is_ident}
use Rattle.up_laws.proofs.Digests.{is_digest}
use Rattle.up_laws.proofs.SmallFiles.{targets-length, snapshot-length, timestamp-length}

-- ---- each target

-- what a target of each registered image passes, for an ECU that passes, the targets of a reply pass
targets_pass : (s : State) (p : Name → Bool) (q : Target → Bool) (assigned : List Assigned)
    → ((file : Name) (image : ImageData) (ecu : Name) → table.get s.images file ≡ Some image → p ecu ≡ true → q (target_of (Some ecu) image) ≡ true)
    → list_all (λ (a : Assigned). p a.ecu) assigned ≡ true → list_all q (filter_map (assigned_target s) assigned) ≡ true
targets_pass s p q [] each h = refl
targets_pass s p q (a ∷ assigned) each h = by_image (table.get s.images a.file) refl (and_left _ _ h) (targets_pass s p q assigned each (and_right (p a.ecu) _ h))
  where
    by_image : (o : Option ImageData) → table.get s.images a.file ≡ o → p a.ecu ≡ true → list_all q (filter_map (assigned_target s) assigned) ≡ true
        → list_all q (cons_option (option_map (target_of (Some a.ecu)) o) (filter_map (assigned_target s) assigned)) ≡ true
    by_image None found here rest = rest
    by_image (Some image) found here rest = rw (each a.file image a.ecu found here, rest)

-- an image that is typed makes a target that is, for an ECU that is
typed_target : (ecu : Name) (image : ImageData) → is_ident ecu ≡ true → image_is_typed image ≡ true → target_is_typed (target_of (Some ecu) image) ≡ true
typed_target ecu image named typed =
    let p0 : Bool = is_file_name image.file in
    let p1 : Bool = p0 && nat_le image.length max_count in
    let p2 : Bool = p1 && is_hash image.sha256 in
    let p3 : Bool = p2 && is_second_hash image.sha512 in
    let p4 : Bool = p3 && list_all is_ident image.hardware in
    let release = and_parts p4 (nat_le image.release max_count) typed in
    let hardware = and_parts p3 (list_all is_ident image.hardware) release.0 in
    let second = and_parts p2 (is_second_hash image.sha512) hardware.0 in
    let hash = and_parts p1 (is_hash image.sha256) second.0 in
    let size = and_parts p0 (nat_le image.length max_count) hash.0 in
    both _ _ (both _ _ (both _ _ (both _ _ (both _ _ (both _ _ named size.0) size.1) hash.1) second.1) hardware.1) release.1

-- ---- the file

at_most : {A : Type 0} (xs : List A) (i : ℕ) (x : A) → slice_get xs i ≡ Some x → suc i ≤ length xs
at_most [] i x h = cc
at_most (y ∷ xs) zero x h = omega arith
at_most (y ∷ xs) (suc i) x h = let rest = at_most xs i x h in omega (arith, rest)

numbered : {A : Type 0} (xs : List A) (i : ℕ) (x : A) → nth xs i ≡ Some x → (1 ≤ i) × (i ≤ length xs)
numbered xs i x h = by_test (i == 0) refl h
  where
    by_test : (b : Bool) → (i == 0) ≡ b → cond b None (slice_get xs (i - 1)) ≡ Some x → (1 ≤ i) × (i ≤ length xs)
    by_test true is h = cc
    by_test false is h =
        let low : 1 ≤ i = grind (arith, nat_tests) in
        let high = at_most xs (i - 1) x h in
        (low, omega (arith, low, high))

in_time : (at : ℕ) → at ≤ last_command_moment → nat_le (at + 7 * 86400) last_moment ≡ true
in_time at h = grind (arith, nat_tests)

-- the keys of a role that fits sign, few of them
signers_of : (k : Rules) (role : RoleSecrets) → IsScheme k → role_fits k role ≡ true → AreSigners k role.keys
signers_of k role law fits =
    let signs = role_signs k role fits in
    let few = secrets_are_few k role signs in
    record { scheme = law; fit = secrets_fit k role signs; some = few.0; few = few.1 }

sealed_by : SealedFits → (k : Rules) (secrets : List (List ℕ)) (signed : List ℕ) → AreSigners k secrets → envelope_fits (sealed_envelope k secrets signed) ≡ true
sealed_by seals k secrets signed signers = (seals k secrets signed signers.scheme signers.fit signers.some signers.few).0

pub read_again : MomentTextIsPlain → SealedFits → TargetsAreRead → SnapshotsAreRead → TimestampsAreRead → RepliesAreReadAgain
unfolding targets_text snapshot_text timestamp_text
read_again moments seals targets_read snapshots_read timestamps_read k s roots vehicle v number e root law sound typed own made there entry rooted =
    let m = reply_metadata s root.keys vehicle number e.at e.plan in
    let name = typed.vehicles vehicle v there in
    let plan = nth_at (λ (e : Entry). IsPlanFor v e.plan) v.entries number e (own vehicle v there) entry in
    let grounded = nth_at (IsGrounded s) v.entries number e (sound.vehicles vehicle v there).grounded entry in
    let of = replies_name_once s root.keys vehicle v number e own there entry in
    let place = numbered v.entries number e entry in
    let counts = versions_are_counts k s vehicle v sound there in
    let high : number ≤ max_count = omega (arith, place.1, counts.0, counts.1) in
    let version : version_fits number ≡ true = version_in_limits number place.0 high in
    let expires : is_moment (e.at + 7 * 86400) ≡ true = in_time e.at grounded.moment in
    let roles = roles_fit k root.keys.director (and_left _ _ (nth_at (IsSoundRoot k) roots e.root root made.each_root rooted).keys) in
    let each_fits : list_all (target_fits Director) m.targets ≡ true =
    targets_pass s (λ n. is_taken_in n v) (target_fits Director) e.plan.assigned
    (λ f image ecu found taken. fits ecu image (sound.repositories.each_image f image found).fits) plan.known in
    let each_typed : list_all target_is_typed m.targets ≡ true =
    targets_pass s (λ n. is_taken_in n v) target_is_typed e.plan.assigned
    (λ f image ecu found taken. typed_target ecu image (taken_is_ident vehicle v name ecu taken) (typed.images f image found)) plan.known in
    record {
      targets =
          let file = targets_file m in
          let signers = signers_of k root.keys.director.targets law roles.1 in
          let fit : targets_fits file ≡ true = both _ _ (both _ _ (both _ _ version refl) each_fits) of.once in
          let kept : targets_is_typed file ≡ true = both _ _ (both _ _ expires name.named) each_typed in
          let size = targets-length moments k root.keys.director.targets.keys file (sealed_by seals k root.keys.director.targets.keys (text (targets_payload file)) signers) fit kept of.few in
          let small : length (targets_text k m) ≤ largest_file = omega (arith, size) in
          record {
            canonical = canon_is (targets_payload file) (targets-canon file fit kept);
            small = small;
            read = targets_read k root.keys.director.targets.keys file signers fit kept small;
          };
      snapshot =
          let file = snapshot_file m in
          let signers = signers_of k root.keys.director.snapshot law roles.2 in
          let fit : snapshot_fits file ≡ true = both _ _ (both _ _ version refl) version in
          let kept : snapshot_is_typed file ≡ true = both _ _ expires name.named in
          let size = snapshot-length moments k root.keys.director.snapshot.keys file (sealed_by seals k root.keys.director.snapshot.keys (text (snapshot_payload file)) signers) fit kept in
          let small : length (snapshot_text k m) ≤ largest_file = omega (arith, size) in
          record {
            canonical = canon_is (snapshot_payload file) (snapshot-canon file fit kept);
            small = small;
            read = snapshots_read k root.keys.director.snapshot.keys file signers fit kept small;
          };
      timestamp =
          let file = timestamp_file k m in
          let signers = signers_of k root.keys.director.timestamp law roles.3 in
          let fit : timestamp_fits file ≡ true = both _ _ (both _ _ version refl) version in
          let kept : timestamp_is_typed file ≡ true = both _ _ (both _ _ expires name.named) (is_digest (snapshot_text k m)) in
          let size = timestamp-length moments k root.keys.director.timestamp.keys file (sealed_by seals k root.keys.director.timestamp.keys (text (timestamp_payload file)) signers) fit kept in
          let small : length (timestamp_text k m) ≤ largest_file = omega (arith, size) in
          record {
            canonical = canon_is (timestamp_payload file) (timestamp-canon file fit kept);
            small = small;
            read = timestamps_read k root.keys.director.timestamp.keys file signers fit kept small;
          };
    }
