-- The kept row with a manifest's counter tells whether it is a repeat.
use Rattle.std.proofs.Common.{◌≡◌, ℕ, zero, suc, ◌+◌, ◌≤◌, List, [], ◌∷◌, Bool, true, false, cond, Option, Some, None, Result, Ok, refl, sym, ap, ◌∙◌, subst, arith}
use Rattle.std.specs.Prelude.{◌≢◌, ◌==◌, bytes_eq, option_and_then, option_map, find, slice_get}
use Rattle.std.specs.List.{AllByRecursion, enumerate_from}
use Rattle.std.specs.Cmp.Lexicographic.{bytes_decides}
use Rattle.std.specs.FinMap as table
use Rattle.std.proofs.lemmas.Bool.Decides.{nat_tests}
use Rattle.up_canon.specs.Moments.{last_command_moment}
use Rattle.up_canon.specs.declared.refusal.Refusal.{Refusal}
use Rattle.up_sign.specs.Schemes.{Rules}
use Rattle.up_manifest.specs.declared.manifest.Incoming.{Incoming}
use Rattle.up_manifest.specs.Manifests.{incoming_in}
use Rattle.up_manifest.specs.Laws.{BodiesAreRead, SignedTextsMean}
use Rattle.up_machine.specs.declared.answer.Answer.TheVariants.{Reply as Replied}
use Rattle.up_machine.specs.declared.rows.Kept.{Kept}
use Rattle.up_machine.specs.State.{Entry, Vehicle, State, nth}
use Rattle.up_machine.specs.Deciding.{Outcome}
use Rattle.up_machine.specs.Deliveries.{Received, receive_manifest, receive, decide_received}
use Rattle.up_machine.specs.Repeats.{KeptEntry, repeat_in}
use Rattle.up_machine.specs.Rows.{kept_row, kept_at, reply_kept}
use Rattle.up_machine.specs.Sound.{CountersRise, IsSound}
use Rattle.up_machine.specs.Decisions.{resolve}
use Rattle.up_machine.specs.ManifestRows.{repeated}
use Rattle.up_canon.proofs.Steps.{bind-ok, one_value}
use Rattle.up_machine.proofs.Lists.{none_passes}
use Rattle.up_machine.proofs.Counters.{told_apart}
use Rattle.up_machine.proofs.Places.{nth_at_place, place_of}
use Rattle.up_machine.proofs.Repeating.{found_by_counter, repeat_received}
use Rattle.up_machine.proofs.Fetched.{in_time}

-- ---- an entry by a test

record IsFoundAt (p : Entry → Bool) (n : ℕ) (entries : List Entry) (found : ℕ × Entry) : Type 0 where
  place : ℕ
  number : found.0 ≡ n + place
  there : slice_get entries place ≡ Some found.1
  passes : p found.1 ≡ true

found_at : (p : Entry → Bool) (n : ℕ) (entries : List Entry) (found : ℕ × Entry) → find (λ e. p e.1) (enumerate_from n entries) ≡ Some found → IsFoundAt p n entries found
found_at p n [] found h = cc
found_at p n (e ∷ entries) found h = by_test (p e) refl h (found_at p (n + 1) entries found)
  where
    by_test : (b : Bool) → p e ≡ b → cond b (Some (n, e)) (find (λ e. p e.1) (enumerate_from (n + 1) entries)) ≡ Some found
        → (find (λ e. p e.1) (enumerate_from (n + 1) entries) ≡ Some found → IsFoundAt p (n + 1) entries found) → IsFoundAt p n (e ∷ entries) found
    by_test true is h more =
        let same : ◌≡◌ {A = ℕ × Entry} (n, e) found = cc in
        subst (IsFoundAt p n (e ∷ entries)) same (record { place = 0; number = omega arith; there = refl; passes = is })
    by_test false is h more =
        let rest = more h in
        let number = rest.number in
        record { place = suc rest.place; number = omega arith; there = rest.there; passes = rest.passes }

none_at : (p : Entry → Bool) (n : ℕ) (entries : List Entry) (i : ℕ) (e : Entry) → find (λ e. p e.1) (enumerate_from n entries) ≡ None → slice_get entries i ≡ Some e → p e ≡ false
none_at p n entries i e none there = over n entries i (none_passes _ (enumerate_from n entries) none) there
  where
    over : (n : ℕ) (entries : List Entry) (i : ℕ) → AllByRecursion (λ (x : ℕ × Entry). p x.1 ≡ false) (enumerate_from n entries) → slice_get entries i ≡ Some e → p e ≡ false
    over n [] i all h = cc
    over n (x ∷ entries) zero all h = let same : x ≡ e = cc in ap p (sym same) ∙ all.0
    over n (x ∷ entries) (suc i) all h = over (n + 1) entries i all.1 h

-- ---- the kept row

-- a delivery of the manifest that was received
in_body : (k : Rules) (s : State) (at : ℕ) (incoming : Incoming) (d : Received) (body : List ℕ) → at ≤ last_command_moment → incoming_in body ≡ Ok incoming
    → receive_manifest k s incoming ≡ Ok d → receive k s at body ≡ Ok d
unfolding receive
in_body k s at incoming d body moment reads received = bind-ok _ _ tt (in_time at moment) ∙ bind-ok _ _ incoming reads ∙ received

-- a manifest that was kept is answered its row; another is decided on
abbrev pub resolve_kept : Rules → State → ℕ → Received → Option Kept → Result Outcome Refusal
resolve_kept k s at d (Some row) = Ok (record { answer = Replied (reply_kept row); next = s })
resolve_kept k s at d None = decide_received k s at d

-- what is kept of the manifest's counter
abbrev kept_of_found : Received → Option (ℕ × Entry) → Option Kept
kept_of_found d found = option_map (λ e. kept_row d.incoming.manifest.vehicle e.0 e.1) found

kept_found : (s : State) (d : Received) → table.get s.vehicles d.incoming.manifest.vehicle ≡ Some d.vehicle
    → kept_at s d.incoming.manifest.vehicle d.incoming.manifest.counter ≡ kept_of_found d (find (λ e. e.1.counter == d.incoming.manifest.counter) (enumerate_from 1 d.vehicle.entries))
kept_found s d there =
    ap (option_and_then (λ (v : Vehicle). option_map (λ e. kept_row d.incoming.manifest.vehicle e.0 e.1) (find (λ e. e.1.counter == d.incoming.manifest.counter) (enumerate_from 1 v.entries)))) there

same_number : (a b : ℕ) → (a == b) ≡ true → a ≡ b
same_number a b h = grind (arith, nat_tests)

other_number : (a b : ℕ) → (a == b) ≡ false → a ≡ b → ⊥
other_number a b h same = let apart : a ≢ b = grind (arith, nat_tests) in apart same

-- what the law of repeats says of a delivery
record Tells (k : Rules) (s : State) (d : Received) : Type 0 where
  rising : CountersRise d.vehicle.entries
  there : (r : KeptEntry) → repeat_in d ≡ Some r → (nth d.vehicle.entries r.number ≡ Some r.entry) × (r.entry.counter ≡ d.incoming.manifest.counter) × (r.entry.signed ≡ d.incoming.envelope.signed)
  found : (number : ℕ) (e : Entry) → nth d.vehicle.entries number ≡ Some e → e.signed ≡ d.incoming.envelope.signed → repeat_in d ≡ Some (record { vehicle = d.incoming.manifest.vehicle; number = number; entry = e })

tells : BodiesAreRead → SignedTextsMean → (k : Rules) (s : State) (at : ℕ) (d : Received) (body : List ℕ) → IsSound k s → receive k s at body ≡ Ok d
    → table.get s.vehicles d.incoming.manifest.vehicle ≡ Some d.vehicle → Tells k s d
tells bodies texts k s at d body sound h there =
    let law = found_by_counter bodies texts k s at body d sound h in
    let same = repeat_received k s at body d h in
    record {
      rising = (sound.vehicles d.incoming.manifest.vehicle d.vehicle there).rising;
      there = λ r is. let l = law.0 r (same ∙ is) in (l.0, l.1, l.2);
      found = λ number e at_number text. sym same ∙ law.1 number e at_number text;
    }

no_repeat : (d : Received) (o : Option KeptEntry) → ((r : KeptEntry) → o ≡ Some r → ⊥) → o ≡ None
no_repeat d None none = refl
no_repeat d (Some r) none = absurd (none r refl)

by_found : (k : Rules) (s : State) (at : ℕ) (d : Received) → Tells k s d → (o : Option (ℕ × Entry))
    → find (λ e. e.1.counter == d.incoming.manifest.counter) (enumerate_from 1 d.vehicle.entries) ≡ o
    → resolve k s at d (repeat_in d) ≡ resolve_kept k s at d (repeated d.incoming (kept_of_found d o))
by_found k s at d law None none =
    ap (resolve k s at d) (no_repeat d (repeat_in d) (λ r is.
    let l = law.there r is in
    let place = place_of d.vehicle.entries r.number r.entry l.0 in
    other_number r.entry.counter d.incoming.manifest.counter (none_at (λ e. e.counter == d.incoming.manifest.counter) 1 d.vehicle.entries place.0 r.entry none place.2) l.1))
by_found k s at d law (Some x) some = by_text (bytes_eq x.1.signed d.incoming.envelope.signed) refl
  where
    by_text : (b : Bool) → bytes_eq x.1.signed d.incoming.envelope.signed ≡ b
        → resolve k s at d (repeat_in d) ≡ resolve_kept k s at d (cond b (Some (kept_row d.incoming.manifest.vehicle x.0 x.1)) None)
    by_text true is =
        let found = found_at (λ e. e.counter == d.incoming.manifest.counter) 1 d.vehicle.entries x some in
        ap (resolve k s at d) (law.found x.0 x.1 (nth_at_place d.vehicle.entries x.0 found.place x.1 found.number found.there) ((bytes_decides x.1.signed d.incoming.envelope.signed).0 is))
    by_text false is =
        let found = found_at (λ e. e.counter == d.incoming.manifest.counter) 1 d.vehicle.entries x some in
        ap (resolve k s at d) (no_repeat d (repeat_in d) (λ r at_r.
        let l = law.there r at_r in
        let place = place_of d.vehicle.entries r.number r.entry l.0 in
        let level : x.1.counter ≡ r.entry.counter = same_number x.1.counter d.incoming.manifest.counter found.passes ∙ sym l.1 in
        let same_place = told_apart d.vehicle.entries found.place place.0 x.1 r.entry law.rising found.there place.2 level in
        let same_entry : x.1 ≡ r.entry = one_value (slice_get d.vehicle.entries place.0) x.1 r.entry (ap (slice_get d.vehicle.entries) (sym same_place) ∙ found.there) place.2 in
        let text : bytes_eq x.1.signed d.incoming.envelope.signed ≡ true = (bytes_decides x.1.signed d.incoming.envelope.signed).1 (ap (λ (e : Entry). e.signed) same_entry ∙ l.2) in
        let both : false ≡ true = sym is ∙ text in cc))

pub resolved : BodiesAreRead → SignedTextsMean → (k : Rules) (s : State) (at : ℕ) (d : Received) (body : List ℕ) → IsSound k s → at ≤ last_command_moment → incoming_in body ≡ Ok d.incoming
    → receive_manifest k s d.incoming ≡ Ok d → table.get s.vehicles d.incoming.manifest.vehicle ≡ Some d.vehicle
    → resolve k s at d (repeat_in d) ≡ resolve_kept k s at d (repeated d.incoming (kept_at s d.incoming.manifest.vehicle d.incoming.manifest.counter))
resolved bodies texts k s at d body sound moment reads received there =
    let law = tells bodies texts k s at d body sound (in_body k s at d.incoming d body moment reads received) there in
    by_found k s at d law (find (λ e. e.1.counter == d.incoming.manifest.counter) (enumerate_from 1 d.vehicle.entries)) refl
    ∙ ap (λ o. resolve_kept k s at d (repeated d.incoming o)) (sym (kept_found s d there))
