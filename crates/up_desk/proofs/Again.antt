-- A delivery that comes again acts once.
use Rattle.std.proofs.Common.{◌≡◌, ◌⊎◌, inl, inr, ℕ, ◌+◌, ◌<◌, ◌≤◌, List, [], ◌∷◌, ◌++◌, Bool, true, false, not, Option, Some, None, Result, Ok, length, refl, sym, ap, ◌∙◌, subst, arith, IsTrue}
use Rattle.std.specs.Prelude.{◌==◌, ◌||◌, option_map, option_and_then, unwrap_or, find, filter, bytes_eq}
use Rattle.std.specs.List.{AllByRecursion, enumerate_from}
use Rattle.std.specs.Cmp.Lexicographic.{bytes_decides}
use Rattle.std.specs.FinMap as table
use Rattle.std.proofs.Math.Logic.{∥∥₁_map}
use Rattle.std.proofs.lemmas.Bool.{or_parts}
use Rattle.std.proofs.lemmas.List.{length-append}
use Rattle.sqlite_disk.specs.declared.Disk.{Ghosts as DiskGhosts}
use Rattle.sqlite.specs.Files.{over_files, file_state}
use Rattle.sqlite.specs.Held.{Held, state}
use Rattle.sqlite.specs.State.{HasCleanDisk}
use Rattle.sqlite.specs.Tree.{Trees}
use Rattle.sqlite_trees.specs.declared.store.Store.{Ghosts}
use Rattle.up_canon.specs.Moments.{last_command_moment}
use Rattle.up_canon.specs.Names.{Name}
use Rattle.up_canon.specs.Steps.{unless, or_error, value_of}
use Rattle.up_canon.specs.declared.refusal.Refusal.{Refusal}
use Rattle.up_canon.specs.declared.refusal.Refusal.TheVariants.{UnknownVehicle, WrongPrimary, BadManifestSignature, NotFounded}
use Rattle.up_canon.proofs.Steps.{bind-ok, first_ok, same_ok}
use Rattle.up_sign.specs.Schemes.{Rules}
use Rattle.up_manifest.specs.declared.manifest.Incoming.{Incoming}
use Rattle.up_manifest.specs.Manifests.{incoming_in}
use Rattle.up_machine.specs.declared.command.Command.{Command}
use Rattle.up_machine.specs.declared.command.Command.TheVariants.{Found, Rotate, AddImage, Refresh, AddVehicle, ReplaceEcu, OpenCampaign, CloseCampaign, Deliver, Fetch}
use Rattle.up_machine.specs.declared.answer.Answer.TheVariants.{Refused}
use Rattle.up_machine.specs.State.{Entry, Vehicle, State, is_founded, nth, version}
use Rattle.up_machine.specs.Deciding.{Outcome, already}
use Rattle.up_machine.specs.Deliveries.{Received, receive_manifest, receive, is_signed_by, check_new, entry_of, accepted, decide_received, decide_delivery}
use Rattle.up_machine.specs.Machine.{decide, outcome_of, step}
use Rattle.up_machine.specs.RepeatLaws.{RepeatsAreStale, CountersFindRepeats, ServedIsThinned, ServedStaysSound}
use Rattle.up_machine.specs.Repeats.{KeptEntry, Sent, entry_signed, repeat_in, repeat_of, served_as, serve, meet, after, thinned, vehicle_of, delivers_own}
use Rattle.up_machine.specs.Sound.{IsSound}
use Rattle.up_machine.proofs.Decided.{IsDelivered as HasDelivered, found_ok, rotate_ok, image_ok, refresh_ok, vehicle_ok, replace_ok, open_ok, close_ok, delivery_ok, fetch_ok}
use Rattle.up_machine.proofs.Growing.{by_decision}
use Rattle.up_machine.proofs.Lists.{none_passes}
use Rattle.up_machine.proofs.Receiving.{received, manifest_received}
use Rattle.up_machine.proofs.Tables.{get_same, get_other, kept_by_insert}
use Rattle.up_machine.proofs.Effects.{serve_repeat}
use Rattle.up_machine.proofs.Places.{nth_last}
use Rattle.up_machine.proofs.Fetched.{in_time}
use Rattle.up_rows.specs.StateRows.{rows_of_state}
use Rattle.up_store.specs.Connections.{KeepsState}
use Rattle.up_desk.proofs.Founded.{run_founded}
use Rattle.up_desk.specs.Laws.{ActsOnce, replaced_in, replaces_own, LeaveAlone, ActsOnceFrom, DeliveriesActOnce, FindsState, IsDelivered, CrashesActOnce, ReopenedActsOnce, ReopenedOutlast}
use Rattle.up_records.specs.Standing.{HoldsState}

-- ---- a vehicle that is left alone

abbrev Has : Name → Vehicle → State → Type 0
Has name v s = table.get s.vehicles name ≡ Some v

abbrev owns : Name → Command → Bool
owns name c = unwrap_or (option_map (λ vehicle. bytes_eq vehicle name) (vehicle_of c)) false

abbrev replaces : Name → Command → Bool
replaces name c = unwrap_or (option_map (λ vehicle. bytes_eq vehicle name) (replaced_in c)) false

unchanged : (s : State) (o : Outcome) (name : Name) (v : Vehicle) → already s ≡ o → Has name v s → Has name v o.next
unchanged s o name v is there = subst (λ (o : Outcome). Has name v o.next) is there

other_vehicle : (k : Rules) (s : State) (at : ℕ) (body : List ℕ) (o : Outcome) (name : Name) (v : Vehicle) → owns name (Deliver body) ≡ false
    → HasDelivered k s at body o → Has name v s → Has name v o.next
other_vehicle k s at body o name v other is there =
    let r = is.received in
    let reads : incoming_in body ≡ Ok r.incoming = (received k s at body r is.receives).reads in
    let apart : bytes_eq r.incoming.manifest.vehicle name ≡ false =
    sym (ap (λ (i : Result Incoming Refusal). unwrap_or (option_map (λ vehicle. bytes_eq vehicle name) (option_map (λ (i : Incoming). i.manifest.vehicle) (value_of i))) false) reads) ∙ other in
    subst (λ (o : Outcome). Has name v o.next) is.is
    (get_other s.vehicles r.incoming.manifest.vehicle name _ (λ same. let yes = (bytes_decides r.incoming.manifest.vehicle name).1 same in cc) ∙ there)

stays_outcome : (k : Rules) (s : State) (at : ℕ) (c : Command) (o : Outcome) (name : Name) (v : Vehicle) → owns name c ≡ false → replaces name c ≡ false → Has name v s → decide k s at c ≡ Ok o → Has name v o.next
stays_outcome k s at (Found keys) o name v other apart there h = subst (λ (o : Outcome). Has name v o.next) (found_ok k s at keys o h).is there
stays_outcome k s at (Rotate keys) o name v other apart there h = subst (λ (o : Outcome). Has name v o.next) (rotate_ok k s at keys o h).is there
stays_outcome k s at (AddImage image) o name v other apart there h = elim (image_ok k s at image o h) [
  | inl same ↦ unchanged s o name v same there
  | inr new ↦ subst (λ (o : Outcome). Has name v o.next) new.is there
]
stays_outcome k s at (Refresh version) o name v other apart there h = subst (λ (o : Outcome). Has name v o.next) (refresh_ok k s at version o h).is there
stays_outcome k s at (AddVehicle new) o name v other apart there h = elim (vehicle_ok k s at new o h) [
  | inl same ↦ unchanged s o name v same there
  | inr is ↦ subst (λ (o : Outcome). Has name v o.next) is.is (kept_by_insert s.vehicles new.vehicle name _ v is.none there)
]
stays_outcome k s at (ReplaceEcu new) o name v other apart there h =
    let is = replace_ok k s at new o h in
    subst (λ (o : Outcome). Has name v o.next) is.is
    (get_other s.vehicles new.vehicle name _ (λ same. let yes = (bytes_decides new.vehicle name).1 same in cc) ∙ there)
stays_outcome k s at (OpenCampaign campaign) o name v other apart there h = elim (open_ok s at campaign o h) [
  | inl same ↦ unchanged s o name v same there
  | inr is ↦ subst (λ (o : Outcome). Has name v o.next) is.is there
]
stays_outcome k s at (CloseCampaign campaign) o name v other apart there h = elim (close_ok s at campaign o h) [
  | inl same ↦ unchanged s o name v same there
  | inr is ↦ subst (λ (o : Outcome). Has name v o.next) is.is there
]
stays_outcome k s at (Deliver body) o name v other apart there h = other_vehicle k s at body o name v other (delivery_ok k s at body o h) there
stays_outcome k s at (Fetch repository file) o name v other apart there h = subst (λ (o : Outcome). Has name v o.next) (fetch_ok s at repository file o h).2 there

stays_served : (k : Rules) (s : State) (at : ℕ) (c : Command) (name : Name) (v : Vehicle) → owns name c ≡ false → replaces name c ≡ false → Has name v s → Has name v (serve k s at c).next
unfolding serve step
stays_served k s at c name v other apart there = by_repeat (repeat_of k s at c)
  where
    by_repeat : (o : Option KeptEntry) → Has name v (served_as k s at c o).next
    by_repeat None = by_decision s (decide k s at c) (Has name v) there (λ o. stays_outcome k s at c o name v other apart there)
    by_repeat (Some r) = there

stays_met : (k : Rules) (s : State) (m : Sent) (name : Name) (v : Vehicle) → (lost : Bool) → m.lost ≡ lost → IsTrue (lost || not (delivers_own name m || replaces_own name m)) → Has name v s → Has name v (meet k s m).next
stays_met k s m name v true is none there = rw is there
stays_met k s m name v false is none there =
    let apart = or_parts (delivers_own name m) (replaces_own name m) (not_own (delivers_own name m || replaces_own name m) none) in
    rw is (stays_served k s m.item.at m.item.command name v apart.0 apart.1 there)
  where
    not_own : (b : Bool) → IsTrue (not b) → b ≡ false
    not_own true h = cc
    not_own false h = refl

vehicle_stays : (k : Rules) (s : State) (name : Name) (v : Vehicle) (between : List Sent) → LeaveAlone name between → Has name v s → Has name v (after k s between)
vehicle_stays k s name v [] none there = there
vehicle_stays k s name v (m ∷ between) none there = vehicle_stays k (meet k s m).next name v between none.1 (stays_met k s m name v m.lost refl none.0 there)

stays_founded : ServedIsThinned → (k : Rules) (s : State) (between : List Sent) → is_founded s ≡ true → is_founded (after k s between) ≡ true
stays_founded thin k s between founded = subst (λ (t : State). is_founded t ≡ true) (sym (thin k s between)) (run_founded k s (thinned k s between) founded)

-- ---- it is received again

received_again : (k : Rules) (s : State) (at : ℕ) (body : List ℕ) (incoming : Incoming) (v : Vehicle) → at ≤ last_command_moment → is_founded s ≡ true → incoming_in body ≡ Ok incoming
    → Has incoming.manifest.vehicle v s → incoming.manifest.primary ≡ v.primary → is_signed_by k v.ecus v.primary incoming.envelope ≡ true
    → receive k s at body ≡ Ok (record { vehicle = v; incoming = incoming })
unfolding receive receive_manifest
received_again k s at body incoming v moment founded reads there primary signed =
    bind-ok _ _ tt (in_time at moment) ∙ bind-ok _ _ incoming reads ∙ bind-ok _ _ tt (ap (λ b. unless b NotFounded) founded)
    ∙ bind-ok _ _ v (ap (or_error UnknownVehicle) there)
    ∙ bind-ok _ _ tt (ap (λ b. unless b WrongPrimary) ((bytes_decides incoming.manifest.primary v.primary).1 primary))
    ∙ bind-ok _ _ tt (ap (λ b. unless b BadManifestSignature) signed)

-- ---- entries by their text

abbrev no_text : List ℕ → ℕ × Entry → Type 0
no_text signed x = bytes_eq x.1.signed signed ≡ false

-- the one that is added is the only one with its text
only_last : (signed : List ℕ) (n : ℕ) (entries : List Entry) (e : Entry) → AllByRecursion (no_text signed) (enumerate_from n entries) → bytes_eq e.signed signed ≡ true
    → filter (λ (x : Entry). bytes_eq x.signed signed) (entries ++ e ∷ []) ≡ e ∷ []
only_last signed n [] e none is = rw is
only_last signed n (x ∷ entries) e none is =
    let other : bytes_eq x.signed signed ≡ false = none.0 in
    rw other (only_last signed (n + 1) entries e none.1 is)

last_found : (signed : List ℕ) (n : ℕ) (entries : List Entry) (e : Entry) → AllByRecursion (no_text signed) (enumerate_from n entries) → bytes_eq e.signed signed ≡ true
    → find (λ (x : ℕ × Entry). bytes_eq x.1.signed signed) (enumerate_from n (entries ++ e ∷ [])) ≡ Some (n + length entries, e)
last_found signed n [] e none is = let place : n ≡ n + 0 = omega arith in rw is (ap (λ (i : ℕ). Some (i, e)) place)
last_found signed n (x ∷ entries) e none is =
    let other : bytes_eq x.signed signed ≡ false = none.0 in
    let place : (n + 1) + length entries ≡ n + length (x ∷ entries) = omega arith in
    rw other (last_found signed (n + 1) entries e none.1 is ∙ ap (λ (i : ℕ). Some (i, e)) place)

-- ---- what the plain machine accepts

-- a delivery that it accepts, at the moment of its call
record IsAccepted (k : Rules) (s : State) (at : ℕ) (body : List ℕ) (incoming : Incoming) (o : Outcome) : Type 0 where
  vehicle : Vehicle
  there : Has incoming.manifest.vehicle vehicle s
  founded : is_founded s ≡ true
  primary : incoming.manifest.primary ≡ vehicle.primary
  signed : is_signed_by k vehicle.ecus vehicle.primary incoming.envelope ≡ true
  checked : check_new k (record { vehicle = vehicle; incoming = incoming }) ≡ Ok tt
  new : AllByRecursion (no_text incoming.envelope.signed) (enumerate_from 1 vehicle.entries)
  unseen : repeat_in (record { vehicle = vehicle; incoming = incoming }) ≡ None
  is : accepted k s at (record { vehicle = vehicle; incoming = incoming }) ≡ o

no_repeat : RepeatsAreStale → CountersFindRepeats → (k : Rules) (s : State) (at : ℕ) (body : List ℕ) (r : Received) (o : Outcome) → IsSound k s → receive k s at body ≡ Ok r
    → Has r.incoming.manifest.vehicle r.vehicle s → accepted k s at r ≡ o → decide k s at (Deliver body) ≡ Ok o → (found : Option KeptEntry) → repeat_of k s at (Deliver body) ≡ found → found ≡ None
unfolding step
no_repeat stale counters k s at body r o sound receives there is decides None found = refl
no_repeat stale counters k s at body r o sound receives there is decides (Some x) found =
    let name = ((counters k s at body r sound receives).0 x found).3 in
    let refused = stale k s at (Deliver body) x r.vehicle sound found (ap (table.get s.vehicles) name ∙ there) in
    let answered : o.answer ≡ Refused _ = ap (λ (d : Result Outcome Refusal). (outcome_of s d).answer) (sym decides) ∙ ap (λ (p : Outcome). p.answer) refused in
    let replied = ap (λ (p : Outcome). p.answer) is in
    absurd (let e = replied ∙ answered in cc)

none_of : {A B : Type 0} (f : A → B) (o : Option A) → option_map f o ≡ None → o ≡ None
none_of f None h = refl
none_of f (Some x) h = cc

-- a delivery that is accepted was never kept before
never_kept : RepeatsAreStale → CountersFindRepeats → (k : Rules) (s : State) (at : ℕ) (body : List ℕ) (o : Outcome) → IsSound k s → (decides : decide k s at (Deliver body) ≡ Ok o)
    → repeat_in (delivery_ok k s at body o decides).received ≡ None
never_kept stale counters k s at body o sound decides =
    let is = delivery_ok k s at body o decides in
    let r = is.received in
    let it = received k s at body r is.receives in
    let none = no_repeat stale counters k s at body r o sound is.receives it.vehicle is.is decides (repeat_of k s at (Deliver body)) refl in
    let lookup : repeat_of k s at (Deliver body) ≡ repeat_in r = ap (λ (d : Result Received Refusal). option_and_then repeat_in (value_of d)) is.receives in
    sym lookup ∙ none

is_accepted : RepeatsAreStale → CountersFindRepeats → (k : Rules) (s : State) (at : ℕ) (body : List ℕ) (incoming : Incoming) (o : Outcome) → IsSound k s → incoming_in body ≡ Ok incoming
    → decide k s at (Deliver body) ≡ Ok o → IsAccepted k s at body incoming o
unfolding receive
is_accepted stale counters k s at body incoming o sound reads decides =
    let is = delivery_ok k s at body o decides in
    let r = is.received in
    let it = received k s at body r is.receives in
    let unseen = never_kept stale counters k s at body o sound decides in
    subst (λ (i : Incoming). IsAccepted k s at body i o) (same_ok _ _ (sym it.reads ∙ reads)) (record {
      vehicle = r.vehicle;
      there = it.vehicle;
      founded = it.founded;
      primary = it.primary;
      signed = signature k s at body r is.receives;
      checked = is.checked;
      new = none_passes _ (enumerate_from 1 r.vehicle.entries)
          (none_of (λ (x : ℕ × Entry). record { vehicle = r.incoming.manifest.vehicle; number = x.0; entry = x.1 }) (entry_signed r.incoming.envelope.signed r.vehicle.entries) unseen);
      unseen = unseen;
      is = is.is;
    })
  where
    signature : (k : Rules) (s : State) (at : ℕ) (body : List ℕ) (r : Received) → receive k s at body ≡ Ok r → is_signed_by k r.vehicle.ecus r.vehicle.primary r.incoming.envelope ≡ true
    signature k s at body r h = first_ok _ _ _ _ h (λ a moment h. first_ok _ _ _ _ h (λ incoming reads h. (manifest_received k s incoming r h).signed))

-- ---- it acts once

served_new : (k : Rules) (s : State) (at : ℕ) (body : List ℕ) (r : Received) → receive k s at body ≡ Ok r → repeat_in r ≡ None → check_new k r ≡ Ok tt → serve k s at (Deliver body) ≡ accepted k s at r
unfolding serve step decide_delivery decide_received
served_new k s at body r receives none checked =
    ap (λ (d : Result Received Refusal). served_as k s at (Deliver body) (option_and_then repeat_in (value_of d))) receives
    ∙ ap (served_as k s at (Deliver body)) none
    ∙ ap (outcome_of s) (bind-ok (receive k s at body) (decide_received k s at) r receives ∙ bind-ok (check_new k r) _ tt checked)

abbrev more : Vehicle → Entry → Vehicle
more v e = record v { entries = v.entries ++ e ∷ [] }

-- where it isn't there yet it is accepted
acts_new : (k : Rules) (s : State) (at : ℕ) (body : List ℕ) (incoming : Incoming) (v : Vehicle) → receive k s at body ≡ Ok (record { vehicle = v; incoming = incoming })
    → AllByRecursion (no_text incoming.envelope.signed) (enumerate_from 1 v.entries) → repeat_in (record { vehicle = v; incoming = incoming }) ≡ None
    → check_new k (record { vehicle = v; incoming = incoming }) ≡ Ok tt → ActsOnce k incoming (serve k s at (Deliver body))
acts_new k s at body incoming v receives new none checked =
    let r : Received = record { vehicle = v; incoming = incoming } in
    let e = entry_of k s at r in
    let name = incoming.manifest.vehicle in
    let number : length (v.entries ++ e ∷ []) ≡ version v.entries + 1 = length-append v.entries (e ∷ []) in
    subst (ActsOnce k incoming) (sym (served_new k s at body r receives none checked)) (record {
      vehicle = more v e;
      entry = e;
      number = version v.entries + 1;
      there = get_same s.vehicles name (more v e);
      once = only_last incoming.envelope.signed 1 v.entries e new ((bytes_decides incoming.envelope.signed incoming.envelope.signed).1 refl);
      numbered = ap (nth (v.entries ++ e ∷ [])) (sym number) ∙ nth_last v.entries e;
      answer = refl;
    })

-- where it is there already it is a repeat
acts_kept : (k : Rules) (s : State) (at : ℕ) (body : List ℕ) (incoming : Incoming) (v : Vehicle) (e : Entry) → Has incoming.manifest.vehicle (more v e) s
    → receive k s at body ≡ Ok (record { vehicle = more v e; incoming = incoming })
    → AllByRecursion (no_text incoming.envelope.signed) (enumerate_from 1 v.entries) → bytes_eq e.signed incoming.envelope.signed ≡ true → ActsOnce k incoming (serve k s at (Deliver body))
acts_kept k s at body incoming v e there receives new text =
    let r : Received = record { vehicle = more v e; incoming = incoming } in
    let name = incoming.manifest.vehicle in
    let size = length-append v.entries (e ∷ []) in
    let number : length (v.entries ++ e ∷ []) ≡ 1 + length v.entries = omega arith in
    let found : repeat_in r ≡ Some (record { vehicle = name; number = 1 + length v.entries; entry = e }) =
    ap (option_map (λ (x : ℕ × Entry). record { vehicle = name; number = x.0; entry = x.1 })) (last_found incoming.envelope.signed 1 v.entries e new text) in
    subst (ActsOnce k incoming) (sym (serve_repeat k s at body r _ receives found)) (record {
      vehicle = more v e;
      entry = e;
      number = 1 + length v.entries;
      there = there;
      once = only_last incoming.envelope.signed 1 v.entries e new text;
      numbered = ap (nth (v.entries ++ e ∷ [])) (sym number) ∙ nth_last v.entries e;
      answer = refl;
    })

-- ---- the laws

from_before : ServedIsThinned → (k : Rules) (s : State) (at : ℕ) (body : List ℕ) (incoming : Incoming) (o : Outcome) → incoming_in body ≡ Ok incoming → IsAccepted k s at body incoming o
    → ActsOnceFrom k s body incoming
from_before thin k s at body incoming o reads is = λ between again none moment.
    let there = vehicle_stays k s incoming.manifest.vehicle is.vehicle between none is.there in
    let founded = stays_founded thin k s between is.founded in
    acts_new k (after k s between) again body incoming is.vehicle
    (received_again k (after k s between) again body incoming is.vehicle moment founded reads there is.primary is.signed) is.new is.unseen is.checked

from_next : ServedIsThinned → (k : Rules) (s : State) (at : ℕ) (body : List ℕ) (incoming : Incoming) (o : Outcome) → incoming_in body ≡ Ok incoming → IsAccepted k s at body incoming o
    → ActsOnceFrom k o.next body incoming
from_next thin k s at body incoming o reads is = subst (λ (p : Outcome). ActsOnceFrom k p.next body incoming) is.is (λ between again none moment.
    let r : Received = record { vehicle = is.vehicle; incoming = incoming } in
    let e = entry_of k s at r in
    let name = incoming.manifest.vehicle in
    let next = (accepted k s at r).next in
    let there = vehicle_stays k next name (more is.vehicle e) between none (get_same s.vehicles name (more is.vehicle e)) in
    let founded = stays_founded thin k next between is.founded in
    acts_kept k (after k next between) again body incoming is.vehicle e there
    (received_again k (after k next between) again body incoming (more is.vehicle e) moment founded reads there is.primary is.signed) is.new
    ((bytes_decides incoming.envelope.signed incoming.envelope.signed).1 refl))

pub acts_once : RepeatsAreStale → CountersFindRepeats → ServedIsThinned → DeliveriesActOnce
acts_once stale counters thin k s at body incoming o sound reads decides =
    let is = is_accepted stale counters k s at body incoming o sound reads decides in
    (from_before thin k s at body incoming o reads is, from_next thin k s at body incoming o reads is)

-- a delivery that the plain machine accepts is served as that
served_as_accepted : RepeatsAreStale → CountersFindRepeats → (k : Rules) (s : State) (at : ℕ) (body : List ℕ) (incoming : Incoming) (o : Outcome) → IsSound k s → incoming_in body ≡ Ok incoming
    → decide k s at (Deliver body) ≡ Ok o → serve k s at (Deliver body) ≡ o
served_as_accepted stale counters k s at body incoming o sound reads decides =
    let is = delivery_ok k s at body o decides in
    served_new k s at body is.received is.receives (never_kept stale counters k s at body o sound decides) is.checked ∙ is.is

-- a crash leaves the state before the call or the next one
either : {S : Type 0} (g : Ghosts S) (k : Rules) (s : State) (at : ℕ) (body : List ℕ) (incoming : Incoming) (old new : Held S) → IsDelivered g k s at body incoming old new → HasCleanDisk (state g new)
    → (left : Trees) → (state g new).may_leave left → HoldsState s left ⊎ HoldsState (serve k s at (Deliver body)).next left
either g k s at body incoming old new it clean left may =
    let before : HasCleanDisk (state g old) = omega (arith, it.survives.clean) in
    elim (it.survives.crash clean left may) [
      | inl was ↦ inl (it.alone before left was)
      | inr is ↦ inr is
    ]

-- in both states it acts once
both_act : RepeatsAreStale → CountersFindRepeats → ServedIsThinned → ServedStaysSound
    → (k : Rules) (s : State) (at : ℕ) (body : List ℕ) (incoming : Incoming) (o : Outcome) → IsSound k s → incoming_in body ≡ Ok incoming → decide k s at (Deliver body) ≡ Ok o
    → (IsShown : State → Type 0) → IsShown s ⊎ IsShown (serve k s at (Deliver body)).next → FindsState k body incoming IsShown
both_act stale counters thin stays k s at body incoming o sound reads decides IsShown shown =
    let both = acts_once stale counters thin k s at body incoming o sound reads decides in
    let next : (serve k s at (Deliver body)).next ≡ o.next = ap (λ (p : Outcome). p.next) (served_as_accepted stale counters k s at body incoming o sound reads decides) in
    elim shown [
      | inl was ↦ record { found = s; sound = sound; shown = was; acts = both.0 }
      | inr is ↦ record {
        found = (serve k s at (Deliver body)).next;
        sound = stays k s at (Deliver body) refl sound;
        shown = is;
        acts = subst (λ (t : State). ActsOnceFrom k t body incoming) (sym next) both.1;
      }
    ]

pub crashes_act_once : {S : Type 0} (g : Ghosts S) → RepeatsAreStale → CountersFindRepeats → ServedIsThinned → ServedStaysSound → CrashesActOnce g
crashes_act_once g stale counters thin stays k s at body incoming old new it clean left may =
    both_act stale counters thin stays k s at body incoming it.accepted it.sound it.reads it.accepts (λ t. HoldsState t left) (either g k s at body incoming old new it clean left may)

pub reopened_acts_once : {D : Type 0} (g : DiskGhosts D) → RepeatsAreStale → CountersFindRepeats → ServedIsThinned → ServedStaysSound → ReopenedActsOnce g
reopened_acts_once g stale counters thin stays k s at body incoming old new it clean stopped again whole left may opened is found =
    let f = again whole left may opened is found in
    let next = (serve k s at (Deliver body)).next in
    ∥∥₁_map f.left (λ r. both_act stale counters thin stays k s at body incoming it.accepted it.sound it.reads it.accepts (λ t. KeepsState t (file_state opened))
    (elim (either over_files k s at body incoming old new it clean (file_state opened).committed.trees r) [
      | inl was ↦ inl (f.shown (rows_of_state s) was)
      | inr made ↦ inr (f.shown (rows_of_state next) made)
    ]))

pub reopened_outlast : {D : Type 0} (g : DiskGhosts D) → ReopenedOutlast g
reopened_outlast g k cs answers old new outlasts s sound keeps before rest m made clean stopped again whole left may opened is found =
    let f = again whole left may opened is found in
    ∥∥₁_map f.left (λ r. let held = outlasts s sound keeps before rest m made clean (file_state opened).committed.trees r in (held.0, held.1, f.shown (rows_of_state held.0) held.2))
