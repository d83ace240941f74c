-- Each reply to a current manifest brings the vehicle's plan.
use Rattle.std.proofs.Common.{◌≡◌, ℕ, zero, suc, ◌+◌, ◌<◌, List, [], ◌∷◌, ◌++◌, Bool, true, false, Option, Some, None, Result, Ok, Err, length, refl, sym, ap, ◌∙◌, subst, arith, length-append}
use Rattle.std.specs.Prelude.{if◌then◌else◌, ◌==◌, filter_map, find, slice_get, option_map, option_and_then}
use Rattle.std.specs.List.{All}
use Rattle.std.specs.FinMap as table
use Rattle.std.proofs.lemmas.Bool.{ne_eqb}
use Rattle.std.proofs.lemmas.Bool.Decides.{nat_tests}
use Rattle.up_canon.specs.Names.{Name}
use Rattle.up_canon.specs.declared.refusal.Refusal.{Refusal}
use Rattle.up_canon.proofs.Steps.{value_of_some, and_then_some, one_value}
use Rattle.up_sign.specs.Schemes.{Rules, IsScheme}
use Rattle.up_metadata.specs.declared.role_files.RoleTexts.{RoleTexts}
use Rattle.up_metadata.specs.Files.{Root}
use Rattle.up_machine.specs.declared.answer.Answer.{Answer}
use Rattle.up_machine.specs.declared.answer.Answer.TheVariants.{Reply as Replied, Refused}
use Rattle.up_machine.specs.declared.answer.Reply.{Reply}
use Rattle.up_machine.specs.declared.command.Command.TheVariants.{Deliver}
use Rattle.up_machine.specs.Deciding.{Outcome}
use Rattle.up_machine.specs.Deliveries.{Received, receive, check_new, fitted, entry_of, with_entry, accepted}
use Rattle.up_machine.specs.Machine.{decide, outcome_of, step}
use Rattle.up_machine.specs.Made.{IsReplyMade}
use Rattle.up_machine.specs.RepeatLaws.{CountersFindRepeats}
use Rattle.up_machine.specs.Repeats.{KeptEntry, repeat_in, repeat_of, Met, meet}
use Rattle.up_machine.specs.Replies.{assigned_target, reply_to}
use Rattle.up_machine.specs.Sound.{CountersRise}
use Rattle.up_machine.specs.State.{Entry, Vehicle, State, nth, root_number, key_set, version, last_counter, newest, plan_for}
use Rattle.up_machine.proofs.Accepting.{checked}
use Rattle.up_machine.proofs.Decided.{IsDelivered, delivery_ok}
use Rattle.up_machine.proofs.Keeping.{there as is_there}
use Rattle.up_machine.proofs.Lists.{each_at}
use Rattle.up_machine.proofs.Receiving.{received}
use Rattle.up_machine.proofs.Places.{nth_last, place_of}
use Rattle.up_machine.proofs.Tables.{get_same}
use Rattle.up_verify.specs.declared.trust.Primary.{Primary}
use Rattle.up_verify.specs.Verifiers.{Verifier}
use Rattle.up_primary.specs.Fleets.{Visit, Visits, Fleet, empty_fleet, delivery, served_with, having, behind_all, IsLastAgain, IsCurrent, GetsReply, IsBrought, RoundsBringPlans}
use Rattle.up_primary.specs.Following.{AreUpTo, Follows, KnowsKeys, KeysAgree, KnowsEcu, Suits}
use Rattle.up_primary.specs.Forging.{IsEntryAt}
use Rattle.up_primary.specs.Laws.{RepliesAreTaken, NewPlansSuit}
use Rattle.up_primary.specs.Machine.{reply_text_of, reply_for, served_in}
use Rattle.up_primary.proofs.Behind.{Stands}
use Rattle.up_primary.proofs.Fleets.{met_as, met_is, goes_standing, goes_following, having_follows, Given, World, world_behind, first_world}
use Rattle.up_primary.proofs.Lasting.{up_to, founded_with}

-- ---- the newest manifest

last_is : (entries : List Entry) (e : Entry) → last_counter entries < e.counter → last_counter (entries ++ e ∷ []) ≡ e.counter
last_is [] e h = omega arith
last_is (f ∷ entries) e h = let rest = last_is entries e (omega arith) in omega arith

found_last : (entries : List Entry) (e : Entry) → last_counter entries < e.counter → find (λ x. x.counter == e.counter) (entries ++ e ∷ []) ≡ Some e
found_last [] e h = let same : (e.counter == e.counter) ≡ true = grind (arith, nat_tests) in rw same refl
found_last (f ∷ entries) e h =
    let other = ne_eqb f.counter e.counter (λ same. omega arith) in
    rw other (found_last entries e (omega arith))

newest_is : (entries : List Entry) (e : Entry) → last_counter entries < e.counter → newest (entries ++ e ∷ []) ≡ Some e
newest_is entries e h = ap (λ n. find (λ (x : Entry). x.counter == n) (entries ++ e ∷ [])) (last_is entries e h) ∙ found_last entries e h

-- where counters rise the last entry has the greatest
abbrev IsTop : List Entry → Entry → Type 0
IsTop entries e = (last_counter entries ≡ e.counter) × (find (λ x. x.counter == e.counter) entries ≡ Some e)

top : (entries : List Entry) (place : ℕ) (e : Entry) → CountersRise entries → slice_get entries place ≡ Some e → suc place ≡ length entries → IsTop entries e
top [] place e rise h size = cc
top (x ∷ []) zero e rise h size =
    let same : x ≡ e = cc in
    let own : (e.counter == e.counter) ≡ true = grind (arith, nat_tests) in
    let level : x.counter ≡ e.counter = ap (λ (y : Entry). y.counter) same in
    subst (λ (y : Entry). IsTop (y ∷ []) e) (sym same) (omega arith, rw own refl)
top (x ∷ []) (suc place) e rise h size = absurd (omega (arith, size))
top (x ∷ y ∷ entries) zero e rise h size = absurd (omega (arith, size))
top (x ∷ y ∷ entries) (suc place) e rise h size =
    let rest = top (y ∷ entries) place e rise.1 h (omega (arith, size)) in
    let less : x.counter < e.counter = each_at (λ f. x.counter < f.counter) (y ∷ entries) place e rise.0 h in
    let greatest = rest.0 in
    let other = ne_eqb x.counter e.counter (λ same. omega (arith, less, same)) in
    (omega (arith, less, greatest), rw other rest.1)

top_is : (entries : List Entry) (e : Entry) → CountersRise entries → nth entries (length entries) ≡ Some e → newest entries ≡ Some e
top_is entries e rise h =
    let at = place_of entries (length entries) e h in
    let number = at.1 in
    let is = top entries at.0 e rise at.2 (omega (arith, number)) in
    ap (λ n. find (λ (x : Entry). x.counter == n) entries) is.0 ∙ is.1

-- ---- all that is served

served_is : (k : Rules) (s : State) (roots : List Root) (p : Primary) (reply : Reply) (files : RoleTexts) (owner : Vehicle) (root : Root) (e : Entry) → s.files ≡ Some files → table.get s.vehicles reply.vehicle ≡ Some owner
    → nth owner.entries reply.version ≡ Some e → nth roots e.root ≡ Some root → served_with k s roots p reply ≡ Some (served_in s files p (reply_for k s reply.vehicle reply.version e root))
served_is k s roots p reply files owner root e texts known there under =
    ap (option_and_then (λ (files : RoleTexts). option_and_then (λ (owner : Vehicle). option_and_then (λ (e : Entry). option_map (λ (root : Root). served_in s files p (reply_for k s reply.vehicle reply.version e root)) (nth roots e.root)) (nth owner.entries reply.version)) (table.get s.vehicles reply.vehicle))) texts
    ∙ ap (option_and_then (λ (owner : Vehicle). option_and_then (λ (e : Entry). option_map (λ (root : Root). served_in s files p (reply_for k s reply.vehicle reply.version e root)) (nth roots e.root)) (nth owner.entries reply.version))) known
    ∙ ap (option_and_then (λ (e : Entry). option_map (λ (root : Root). served_in s files p (reply_for k s reply.vehicle reply.version e root)) (nth roots e.root))) there
    ∙ ap (option_map (λ (root : Root). served_in s files p (reply_for k s reply.vehicle reply.version e root))) under

-- ---- what was found

-- an entry that a state has, under its last root, whose reply is current for the Primary
record IsDue (s : State) (p : Primary) (vehicle : Name) (number : ℕ) (e : Entry) : Type 0 where
  own : vehicle ≡ p.vehicle
  owner : Vehicle
  known : table.get s.vehicles vehicle ≡ Some owner
  there : nth owner.entries number ≡ Some e
  last : e.root ≡ root_number s
  plan : plan_for owner ≡ Some e.plan
  versions : AreUpTo number p.director.versions
  suits : All (Suits p.ecus) (filter_map (assigned_target s) e.plan.assigned)

brought : RepliesAreTaken → (v : Verifier) (s : State) (roots : List Root) (now : ℕ) (p : Primary) (vehicle : Name) (number : ℕ) (e : Entry) → IsScheme v.rules → Stands v.rules s roots → KeysAgree v.rules roots → KnowsKeys v roots
    → Follows v.rules s roots p → IsDue s p vehicle number e → IsBrought v s roots now p (reply_to vehicle number e)
brought taken v s roots now p vehicle number e law stands agree knows f is =
    let made : IsReplyMade v.rules s roots vehicle number e = stands.made.replies vehicle is.owner number e is.known is.there in
    let root : Root = made.root in
    let at : IsEntryAt s roots p.vehicle number e root = record { owner = is.owner; known = ap (table.get s.vehicles) (sym is.own) ∙ is.known; there = is.there; under = made.there } in
    let texts = is_there s.files (founded_with v.rules s roots e.root root stands.made made.there) in
    let files : RoleTexts = texts.0 in
    record {
      entry = e;
      root = root;
      there = at;
      plan = is.plan;
      bytes = made.made ∙ ap (λ (name : Name). reply_text_of (reply_for v.rules s name number e root)) is.own;
      files = files;
      served = served_is v.rules s roots p (reply_to vehicle number e) files is.owner root e texts.1 is.known is.there made.there
          ∙ ap (λ (name : Name). Some (served_in s files p (reply_for v.rules s name number e root))) is.own;
      taken = λ fresh. taken v s roots now number e root p law stands.sound stands.typed stands.own stands.made agree f knows at is.last is.versions is.suits fresh;
    }

-- ---- a manifest that is new

new_brought : RepliesAreTaken → NewPlansSuit → (v : Verifier) (s : State) (roots : List Root) (at now : ℕ) (body : List ℕ) (p : Primary) (r : Received) → IsScheme v.rules → receive v.rules s at body ≡ Ok r → check_new v.rules r ≡ Ok tt
    → r.incoming.manifest.vehicle ≡ p.vehicle → Stands v.rules s roots → Stands v.rules (accepted v.rules s at r).next roots → Follows v.rules s roots p → Follows v.rules (accepted v.rules s at r).next roots p → KeysAgree v.rules roots → KnowsKeys v roots
    → All (KnowsEcu s p.ecus) (filter_map (fitted r.incoming.manifest.reports) r.vehicle.ecus)
    → IsBrought v (accepted v.rules s at r).next roots now p (reply_to r.incoming.manifest.vehicle (version r.vehicle.entries + 1) (entry_of v.rules s at r))
new_brought taken suit v s roots at now body p r law receives is_new own before after f later agree knows ecus =
    let name = r.incoming.manifest.vehicle in
    let e = entry_of v.rules s at r in
    let number = version r.vehicle.entries + 1 in
    let next = with_entry s name r.vehicle e in
    let w : Vehicle = record r.vehicle { entries = r.vehicle.entries ++ e ∷ [] } in
    let known : table.get next.vehicles name ≡ Some w = get_same s.vehicles name w in
    let size : number ≡ length (r.vehicle.entries ++ e ∷ []) = sym (length-append r.vehicle.entries (e ∷ [])) in
    let there : nth w.entries number ≡ Some e = ap (nth w.entries) size ∙ nth_last r.vehicle.entries e in
    let from = received v.rules s at body r receives in
    let was : r.vehicle ≡ f.owner = one_value _ _ _ (ap (table.get s.vehicles) (sym own) ∙ from.vehicle) f.known in
    let count : version f.owner.entries ≡ version r.vehicle.entries = ap (λ (x : Vehicle). version x.entries) (sym was) in
    brought taken v next roots now p name number e law after agree knows later (record {
      own = own;
      owner = w;
      known = known;
      there = there;
      last = refl;
      plan = ap (option_map (λ (x : Entry). x.plan)) (newest_is r.vehicle.entries e (checked v.rules r tt is_new).later);
      versions = up_to (version f.owner.entries) number p.director.versions (omega (arith, count)) f.director_versions;
      suits = suit v.rules s at body (key_set s) p (record { received = r; is = receives; new = is_new; of_vehicle = own }) before.sound ecus;
    })

-- ---- a manifest that comes again

again_brought : RepliesAreTaken → CountersFindRepeats → (v : Verifier) (s : State) (roots : List Root) (r : Visit) (p : Primary) (kept : KeptEntry) → IsScheme v.rules → repeat_of v.rules s r.at (Deliver r.body) ≡ Some kept → kept.vehicle ≡ p.vehicle
    → Stands v.rules s roots → Follows v.rules s roots (having p r) → KeysAgree v.rules roots → KnowsKeys v roots → IsLastAgain s r kept → IsBrought v s roots r.now (having p r) (reply_to kept.vehicle kept.number kept.entry)
again_brought taken finds v s roots r p kept law is own stands f agree knows again =
    let found = and_then_some repeat_in _ kept is in
    let d = found.0 in
    let receives : receive v.rules s r.at r.body ≡ Ok d = value_of_some _ d found.1 in
    let of = (finds v.rules s r.at r.body d stands.sound receives).0 kept is in
    let from = received v.rules s r.at r.body d receives in
    let same : d.vehicle ≡ again.owner = one_value _ _ _ (ap (table.get s.vehicles) of.3 ∙ from.vehicle) again.known in
    let there : nth again.owner.entries kept.number ≡ Some kept.entry = ap (λ (x : Vehicle). nth x.entries kept.number) (sym same) ∙ of.0 in
    let sound = stands.sound.vehicles kept.vehicle again.owner again.known in
    let was : again.owner ≡ f.owner = one_value _ _ _ (ap (table.get s.vehicles) (sym own) ∙ again.known) f.known in
    let count : version f.owner.entries ≡ version again.owner.entries = ap (λ (x : Vehicle). version x.entries) (sym was) in
    let last = again.last in
    brought taken v s roots r.now (having p r) kept.vehicle kept.number kept.entry law stands agree knows f (record {
      own = own;
      owner = again.owner;
      known = again.known;
      there = there;
      last = again.root;
      plan = ap (option_map (λ (x : Entry). x.plan)) (top_is again.owner.entries kept.entry sound.rising (ap (nth again.owner.entries) (sym again.last) ∙ there));
      versions = up_to (version f.owner.entries) kept.number p.director.versions (omega (arith, count, last)) f.director_versions;
      suits = again.suits;
    })

-- ---- a round

abbrev Brings : Verifier → State → List Root → ℕ → Primary → Option Answer → Type 0
Brings v next roots now p told = (reply : Reply) → told ≡ Some (Replied reply) → reply.vehicle ≡ p.vehicle → IsBrought v next roots now p reply

same_told : (a b : Reply) → ◌≡◌ {A = Option Answer} (Some (Replied a)) (Some (Replied b)) → a ≡ b
same_told a b h = cc

abbrev replied : Rules → State → ℕ → Received → Reply
replied k s at r = reply_to r.incoming.manifest.vehicle (version r.vehicle.entries + 1) (entry_of k s at r)

accepted_brings : RepliesAreTaken → NewPlansSuit → (v : Verifier) (s : State) (roots : List Root) (at now : ℕ) (body : List ℕ) (p : Primary) (r : Received) → IsScheme v.rules → receive v.rules s at body ≡ Ok r → check_new v.rules r ≡ Ok tt
    → Stands v.rules s roots → Stands v.rules (accepted v.rules s at r).next roots → Follows v.rules s roots p → Follows v.rules (accepted v.rules s at r).next roots p → KeysAgree v.rules roots → KnowsKeys v roots
    → All (KnowsEcu s p.ecus) (filter_map (fitted r.incoming.manifest.reports) r.vehicle.ecus)
    → (reply : Reply) → replied v.rules s at r ≡ reply → reply.vehicle ≡ p.vehicle → IsBrought v (accepted v.rules s at r).next roots now p reply
accepted_brings taken suit v s roots at now body p r law receives is_new before after f later agree knows ecus reply same own =
    subst (IsBrought v (accepted v.rules s at r).next roots now p) same
    (new_brought taken suit v s roots at now body p r law receives is_new (ap (λ (x : Reply). x.vehicle) same ∙ own) before after f later agree knows ecus)

decided_brings : RepliesAreTaken → NewPlansSuit → (v : Verifier) (s : State) (roots : List Root) (at now : ℕ) (body : List ℕ) (p : Primary) (o : Outcome) → IsScheme v.rules → IsDelivered v.rules s at body o
    → Stands v.rules s roots → Follows v.rules s roots p → KeysAgree v.rules roots → KnowsKeys v roots
    → ((r : Received) → receive v.rules s at body ≡ Ok r → All (KnowsEcu s p.ecus) (filter_map (fitted r.incoming.manifest.reports) r.vehicle.ecus))
    → Stands v.rules o.next roots → Follows v.rules o.next roots p → Brings v o.next roots now p (Some o.answer)
decided_brings taken suit v s roots at now body p o law is before f agree knows ecus =
    subst (λ (x : Outcome). Stands v.rules x.next roots → Follows v.rules x.next roots p → Brings v x.next roots now p (Some x.answer)) is.is (λ after later reply told own.
    accepted_brings taken suit v s roots at now body p is.received law is.receives is.checked before after f later agree knows (ecus is.received is.receives) reply (same_told _ _ told) own)

refused_brings : (v : Verifier) (s : State) (roots : List Root) (now : ℕ) (p : Primary) (fault : Refusal) → Brings v s roots now p (Some (Refused fault))
refused_brings v s roots now p fault reply told own = absurd (apart told)
  where
    apart : ◌≡◌ {A = Option Answer} (Some (Refused fault)) (Some (Replied reply)) → ⊥
    apart h = cc

outcome_brings : RepliesAreTaken → NewPlansSuit → (v : Verifier) (s : State) (roots : List Root) (at now : ℕ) (body : List ℕ) (p : Primary) (d : Result Outcome Refusal) → IsScheme v.rules → decide v.rules s at (Deliver body) ≡ d
    → Stands v.rules s roots → Follows v.rules s roots p → KeysAgree v.rules roots → KnowsKeys v roots
    → ((r : Received) → receive v.rules s at body ≡ Ok r → All (KnowsEcu s p.ecus) (filter_map (fitted r.incoming.manifest.reports) r.vehicle.ecus))
    → Stands v.rules (outcome_of s d).next roots → Follows v.rules (outcome_of s d).next roots p → Brings v (outcome_of s d).next roots now p (Some (outcome_of s d).answer)
outcome_brings taken suit v s roots at now body p (Err fault) law h before f agree knows ecus after later = refused_brings v s roots now p fault
outcome_brings taken suit v s roots at now body p (Ok o) law h before f agree knows ecus after later =
    decided_brings taken suit v s roots at now body p o law (delivery_ok v.rules s at body o h) before f agree knows ecus after later

step_brings : RepliesAreTaken → NewPlansSuit → (v : Verifier) (s : State) (roots : List Root) (at now : ℕ) (body : List ℕ) (p : Primary) → IsScheme v.rules → Stands v.rules s roots → Follows v.rules s roots p → KeysAgree v.rules roots → KnowsKeys v roots
    → ((r : Received) → receive v.rules s at body ≡ Ok r → All (KnowsEcu s p.ecus) (filter_map (fitted r.incoming.manifest.reports) r.vehicle.ecus))
    → Stands v.rules (step v.rules s at (Deliver body)).next roots → Follows v.rules (step v.rules s at (Deliver body)).next roots p
    → Brings v (step v.rules s at (Deliver body)).next roots now p (Some (step v.rules s at (Deliver body)).answer)
unfolding step
step_brings taken suit v s roots at now body p law before f agree knows ecus after later =
    outcome_brings taken suit v s roots at now body p (decide v.rules s at (Deliver body)) law refl before f agree knows ecus after later

none_told : (reply : Reply) → ◌≡◌ {A = Option Answer} None (Some (Replied reply)) → ⊥
none_told reply h = cc

kept_brings : RepliesAreTaken → CountersFindRepeats → (v : Verifier) (s : State) (roots : List Root) (r : Visit) (p : Primary) (kept : KeptEntry) → IsScheme v.rules → repeat_of v.rules s r.at (Deliver r.body) ≡ Some kept
    → Stands v.rules s roots → Follows v.rules s roots (having p r) → KeysAgree v.rules roots → KnowsKeys v roots → IsLastAgain s r kept
    → Brings v s roots r.now (having p r) (Some (Replied (reply_to kept.vehicle kept.number kept.entry)))
kept_brings taken finds v s roots r p kept law is stands f agree knows again reply told own =
    let same : reply_to kept.vehicle kept.number kept.entry ≡ reply = same_told _ _ told in
    subst (IsBrought v s roots r.now (having p r)) same (again_brought taken finds v s roots r p kept law is (ap (λ (x : Reply). x.vehicle) same ∙ own) stands f agree knows again)

case_brings : RepliesAreTaken → NewPlansSuit → CountersFindRepeats → (v : Verifier) (s : State) (roots : List Root) (r : Visit) (p : Primary) (b : Bool) (o : Option KeptEntry) → IsScheme v.rules → repeat_of v.rules s r.at (Deliver r.body) ≡ o
    → Stands v.rules s roots → Follows v.rules s roots (having p r) → KeysAgree v.rules roots → KnowsKeys v roots → IsCurrent v.rules s r o
    → Stands v.rules (met_as v.rules s (delivery r) b o).next roots → Follows v.rules (met_as v.rules s (delivery r) b o).next roots (having p r)
    → Brings v (met_as v.rules s (delivery r) b o).next roots r.now (having p r) (met_as v.rules s (delivery r) b o).answer
case_brings taken suit finds v s roots r p true o law is before f agree knows current after later = λ reply told own. absurd (none_told reply told)
case_brings taken suit finds v s roots r p false None law is before f agree knows current after later = step_brings taken suit v s roots r.at r.now r.body (having p r) law before f agree knows current after later
case_brings taken suit finds v s roots r p false (Some kept) law is before f agree knows current after later = kept_brings taken finds v s roots r p kept law is before f agree knows current

round_brings : RepliesAreTaken → NewPlansSuit → CountersFindRepeats → (v : Verifier) (s : State) (roots : List Root) (r : Visit) (p : Primary) → IsScheme v.rules
    → Stands v.rules s roots → Follows v.rules s roots (having p r) → KeysAgree v.rules roots → KnowsKeys v roots → IsCurrent v.rules s r (repeat_of v.rules s r.at (Deliver r.body))
    → Stands v.rules (meet v.rules s (delivery r)).next roots → Follows v.rules (meet v.rules s (delivery r)).next roots (having p r)
    → Brings v (meet v.rules s (delivery r)).next roots r.now (having p r) (meet v.rules s (delivery r)).answer
round_brings taken suit finds v s roots r p law before f agree knows current =
    subst (λ (x : Met). Stands v.rules x.next roots → Follows v.rules x.next roots (having p r) → Brings v x.next roots r.now (having p r) x.answer) (sym (met_is v.rules s (delivery r)))
    (case_brings taken suit finds v s roots r p r.lost (repeat_of v.rules s r.at (Deliver r.body)) law refl before f agree knows current)

heard_told : (a : Bool) (o : Option Answer) (reply : Reply) → ◌≡◌ {A = Option Answer} (if a then None else o) (Some (Replied reply)) → o ≡ Some (Replied reply)
heard_told true o reply h = absurd (none_told reply h)
heard_told false o reply h = h

fleet_brings : RepliesAreTaken → NewPlansSuit → CountersFindRepeats → Given → (v : Verifier) (f : Fleet) (r : Visit) (p : Primary) (reply : Reply) → IsScheme v.rules → World v.rules f → KeysAgree v.rules f.roots → KnowsKeys v f.roots
    → GetsReply v.rules f r p reply → IsBrought v (meet v.rules f.state (delivery r)).next f.roots r.now (having p r) reply
fleet_brings taken suit finds g v f r p reply law w agree knows gets =
    let here = w.follow r.vehicle p gets.known in
    let after : Stands v.rules (meet v.rules f.state (delivery r)).next f.roots = goes_standing g.keeping v f (Visits r) tt w.stands in
    let later : Follows v.rules (meet v.rules f.state (delivery r)).next f.roots p = goes_following g.lasts v f (Visits r) tt w.stands.made p here.1 in
    round_brings taken suit finds v f.state f.roots r p law w.stands (having_follows v.rules f.state f.roots p r here.1) agree knows gets.current after (having_follows v.rules (meet v.rules f.state (delivery r)).next f.roots p r later)
    reply (heard_told r.answer_lost (meet v.rules f.state (delivery r)).answer reply gets.heard_is) (gets.own ∙ sym here.0)

pub rounds_bring : RepliesAreTaken → NewPlansSuit → CountersFindRepeats → Given → RoundsBringPlans
rounds_bring taken suit finds g v events r p reply law given agree knows gets =
    fleet_brings taken suit finds g v (behind_all v empty_fleet events) r p reply law (world_behind g v empty_fleet events law given agree knows (first_world g.keeping v.rules)) agree knows gets
