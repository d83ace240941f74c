-- Behind whatever happens each Primary follows the state.
use Rattle.std.proofs.Common.{◌≡◌, ℕ, List, [], ◌∷◌, ◌++◌, Bool, true, false, Option, Some, None, ◌⊎◌, inl, inr, refl, sym, ap, ◌∙◌, subst, append-nil, append_assoc}
use Rattle.std.specs.Prelude.{if◌then◌else◌, IsTrue, is_some, option_map, unwrap_or}
use Rattle.std.specs.Cmp.Lexicographic.{slice_cmp}
use Rattle.std.specs.FinMap as table
use Rattle.std.specs.FinMap.{get-empty}
use Rattle.std.specs.Ordering.{nat_cmp}
use Rattle.up_canon.specs.Names.{Name}
use Rattle.up_canon.proofs.Steps.{and_then_some, map_some}
use Rattle.up_sign.specs.Schemes.{Rules, IsScheme}
use Rattle.up_metadata.specs.Files.{Root}
use Rattle.up_metadata.proofs.Lists.{each_weaker}
use Rattle.up_machine.specs.declared.answer.Answer.{Answer}
use Rattle.up_machine.specs.declared.answer.Answer.TheVariants.{Done, Already, Reply as Replied, File, Refused}
use Rattle.up_machine.specs.declared.answer.Reply.{Reply}
use Rattle.up_machine.specs.declared.command.Command.TheVariants.{Deliver}
use Rattle.up_machine.specs.Commands.{is_command}
use Rattle.up_machine.specs.Machine.{Timed, run}
use Rattle.up_machine.specs.Made.{IsMade, new_roots, roots_of}
use Rattle.up_machine.specs.Repeats.{KeptEntry, repeat_of, served_as, serve, Sent, Met, meet}
use Rattle.up_machine.specs.State.{State, nth}
use Rattle.up_machine.proofs.Places.{nth_stays}
use Rattle.up_machine.proofs.Tables.{get_after-insert}
use Rattle.up_laws.specs.Typed.{command_is_typed}
use Rattle.up_verify.specs.declared.served.Served.{Served}
use Rattle.up_verify.specs.declared.trust.Primary.{Primary}
use Rattle.up_verify.specs.Verifiers.{Verifier}
use Rattle.up_verify.specs.Verify.{verify, after}
use Rattle.up_primary.specs.Fleets.{Visit, Event, Begins, Sends, Visits, Fleet, empty_fleet, delivery, heard, served_with, having, after_serving, after_answer, with_primary, roots_met, behind, behind_all, IsGiven, AllGiven, AllFollow, FleetsFollow}
use Rattle.up_primary.specs.Following.{Follows, KnowsKeys, KeysAgree}
use Rattle.up_primary.specs.Laws.{AreGiven, FollowingLasts}
use Rattle.up_primary.proofs.Behind.{Reading, Stands, Stays, follow_after}
use Rattle.up_primary.proofs.Runs.{Keeping}

-- ---- states on the way

pub stand_on : Keeping → (k : Rules) (s : State) (roots : List Root) (ts : List Timed) → AreGiven ts → Stands k s roots → Stands k (run k s ts) (roots ++ roots_of k s ts)
stand_on keeping k s roots ts given stands =
    let commands = each_weaker (λ (t : Timed). IsTrue (is_command t.command) × IsTrue (command_is_typed t.command)) (λ (t : Timed). IsTrue (is_command t.command)) (λ t h. h.0) ts given in
    let typed = each_weaker (λ (t : Timed). IsTrue (is_command t.command) × IsTrue (command_is_typed t.command)) (λ (t : Timed). IsTrue (command_is_typed t.command)) (λ t h. h.1) ts given in
    record {
      made = keeping.made k s ts roots commands stands.sound stands.made;
      sound = keeping.sound k s ts commands stands.sound;
      typed = keeping.typed k s ts typed stands.typed;
      own = keeping.own k s ts commands stands.sound stands.own;
    }

-- the state and its root versions stay, or a command is carried out
abbrev Goes : Rules → State → List Root → State → List Root → Type 0
Goes k s roots next all =
    ((next ≡ s) × (all ≡ roots))
    ⊎ ((t : Timed) × (IsTrue (is_command t.command) × IsTrue (command_is_typed t.command)) × (next ≡ run k s (t ∷ [])) × (all ≡ roots ++ roots_of k s (t ∷ [])))

-- what is met of what is sent, by whether it is lost and what it repeats
abbrev pub met_as : Rules → State → Sent → Bool → Option KeptEntry → Met
met_as k s m true o = record { sent = m; is_repeat = false; answer = None; next = s }
met_as k s m false o = record {
  sent = m;
  is_repeat = is_some o;
  answer = Some (served_as k s m.item.at m.item.command o).answer;
  next = (served_as k s m.item.at m.item.command o).next;
}

pub met_is : (k : Rules) (s : State) (m : Sent) → meet k s m ≡ met_as k s m m.lost (repeat_of k s m.item.at m.item.command)
unfolding serve
met_is k s m = by_lost m.lost
  where
    by_lost : (b : Bool) → (if b then record { sent = m; is_repeat = false; answer = None; next = s }
        else let o = serve k s m.item.at m.item.command in
        record { sent = m; is_repeat = is_some (repeat_of k s m.item.at m.item.command); answer = Some o.answer; next = o.next }) ≡ met_as k s m b (repeat_of k s m.item.at m.item.command)
    by_lost true = refl
    by_lost false = refl

met_goes : (k : Rules) (s : State) (roots : List Root) (m : Sent) → IsTrue (is_command m.item.command) × IsTrue (command_is_typed m.item.command) → Goes k s roots (meet k s m).next (roots ++ roots_met m (meet k s m))
met_goes k s roots m given = subst (λ (x : Met). Goes k s roots x.next (roots ++ roots_met m x)) (sym (met_is k s m)) (by_case m.lost (repeat_of k s m.item.at m.item.command))
  where
    by_case : (b : Bool) (o : Option KeptEntry) → Goes k s roots (met_as k s m b o).next (roots ++ roots_met m (met_as k s m b o))
    by_case true o = inl (refl, append-nil roots)
    by_case false None = inr (m.item, given, refl, ap (λ (xs : List Root). roots ++ xs) (sym (append-nil (new_roots m.item.at m.item.command (served_as k s m.item.at m.item.command None).answer))))
    by_case false (Some kept) = inl (refl, append-nil roots)

-- what is delivered makes no root version
none_met : (at : ℕ) (body : List ℕ) (o : Option Answer) → unwrap_or (option_map (new_roots at (Deliver body)) o) [] ≡ []
none_met at body None = refl
none_met at body (Some Done) = refl
none_met at body (Some Already) = refl
none_met at body (Some (Replied reply)) = refl
none_met at body (Some (File text)) = refl
none_met at body (Some (Refused r)) = refl

goes : (v : Verifier) (f : Fleet) (e : Event) → IsGiven v.rules f e → Goes v.rules f.state f.roots (behind v f e).state (behind v f e).roots
goes v f (Begins p) given = inl (refl, refl)
goes v f (Sends m) given = met_goes v.rules f.state f.roots m given
goes v f (Visits r) given =
    subst (λ (xs : List Root). Goes v.rules f.state f.roots (meet v.rules f.state (delivery r)).next xs)
    (ap (λ (xs : List Root). f.roots ++ xs) (none_met r.at r.body (meet v.rules f.state (delivery r)).answer) ∙ append-nil f.roots)
    (met_goes v.rules f.state f.roots (delivery r) (refl, refl))

both_moved : (P : State → List Root → Type 0) (s next : State) (roots all : List Root) → next ≡ s → all ≡ roots → P s roots → P next all
both_moved P s next roots all same none h = subst (λ (xs : List Root). P next xs) (sym none) (subst (λ (x : State). P x roots) (sym same) h)

pub goes_standing : Keeping → (v : Verifier) (f : Fleet) (e : Event) → IsGiven v.rules f e → Stands v.rules f.state f.roots → Stands v.rules (behind v f e).state (behind v f e).roots
goes_standing keeping v f e given stands = elim (goes v f e given) [
  | inl same ↦ both_moved (λ s roots. Stands v.rules s roots) f.state (behind v f e).state f.roots (behind v f e).roots same.0 same.1 stands
  | inr more ↦ both_moved (λ s roots. Stands v.rules s roots) (run v.rules f.state (more.0 ∷ [])) (behind v f e).state (f.roots ++ roots_of v.rules f.state (more.0 ∷ [])) (behind v f e).roots more.2 more.3
      (stand_on keeping v.rules f.state f.roots (more.0 ∷ []) (more.1, tt) stands)
]

pub goes_following : FollowingLasts → (v : Verifier) (f : Fleet) (e : Event) → IsGiven v.rules f e → IsMade v.rules f.state f.roots → (p : Primary) → Follows v.rules f.state f.roots p
    → Follows v.rules (behind v f e).state (behind v f e).roots p
goes_following lasts v f e given made p is = elim (goes v f e given) [
  | inl same ↦ both_moved (λ s roots. Follows v.rules s roots p) f.state (behind v f e).state f.roots (behind v f e).roots same.0 same.1 is
  | inr more ↦ both_moved (λ s roots. Follows v.rules s roots p) (run v.rules f.state (more.0 ∷ [])) (behind v f e).state (f.roots ++ roots_of v.rules f.state (more.0 ∷ [])) (behind v f e).roots more.2 more.3
      (lasts v.rules f.state f.roots (more.0 ∷ []) p made is)
]

-- root versions are only added
more_roots : (v : Verifier) (f : Fleet) (e : Event) → (more : List Root) × ((behind v f e).roots ≡ f.roots ++ more)
more_roots v f (Begins p) = ([], sym (append-nil f.roots))
more_roots v f (Sends m) = (roots_met m (meet v.rules f.state m), refl)
more_roots v f (Visits r) = ([], sym (append-nil f.roots))

all_more : (v : Verifier) (f : Fleet) (events : List Event) → (more : List Root) × ((behind_all v f events).roots ≡ f.roots ++ more)
all_more v f [] = ([], sym (append-nil f.roots))
all_more v f (e ∷ events) =
    let one = more_roots v f e in
    let rest = all_more v (behind v f e) events in
    (one.0 ++ rest.0, rest.1 ∙ ap (λ (xs : List Root). xs ++ rest.0) one.1 ∙ append_assoc f.roots one.0 rest.0)

agree_back : (k : Rules) (roots all more : List Root) → all ≡ roots ++ more → KeysAgree k all → KeysAgree k roots
agree_back k roots all more grown agree = λ repository i root there. agree repository i root (ap (λ xs. nth xs i) grown ∙ nth_stays roots more i root there)

knows_back : (v : Verifier) (roots all more : List Root) → all ≡ roots ++ more → KnowsKeys v all → KnowsKeys v roots
knows_back v roots all more grown knows = λ repository i root there. knows repository i root (ap (λ xs. nth xs i) grown ∙ nth_stays roots more i root there)

-- ---- one round

serving_stays : Reading → (v : Verifier) (s : State) (roots : List Root) (now : ℕ) (p : Primary) (reply : Reply) → IsScheme v.rules → Stands v.rules s roots → KeysAgree v.rules roots → KnowsKeys v roots → Follows v.rules s roots p
    → Stays v.rules s roots p (after_serving v now p (served_with v.rules s roots p reply))
serving_stays reading v s roots now p reply law stands agree knows f = by_served (served_with v.rules s roots p reply) refl
  where
    by_served : (o : Option Served) → served_with v.rules s roots p reply ≡ o → Stays v.rules s roots p (after_serving v now p o)
    by_served None h = (refl, f)
    by_served (Some served) h =
        let files = and_then_some _ s.files served h in
        let owner = and_then_some _ (table.get s.vehicles reply.vehicle) served files.2 in
        let e = and_then_some _ (nth owner.0.entries reply.version) served owner.2 in
        let root = map_some _ (nth roots e.0.root) served e.2 in
        subst (λ (served : Served). Stays v.rules s roots p (after v p served (verify v now p served))) root.2
        (follow_after reading v s roots files.0 now reply.version reply.vehicle e.0 root.0 p law stands agree knows f owner.0 owner.1 e.1 files.1)

answer_stays : Reading → (v : Verifier) (s : State) (roots : List Root) (now : ℕ) (p : Primary) (o : Option Answer) → IsScheme v.rules → Stands v.rules s roots → KeysAgree v.rules roots → KnowsKeys v roots → Follows v.rules s roots p
    → Stays v.rules s roots p (after_answer v s roots now p o)
answer_stays reading v s roots now p None law stands agree knows f = (refl, f)
answer_stays reading v s roots now p (Some Done) law stands agree knows f = (refl, f)
answer_stays reading v s roots now p (Some Already) law stands agree knows f = (refl, f)
answer_stays reading v s roots now p (Some (Replied reply)) law stands agree knows f = serving_stays reading v s roots now p reply law stands agree knows f
answer_stays reading v s roots now p (Some (File text)) law stands agree knows f = (refl, f)
answer_stays reading v s roots now p (Some (Refused r)) law stands agree knows f = (refl, f)

-- ECUs make no difference to what is followed
pub having_follows : (k : Rules) (s : State) (roots : List Root) (p : Primary) (r : Visit) → Follows k s roots p → Follows k s roots (having p r)
having_follows k s roots p r f = record {
  director = f.director;
  image = f.image;
  owner = f.owner;
  known = f.known;
  director_versions = f.director_versions;
  image_versions = f.image_versions;
}

-- ---- all of it

pub record Given : Type 0 where
  pub keeping : Keeping
  pub reading : Reading
  pub lasts : FollowingLasts

pub record World (k : Rules) (f : Fleet) : Type 0 where
  pub stands : Stands k f.state f.roots
  pub follow : AllFollow k f

follow_behind : Given → (v : Verifier) (f : Fleet) (e : Event) → IsScheme v.rules → IsGiven v.rules f e → KeysAgree v.rules (behind v f e).roots → KnowsKeys v (behind v f e).roots
    → World v.rules f → AllFollow v.rules (behind v f e)
follow_behind g v f (Begins p) law given agree knows w = λ name q h.
    get_after-insert (λ n (x : Primary). (x.vehicle ≡ n) × Follows v.rules f.state f.roots x) f.primaries p.vehicle name q p h (refl, given) (w.follow name q)
follow_behind g v f (Sends m) law given agree knows w = λ name q h.
    let was = w.follow name q h in
    (was.0, goes_following g.lasts v f (Sends m) given w.stands.made q was.1)
follow_behind g v f (Visits r) law given agree knows w = by_primary (table.get f.primaries r.vehicle) refl
  where
    by_primary : (o : Option Primary) → table.get f.primaries r.vehicle ≡ o → (name : Name) (q : Primary)
        → table.get (with_primary f.primaries r.vehicle (option_map (λ p. after_answer v (meet v.rules f.state (delivery r)).next f.roots r.now (having p r) (heard r (meet v.rules f.state (delivery r)))) o)) name ≡ Some q
        → (q.vehicle ≡ name) × Follows v.rules (meet v.rules f.state (delivery r)).next f.roots q
    by_primary None there name q h =
        let was = w.follow name q h in
        (was.0, goes_following g.lasts v f (Visits r) given w.stands.made q was.1)
    by_primary (Some p) there name q h =
        let here = w.follow r.vehicle p there in
        let next = (meet v.rules f.state (delivery r)).next in
        let before : Follows v.rules next f.roots (having p r) = having_follows v.rules next f.roots p r (goes_following g.lasts v f (Visits r) given w.stands.made p here.1) in
        let own = answer_stays g.reading v next f.roots r.now (having p r) (heard r (meet v.rules f.state (delivery r))) law (goes_standing g.keeping v f (Visits r) given w.stands) agree knows before in
        get_after-insert (λ n (x : Primary). (x.vehicle ≡ n) × Follows v.rules next f.roots x) f.primaries r.vehicle name q (after_answer v next f.roots r.now (having p r) (heard r (meet v.rules f.state (delivery r)))) h
        (own.0 ∙ here.0, own.1)
        (λ old.
        let was = w.follow name q old in
        (was.0, goes_following g.lasts v f (Visits r) given w.stands.made q was.1))

pub world_behind : Given → (v : Verifier) (f : Fleet) (events : List Event) → IsScheme v.rules → AllGiven v f events → KeysAgree v.rules (behind_all v f events).roots → KnowsKeys v (behind_all v f events).roots
    → World v.rules f → World v.rules (behind_all v f events)
world_behind g v f [] law given agree knows w = w
world_behind g v f (e ∷ events) law given agree knows w =
    let next = behind v f e in
    let more = all_more v next events in
    let all = (behind_all v next events).roots in
    world_behind g v next events law given.1 agree knows (record {
      stands = goes_standing g.keeping v f e given.0 w.stands;
      follow = follow_behind g v f e law given.0 (agree_back v.rules next.roots all more.0 more.1 agree) (knows_back v next.roots all more.0 more.1 knows) w;
    })

pub first_world : Keeping → (k : Rules) → World k empty_fleet
first_world keeping k = record {
  stands = record { made = keeping.none_made k; sound = keeping.none_sound k; typed = keeping.none_typed; own = keeping.none_own };
  follow = λ name p h. let none = get-empty {X = Primary} (slice_cmp nat_cmp) name in absurd (apart (sym none ∙ h));
}
  where
    apart : {p : Primary} → ◌≡◌ {A = Option Primary} None (Some p) → ⊥
    apart h = cc

pub fleets_follow : Given → FleetsFollow
fleets_follow g v events law given agree knows = (world_behind g v empty_fleet events law given agree knows (first_world g.keeping v.rules)).follow
