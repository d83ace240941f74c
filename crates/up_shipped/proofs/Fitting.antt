-- What lines and requests ask is within the limits of commands.
use Rattle.std.proofs.Common.{◌≡◌, inl, inr, ℕ, ◌+◌, ◌≤◌, List, [], ◌∷◌, Bool, true, false, Option, Some, None, Result, Ok, Err, refl, sym, ap, ◌∙◌, subst, arith}
use Rattle.std.specs.Prelude.{⊤, ◌&&◌, MatchBool, length, take, drop, is_none, nat_le}
use Rattle.std.specs.List.{AllByRecursion}
use Rattle.std.proofs.lemmas.Bool.Decides.{nat_tests}
use Rattle.serde_json.specs.Data.{Data}
use Rattle.up_canon.specs.Canon.{max_count}
use Rattle.up_canon.specs.Members.{count_in}
use Rattle.up_canon.specs.declared.refusal.Refusal.{Refusal}
use Rattle.up_canon.proofs.Members.{count_read}
use Rattle.up_canon.proofs.Steps.{first_ok, same_ok}
use Rattle.up_sign.specs.Schemes.{Rules}
use Rattle.up_machine.specs.Commands.{is_command}
use Rattle.up_machine.specs.declared.command.Command.{Command}
use Rattle.up_machine.specs.declared.command.Command.TheVariants as command
use Rattle.up_machine.specs.Vehicles.{NewVehicleData, new_vehicle_fault}
use Rattle.up_plan.specs.Campaigns.{CampaignData, campaign_fault, campaign_fits}
use Rattle.up_plan.specs.Images.{ImageData, image_fault, image_fits}
use Rattle.up_script.specs.AskedLines.{asked_in, asked_of, calls, deliver_in, fetch_in, show_in, what_in}
use Rattle.up_script.specs.CampaignLines.{campaign_in}
use Rattle.up_script.specs.ImageLines.{checked, within, image_in}
use Rattle.up_script.specs.VehicleLines.{vehicle_in}
use Rattle.up_script.specs.declared.asked.Asked.{Asked}
use Rattle.up_script.specs.declared.asked.What.{What}
use Rattle.up_script.specs.declared.asked.What.TheVariants.{Call, Show}
use Rattle.up_script.specs.declared.word.Word.{Word}
use Rattle.up_script.specs.declared.word.Word.TheVariants as word
use Rattle.up_heads.specs.declared.check.Check.{Check}
use Rattle.up_heads.specs.declared.check.Check.TheVariants.{BadRequest}
use Rattle.up_roles.specs.declared.repository.Repository.TheVariants.{Director, Image}
use Rattle.up_heads.specs.declared.routed.Routed.{Routed}
use Rattle.up_heads.specs.declared.routed.Routed.TheVariants as routed_as
use Rattle.up_heads.specs.Framing.{framing}
use Rattle.up_heads.specs.Routed.{request_route}
use Rattle.httparse.specs.Grammar.{RequestHead}
use Rattle.up_http.specs.Requests.{First, Firsts, Framed, asked, refused, with_body, size_of}
use Rattle.up_http.specs.declared.asked.Next.{Next}
use Rattle.up_http.specs.declared.asked.What.TheVariants.{Fixed}
use Rattle.up_shipped.specs.Shipped.{command_at, command_of, lines_ask, requested_at, requests_ask}
use Rattle.up_shipped.proofs.Items.{Fits}

-- ---- lines

-- the command that is read fits
abbrev FitsWhat : What → Type 0
FitsWhat (Call c) = is_command c ≡ true
FitsWhat (Show vehicle) = ⊤

same_what : (a b : What) → ◌≡◌ {A = Result What Refusal} (Ok a) (Ok b) → a ≡ b
same_what a b h = same_ok a b h

called : {A : Type 0} (make : A → Command) (read : Result A Refusal) (w : What) → ((x : A) → read ≡ Ok x → is_command (make x) ≡ true) → calls make read ≡ Ok w → FitsWhat w
called make read w fits h = first_ok _ _ _ _ h (λ x is h. subst FitsWhat (same_what (Call (make x)) w h) (fits x is))

-- what was checked has no fault
no_fault : {A : Type 0} (fault : A → Option (List ℕ)) (x y : A) → checked fault x ≡ Ok y → (x ≡ y) × (fault x ≡ None)
no_fault {A} fault x y h = by_fault (fault x) refl h
  where
    by_fault : (o : Option (List ℕ)) → fault x ≡ o → within o x ≡ Ok y → (x ≡ y) × (fault x ≡ None)
    by_fault None is h = (same_ok x y h, is)
    by_fault (Some f) is h = cc

image_fits_in : (d : Data) (image : ImageData) → image_in d ≡ Ok image → image_fits image ≡ true
unfolding image_in
image_fits_in d image h = first_ok _ _ _ _ h (λ a _ h. first_ok _ _ _ _ h (λ b _ h. first_ok _ _ _ _ h (λ c _ h. first_ok _ _ _ _ h (λ e _ h.
    first_ok _ _ _ _ h (λ f _ h. first_ok _ _ _ _ h (λ g _ h. first_ok _ _ _ _ h (λ i _ h. first_ok _ _ _ _ h (λ j _ h.
    let it = no_fault image_fault (record { file = a; length = b; sha256 = c; sha512 = e; hardware = f; release = g; needs = i; conflicts = j }) image h in
    ap (λ (o : Option (List ℕ)). is_none o) (ap image_fault (sym it.0) ∙ it.1)))))))))

vehicle_fits_in : (d : Data) (new : NewVehicleData) → vehicle_in d ≡ Ok new → is_none (new_vehicle_fault new) ≡ true
unfolding vehicle_in
vehicle_fits_in d new h = first_ok _ _ _ _ h (λ a _ h. first_ok _ _ _ _ h (λ b _ h. first_ok _ _ _ _ h (λ c _ h. first_ok _ _ _ _ h (λ e _ h.
    let it = no_fault new_vehicle_fault (record { vehicle = a; primary = b; ecus = e }) new h in
    ap (λ (o : Option (List ℕ)). is_none o) (ap new_vehicle_fault (sym it.0) ∙ it.1)))))

campaign_fits_in : (d : Data) (campaign : CampaignData) → campaign_in d ≡ Ok campaign → (campaign_fits campaign && campaign.running) ≡ true
unfolding campaign_in
campaign_fits_in d campaign h = first_ok _ _ _ _ h (λ a _ h. first_ok _ _ _ _ h (λ b _ h. first_ok _ _ _ _ h (λ c _ h. first_ok _ _ _ _ h (λ e _ h.
    let it = no_fault campaign_fault (record { name = a; reach = b; items = e; running = true }) campaign h in
    let fits : campaign_fits campaign ≡ true = ap (λ (o : Option (List ℕ)). is_none o) (ap campaign_fault (sym it.0) ∙ it.1) in
    let running : campaign.running ≡ true = ap (λ (x : CampaignData). x.running) (sym it.0) in
    rw (fits, running)))))

count_fits_in : (name : List ℕ) (d : Data) (n : ℕ) → count_in name d ≡ Ok n → nat_le n max_count ≡ true
count_fits_in name d n h = let low : n ≤ max_count = (count_read name d n h).1 in grind (arith, nat_tests)

what_fits : (k : Rules) (w : Word) (d : Data) (what : What) → what_in k w d ≡ Ok what → FitsWhat what
unfolding deliver_in fetch_in show_in
what_fits k word.Found d what h = called command.Found _ what (λ x is. refl) h
what_fits k word.Rotate d what h = called command.Rotate _ what (λ x is. refl) h
what_fits k word.AddVehicle d what h = called command.AddVehicle _ what (λ x is. vehicle_fits_in d x is) h
what_fits k word.ReplaceEcu d what h = called command.ReplaceEcu _ what (λ x is. refl) h
what_fits k word.AddImage d what h = called command.AddImage _ what (λ x is. image_fits_in d x is) h
what_fits k word.Refresh d what h = called command.Refresh _ what (λ x is. count_fits_in _ d x is) h
what_fits k word.OpenCampaign d what h = called command.OpenCampaign _ what (λ x is. campaign_fits_in d x is) h
what_fits k word.CloseCampaign d what h = called command.CloseCampaign _ what (λ x is. refl) h
what_fits k word.Deliver d what h = called command.Deliver _ what (λ x is. refl) h
what_fits k word.Fetch d what h = first_ok _ _ _ _ h (λ a _ h. first_ok _ _ _ _ h (λ b _ h. subst FitsWhat (same_what (Call (command.Fetch a b)) what h) refl))
what_fits k word.Bench d what h = called command.Deliver _ what (λ x is. refl) h
what_fits k word.Show d what h = first_ok _ _ _ _ h (λ a _ h. subst FitsWhat (same_what (Show a) what h) tt)

asked_fits : (k : Rules) (line : List ℕ) (a : Asked) → asked_in k line ≡ Ok a → FitsWhat a.what
unfolding asked_in asked_of
asked_fits k line a h = first_ok _ _ _ _ h (λ d _ h. first_ok _ _ _ _ h (λ members _ h. first_ok _ _ _ _ h (λ w _ h. first_ok _ _ _ _ h (λ at _ h. first_ok _ _ _ _ h (λ what is h.
    subst (λ (x : Asked). FitsWhat x.what) (same_ok _ a h) (what_fits k w members what is))))))

line_fits : (k : Rules) (line : List ℕ) → Fits (lines_ask k) line
line_fits k line c h = by_read (asked_in k line) refl h
  where
    by_what : (at : ℕ) (w : What) → FitsWhat w → command_at at w ≡ Some c → is_command c.1 ≡ true
    by_what at (Call x) fits h = let same : (at, x) ≡ c = same_pair (at, x) c h in subst (λ (p : ℕ × Command). is_command p.1 ≡ true) same fits
      where
        same_pair : (a b : ℕ × Command) → ◌≡◌ {A = Option (ℕ × Command)} (Some a) (Some b) → a ≡ b
        same_pair a b h = cc
    by_what at (Show vehicle) fits h = cc

    by_read : (r : Result Asked Refusal) → asked_in k line ≡ r → command_of r ≡ Some c → is_command c.1 ≡ true
    by_read (Ok a) is h = by_what a.at a.what (asked_fits k line a is) h
    by_read (Err e) is h = cc

pub lines_fit : (k : Rules) (lines : List (List ℕ)) → AllByRecursion (Fits (lines_ask k)) lines
lines_fit k [] = tt
lines_fit k (line ∷ lines) = (line_fits k line, lines_fit k lines)

-- ---- requests

requested : (at : ℕ) (r : Routed) (body : List ℕ) (c : ℕ × Command) → requested_at at (with_body r body) ≡ Some c → is_command c.1 ≡ true
requested at (routed_as.Fixed check) body c h = cc
requested at routed_as.Deliver body c h = subst (λ (p : ℕ × Command). is_command p.1 ≡ true) (same_pair (at, command.Deliver body) c h) refl
  where
    same_pair : (a b : ℕ × Command) → ◌≡◌ {A = Option (ℕ × Command)} (Some a) (Some b) → a ≡ b
    same_pair a b h = cc
requested at (routed_as.FetchDirector file) body c h = subst (λ (p : ℕ × Command). is_command p.1 ≡ true) (same_pair (at, command.Fetch Director file) c h) refl
  where
    same_pair : (a b : ℕ × Command) → ◌≡◌ {A = Option (ℕ × Command)} (Some a) (Some b) → a ≡ b
    same_pair a b h = cc
requested at (routed_as.FetchImage file) body c h = subst (λ (p : ℕ × Command). is_command p.1 ≡ true) (same_pair (at, command.Fetch Image file) c h) refl
  where
    same_pair : (a b : ℕ × Command) → ◌≡◌ {A = Option (ℕ × Command)} (Some a) (Some b) → a ≡ b
    same_pair a b h = cc

-- a fixed answer asks nothing
fixed_fits : (at : ℕ) (next : Next) (check : Check) → next.what ≡ Fixed check → Fits (requests_ask at) next
fixed_fits at next check is c h = let none : requested_at at (Fixed check) ≡ Some c = ap (requested_at at) (sym is) ∙ h in cc

framed_fits : (at before : ℕ) (head : RequestHead) (after rest : List ℕ) (next : Next) (r : Result (Option ℕ) Check) → Framed before head after r next rest → Fits (requests_ask at) next
framed_fits at before head after rest next (Err check) h = fixed_fits at next check (ap (λ (n : Next). n.what) h)
framed_fits at before head after rest next (Ok stated) h = by_size (nat_le (size_of stated) (length after)) h
  where
    by_size : (b : Bool) → MatchBool b ((next ≡ asked before head stated (take (size_of stated) after)) × (rest ≡ drop (size_of stated) after)) (next ≡ refused head BadRequest)
        → Fits (requests_ask at) next
    by_size true h = λ c is. requested at (request_route head stated) (take (size_of stated) after) c (ap (λ (n : Next). requested_at at n.what) (sym h.0) ∙ is)
    by_size false h = fixed_fits at next BadRequest (ap (λ (n : Next). n.what) h)

pub first_fits : (at before : ℕ) (bytes rest : List ℕ) (next : Next) → First before bytes next rest → Fits (requests_ask at) next
first_fits at before bytes rest next (inl bad) = fixed_fits at next BadRequest (ap (λ (n : Next). n.what) bad.1)
first_fits at before bytes rest next (inr it) = framed_fits at before it.0 it.1 rest next (framing it.0) it.3

pub firsts_fit : (at before : ℕ) (bytes rest : List ℕ) (ended : Bool) (nexts : List Next) → Firsts before bytes nexts ended rest → AllByRecursion (Fits (requests_ask at)) nexts
firsts_fit at before bytes rest ended [] h = tt
firsts_fit at before bytes rest ended (next ∷ nexts) h =
    (first_fits at before bytes h.1 next h.2, by_last next.last h.3 (λ more. firsts_fit at (before + 1) h.1 rest ended nexts more))
  where
    by_last : (b : Bool) → MatchBool b ((nexts ≡ []) × (ended ≡ true)) (Firsts (before + 1) h.1 nexts ended rest)
        → (Firsts (before + 1) h.1 nexts ended rest → AllByRecursion (Fits (requests_ask at)) nexts) → AllByRecursion (Fits (requests_ask at)) nexts
    by_last true none go = subst (λ (ns : List Next). AllByRecursion (Fits (requests_ask at)) ns) (sym none.0) tt
    by_last false more go = go more
