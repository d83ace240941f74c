-- The tables list a campaign that was closed.
use Rattle.std.proofs.Common.{◌≡◌, ℕ, ℤ, pos, List, [], ◌∷◌, Bool, true, false, cond, if◌then◌else◌, Some, Option, Ok, Err, Result, OnOk, IsTrue, refl, sym, ap, subst, ◌∙◌, bytes_eq}
use Rattle.std.specs.FinMap as table
use Rattle.up_rows.proofs.Vehicles.{same_test}
use Rattle.up_store.proofs.Common.{Row, Connected, Name, Table, CampaignData, get_new, reach_column, items_column, StateRows, with_campaign_row, StoreFault, campaign_line, yes_or_no, with_only, IsWithin, GoesOn, Alters, HasTables, Lists, up_schema, campaign_table, IsClosing, campaign_lines, ListsRows, table_rows, AreTyped, IsTypedCampaign, goes_on, lists_campaigns}
use Rattle.up_store.proofs.Alike.{lists_as, alters_as}
use Rattle.up_store.proofs.TypedRows.{typed_campaign}

-- what is found after an insertion
pub got : {X : Type 0} (t : Table X) (name : Name) (x : X) (n : Name) → table.get (table.insert t name x) n ≡ (if bytes_eq name n then Some x else table.get t n)
got t name x n = get_new t name n x ∙ ap (λ b. cond b (Some x) (table.get t n)) (same_test name n)

-- one row alone under its name is what the table has after an insertion
pub only_inserted : {X : Type 0} (t : Table X) (name : Name) (x : X) (lines : Option X → List Row) (row : Row) → lines (Some x) ≡ row ∷ [] → (n : Name)
    → with_only name row (λ m. lines (table.get t m)) n ≡ lines (table.get (table.insert t name x) n)
only_inserted t name x lines row is n = by_test (bytes_eq name n) ∙ sym (ap lines (got t name x n))
  where
    by_test : (b : Bool) → (if b then row ∷ [] else lines (table.get t n)) ≡ lines (if b then Some x else table.get t n)
    by_test true = sym is
    by_test false = refl

abbrev runs : CampaignData → ℤ
runs c = yes_or_no c.running

-- the rows of the campaigns after one is written
abbrev pub with_campaign_lines : StateRows → CampaignData → List ℕ → List Row
with_campaign_lines rows new name = campaign_lines (table.get (table.insert rows.campaigns new.name new) name)

-- a closed campaign is as typed as it was
typed_closed : (rows : StateRows) (new : CampaignData) → AreTyped rows → IsClosing new rows → IsTypedCampaign new.name new
typed_closed rows new typed fits =
    let was = typed.campaigns new.name fits.was fits.there in
    subst (λ (c : CampaignData). IsTypedCampaign c.name c) (sym fits.is) (record { named = refl; ident = was.ident; reach = was.reach; items = was.items; fits = was.fits })

pub puts_closed : {A : Type 0} (r : Result A StoreFault) (new : CampaignData) (before after : Connected)
    → OnOk r ((rows_of : List ℕ → List Row) (reach items : List ℕ) (running : ℤ) → HasTables before → Lists 1 rows_of (before.now.trees campaign_table.tree) → rows_of new.name ≡ campaign_line new.name reach items running ∷ []
    → Alters campaign_table (Lists 1 (with_only new.name (campaign_line new.name reach items (pos 0)) rows_of)) before after)
    → OnOk r (IsTrue before.is_open) → OnOk r ((rows : StateRows) → IsWithin up_schema (ListsRows rows) before → IsClosing new rows → GoesOn up_schema (ListsRows (with_campaign_row rows new)) after)
puts_closed (Err e) new before after sets was_open = tt
puts_closed (Ok done) new before after sets was_open = λ rows within fits.
    let here = within.here was_open in
    let mine : new.name ≡ fits.was.name = ap (λ (c : CampaignData). c.name) fits.is in
    let there : campaign_lines (table.get rows.campaigns new.name) ≡ campaign_line new.name (reach_column fits.was.reach) (items_column fits.was.items) (runs fits.was) ∷ [] =
    ap campaign_lines fits.there ∙ ap (λ m. campaign_line m (reach_column fits.was.reach) (items_column fits.was.items) (runs fits.was) ∷ []) (sym mine) in
    let alters = sets (λ name. campaign_lines (table.get rows.campaigns name)) (reach_column fits.was.reach) (items_column fits.was.items) (runs fits.was)
    (λ _. record { schema_is = here.schema_is; sound = here.sound; rows = tt }) here.rows.tables.campaigns there in
    let line : campaign_lines (Some new) ≡ campaign_line new.name (reach_column fits.was.reach) (items_column fits.was.items) (pos 0) ∷ [] =
    ap (λ (c : CampaignData). campaign_lines (Some c)) fits.is ∙ ap (λ m. campaign_line m (reach_column fits.was.reach) (items_column fits.was.items) (pos 0) ∷ []) (sym mine) in
    let now : Alters campaign_table (Lists 1 (with_campaign_lines rows new)) before after =
    alters_as campaign_table _ _ (λ trees. lists_as 1 _ _ trees (only_inserted rows.campaigns new.name new campaign_lines (campaign_line new.name (reach_column fits.was.reach) (items_column fits.was.items) (pos 0)) line)) before after alters in
    goes_on campaign_table _ (ListsRows (with_campaign_row rows new)) before after now (record {
      last = here.rows.last;
      typed = typed_campaign rows new here.rows.typed (typed_closed rows new here.rows.typed fits);
      tables = lists_campaigns (table_rows rows) (with_campaign_lines rows new) before after here.rows.tables now;
    })
