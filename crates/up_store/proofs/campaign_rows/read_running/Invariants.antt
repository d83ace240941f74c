use Rattle.std.proofs.Common.{take}
use Rattle.std.specs.FinMap as table
use Rattle.up_store.proofs.Common.{Table, CampaignData, AreRunning, InTurn, PutsCampaign}
use Rattle.up_store.proofs.ColumnTables.{AreRead}
use Rattle.up_store.proofs.campaign_rows.read_running.Given as goal

abbrev pub invariant-loop-row : goal.invariant-loop-row
invariant-loop-row l =
    ((campaigns : Table CampaignData) → AreRunning l.shown campaigns → AreRead (take l.row-index l.shown) campaigns l.running)
    × InTurn PutsCampaign (take l.row-index l.shown) table.empty l.running
