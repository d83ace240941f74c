use Rattle.std.proofs.Common.{length, take}
use Rattle.std.specs.FinMap as table
use Rattle.up_store.proofs.Common.{Table, ImageData, AreImages, AreHashesOf, InTurn, PutsImage}
use Rattle.up_store.proofs.ColumnTables.{AreSofar}
use Rattle.up_store.proofs.image_rows.read_images.Given as goal

abbrev pub invariant-loop-row : goal.invariant-loop-row
invariant-loop-row l =
    ((images : Table ImageData) → AreImages l.fn.shown.items images → AreHashesOf l.hashes images → AreSofar (take (length l.yielded) l.fn.shown.items) images l.images)
    × InTurn (PutsImage l.hashes) (take (length l.yielded) l.fn.shown.items) table.empty l.images
