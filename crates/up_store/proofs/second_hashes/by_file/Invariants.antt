use Rattle.std.proofs.Common.{length, take}
use Rattle.std.specs.FinMap as table
use Rattle.up_store.proofs.Common.{Table, ImageData, AreSha512s, InTurn, PutsSha512}
use Rattle.up_store.proofs.ColumnTables.{AreHashesSofar}
use Rattle.up_store.proofs.second_hashes.by_file.Given as goal

abbrev pub invariant-loop-row : goal.invariant-loop-row
invariant-loop-row l =
    ((images : Table ImageData) → AreSha512s l.fn.found.items images → AreHashesSofar (take (length l.yielded) l.fn.found.items) images l.hashes)
    × InTurn PutsSha512 (take (length l.yielded) l.fn.found.items) table.empty l.hashes
