use Rattle.std.proofs.Common.{◌≡◌, take}
use Rattle.std.specs.Prelude.{⊤}
use Rattle.std.specs.FinMap as table
use Rattle.up_tables.specs.Statements.{WhereInside}
use Rattle.up_records.proofs.Sessions.{Chain}
use Rattle.up_desk.specs.Gathered.{gathered, item_files}
use Rattle.up_desk.proofs.images.images_of.Given as goal

-- the images of the files so far
abbrev pub invariant-loop-item : goal.invariant-loop-item
invariant-loop-item g l = WhereInside g.D.Store l.fn.tx.conn
    (Chain g.D.Store (λ _. ⊤) l.fn.tx.conn (λ _ s. l.images ≡ gathered s.images (item_files (take l.item-index l.items)) table.empty) l.tx.conn)
