use Rattle.std.proofs.Common.{◌≡◌, List, refl}
use Rattle.sqlite.specs.Held.{state}
use Rattle.sqlite.specs.Order.{Row}
use Rattle.up_tables.specs.Found.{HoldsOfImageRepository, image_repository_shown}
use Rattle.up_tables.specs.Stored.{AreLines}
use Rattle.up_tables.specs.Tables.{image_repository_table}
use Rattle.up_tables.proofs.BlameLemmas.{blames_where}
use Rattle.up_tables.proofs.NumberLemmas.{numbers_found}
use Rattle.up_tables.proofs.StateLemmas.{ok_then}
use Rattle.up_tables.proofs.StoredLemmas.{queried_value}
use Rattle.up_tables.proofs.image_repository.image_repository.Goals as goal

pub returns : goal.returns
returns g c mode =
    let R = g.R.RowReading in
    let is = queried_value g.S.Store (λ (all rows : List Row). all ≡ rows) _ _ _ image_repository_shown _ _ _ R.says R.fits R.line _ _ c.find_value.result numbers_found c.find_value.ensures mode in
    record {
      found = λ clean. ok_then _ _ c.find_value.result (λ found told has. told _ has refl) (is.found clean);
      reads = is.reads;
      asks = is.asks;
      blame = blames_where (HoldsOfImageRepository (AreLines R.fits R.line)) (λ s. (all : List Row) × (all ≡ s.now.trees image_repository_table.tree) × AreLines R.fits R.line (image_repository_shown all)) (state g.S.Store c.args.tx.now.conn.now)
          (state g.S.Store c.find_value.new.tx.conn.now) c.find_value.result (λ holds. (_, refl, holds)) is.blame;
      step = is.step;
    }
