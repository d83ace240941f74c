use Rattle.std.proofs.Common.{◌≡◌, Err, ap}
use Rattle.up_store.proofs.Common.{⊤, FitsFounding, root_writes}
use Rattle.up_store.proofs.RootBlames.{fits_meta}
use Rattle.up_store.proofs.WithinLemmas.{makes_none, makes_puts}
use Rattle.up_tables.specs.declared.values.StoreFault.TheVariants.{Memory, Store}
use Rattle.up_store.proofs.roots.put_root.Goals as goal

pub returns : goal.returns
returns g c inside = makes_puts g.D.Store _ _ _ _ c.put_root_made.result _ (λ _. ⊤) (λ fits. tt) (c.put_root_made.ensures inside)

pub returns-in_err-numbers : goal.returns-in_err-numbers
returns-in_err-numbers g c inside =
    let founding = c.args.new.now.founding in
    makes_none g.D.Store _ (root_writes c.args.new.now) (λ _. FitsFounding founding) _ c.from_residual.result c.in_err-numbers.field-0.0 c.from_residual.ensures.1 (λ e clean. tt) (λ store fits. fits_meta founding fits (c.in_err-numbers.ensures.large.0 (ap Err store)))

pub returns-in_err-keys : goal.returns-in_err-keys
returns-in_err-keys g c inside = makes_none g.D.Store _ (root_writes c.args.new.now) (λ _. FitsFounding c.args.new.now.founding) _ c.from_residual-in_err-keys.result Memory c.from_residual-in_err-keys.ensures.1 (λ e clean. tt) (λ store. absurd (let no : Memory ≡ Store = store in cc))

pub returns-in_err-name : goal.returns-in_err-name
returns-in_err-name g c inside = makes_none g.D.Store _ (root_writes c.args.new.now) (λ _. FitsFounding c.args.new.now.founding) _ c.from_residual-in_err-name.result Memory c.from_residual-in_err-name.ensures.1 (λ e clean. tt) (λ store. absurd (let no : Memory ≡ Store = store in cc))

pub returns-in_err-image_name : goal.returns-in_err-image_name
returns-in_err-image_name g c inside = makes_none g.D.Store _ (root_writes c.args.new.now) (λ _. FitsFounding c.args.new.now.founding) _ c.from_residual-in_err-image_name.result Memory c.from_residual-in_err-image_name.ensures.1 (λ e clean. tt) (λ store. absurd (let no : Memory ≡ Store = store in cc))
