use Rattle.std.proofs.Common.{Err, ap, rules}
use Rattle.up_store.proofs.Common.{⊤, state, HasCleanDisk, role_file_lines, FitsFounding, file_writes, founding_writes, register_writes}
use Rattle.up_store.proofs.PutBlames.{never_blames}
use Rattle.up_store.proofs.RootBlames.{fits_meta}
use Rattle.up_store.proofs.RootPuts.{puts_register}
use Rattle.up_store.proofs.WithinLemmas.{puts_first, then_puts}
use Rattle.up_store.proofs.Written.{clean_step, surely, was_open_before}
use Rattle.up_store.proofs.roots.put_register.Goals as goal

pub returns : goal.returns
returns g c inside =
    let new = c.args.new.now in
    let s0 = state g.D.Store c.args.tx.now.conn.now in
    let s1 = state g.D.Store c.put_numbers.new.tx.conn.now in
    let s2 = state g.D.Store c.put_files.new.tx.conn.now in
    let numbers = rw c.in_ok-numbers.ensures.same at (c.in_ok-put_numbers.ensures inside) in
    let files = rw c.role_files.ensures.same at (c.put_files.ensures numbers.step.is_open numbers.step.inside) in
    then_puts g.D.Store _ (founding_writes new.founding) (file_writes (role_file_lines new.files)) (λ _. FitsFounding new.founding) tt _ _ (λ _. ⊤) (λ _. ⊤) _ _ _ c.put_files.result (λ clean is_open has any. tt)
    (λ clean.
    let clean1 : HasCleanDisk s1 = clean_step files.step.steps clean in
    puts_register c.put_files.result new s0 s1 s2 (numbers.put clean1) (files.put clean) c.in_ok-numbers.ensures.typed (surely c.put_files.result c.role_files.ensures.typed)
    (was_open_before c.put_files.result s0 ((numbers.step.steps.kept clean1).was_open (numbers.step.is_open clean1))))
    numbers files

pub returns-in_err-put_numbers : goal.returns-in_err-put_numbers
returns-in_err-put_numbers g c inside =
    let new = c.args.new.now in
    puts_first g.D.Store _ (founding_writes new.founding) (file_writes (role_file_lines new.files)) (λ _. FitsFounding new.founding) _ (λ _. ⊤) _ _ c.from_residual-in_err-put_numbers.result c.in_err-put_numbers.field-0.0 c.from_residual-in_err-put_numbers.ensures.1
    (λ any. tt) (λ e clean. tt) (rw c.in_ok-numbers.ensures.same at (c.in_err-put_numbers.ensures inside))

pub returns-in_err-numbers : goal.returns-in_err-numbers
returns-in_err-numbers g c inside =
    let new = c.args.new.now in
    let before = state g.D.Store c.args.tx.now.conn.now in
    record {
      put = search rules;
      ran = search rules;
      blame = never_blames (register_writes new) (λ _. FitsFounding new.founding) before before c.from_residual.result (λ fits. fits_meta new.founding fits (c.in_err-numbers.ensures.large.0 (ap Err c.in_err-numbers.ensures.fault)));
      memory = search rules;
      step = search rules;
    }
