use Rattle.std.proofs.Common.{◌<◌, ◌++◌, ◌^◌, Ok, Err, arith, refl}
use Rattle.up_store.proofs.Common.{⊤, state, HasCleanDisk, root_file_lines, role_file_lines, file_writes, founding_writes, key_writes}
use Rattle.up_store.proofs.RootFiles.{puts_root}
use Rattle.up_store.proofs.WithinLemmas.{puts_first, then_puts}
use Rattle.up_store.proofs.Written.{clean_step, surely, was_open_before}
use Rattle.up_store.proofs.roots.put_root_made.Goals as goal

pub returns : goal.returns
returns g c inside =
    let new = c.args.new.now in
    let G = g.D.Store in
    let s0 = state G c.args.tx.now.conn.now in
    let s1 = state G c.put_numbers.new.tx.conn.now in
    let s2 = state G c.put_keys.new.tx.conn.now in
    let s3 = state G c.put_files.new.tx.conn.now in
    let s4 = state G c.put_files-2.new.tx.conn.now in
    let r = c.put_files-2.result in
    let numbers = rw c.requires.made.numbers_are at (c.in_ok-put_numbers.ensures inside) in
    let keys = rw c.requires.made.keys_are at (c.in_ok-put_keys.ensures numbers.step.is_open numbers.step.inside) in
    let roots = rw c.root_files.ensures.same at (c.in_ok-put_files.ensures keys.step.is_open keys.step.inside) in
    let others = rw c.role_files.ensures.same at (c.put_files-2.ensures roots.step.is_open roots.step.inside) in
    let small : new.founding.root < 2 ^ 64 = omega (arith, c.requires.made.typed.root) in
    let small_image : new.founding.image_root < 2 ^ 64 = omega (arith, c.requires.made.typed.image_root) in
    then_puts G _ (founding_writes new.founding ++ key_writes new.founding ++ file_writes (root_file_lines new)) (file_writes (role_file_lines new.files)) (λ _. ⊤) tt _ _ (λ _. ⊤) (λ _. ⊤) _ _ _ r (λ clean is_open has any. tt)
    (λ clean.
    let clean3 : HasCleanDisk s3 = clean_step others.step.steps clean in
    let clean2 : HasCleanDisk s2 = clean_step roots.step.steps clean3 in
    let clean1 : HasCleanDisk s1 = clean_step keys.step.steps clean2 in
    puts_root r new s0 s1 s2 s3 s4 small small_image (numbers.put clean1) (keys.put clean2) (roots.put clean3) (others.put clean) c.requires.made.typed c.root_files.ensures.typed (surely r c.role_files.ensures.typed)
    (was_open_before r s0 ((numbers.step.steps.kept clean1).was_open (numbers.step.is_open clean1))))
    (then_puts G (λ _ _ _. ⊤) (founding_writes new.founding ++ key_writes new.founding) (file_writes (root_file_lines new)) (λ _. ⊤) tt _ _ (λ _. ⊤) (λ _. ⊤) _ _ _ (Ok tt) (λ clean is_open has any. tt) tt
    (then_puts G (λ _ _ _. ⊤) (founding_writes new.founding) (key_writes new.founding) (λ _. ⊤) tt _ _ (λ _. ⊤) (λ _. ⊤) _ _ _ (Ok tt) (λ clean is_open has any. tt) tt numbers keys) roots) others

pub returns-in_err-put_numbers : goal.returns-in_err-put_numbers
returns-in_err-put_numbers g c inside =
    let new = c.args.new.now in
    let r = c.from_residual.result in
    let f = c.in_err-put_numbers.field-0.0 in
    let told = c.from_residual.ensures.1 in
    let G = g.D.Store in
    puts_first G _ (founding_writes new.founding ++ key_writes new.founding ++ file_writes (root_file_lines new)) (file_writes (role_file_lines new.files)) (λ _. ⊤) (λ _ _ _. ⊤) (λ _. ⊤) _ _ r f told (λ any. tt) (λ e clean. tt)
    (puts_first {A = ⊤} G (λ _ _ _. ⊤) (founding_writes new.founding ++ key_writes new.founding) (file_writes (root_file_lines new)) (λ _. ⊤) (λ _ _ _. ⊤) (λ _. ⊤) _ _ (Err f) f refl (λ any. tt) (λ e. tt)
    (puts_first {A = ⊤} G (λ _ _ _. ⊤) (founding_writes new.founding) (key_writes new.founding) (λ _. ⊤) _ (λ _. ⊤) _ _ (Err f) f refl (λ any. tt) (λ e. tt) (rw c.requires.made.numbers_are at (c.in_err-put_numbers.ensures inside))))

pub returns-in_err-put_keys : goal.returns-in_err-put_keys
returns-in_err-put_keys g c inside =
    let new = c.args.new.now in
    let r = c.from_residual-in_err-put_keys.result in
    let f = c.in_err-put_keys.field-0.0 in
    let numbers = rw c.requires.made.numbers_are at (c.in_ok-put_numbers.ensures inside) in
    let told = c.from_residual-in_err-put_keys.ensures.1 in
    let G = g.D.Store in
    puts_first G _ (founding_writes new.founding ++ key_writes new.founding ++ file_writes (root_file_lines new)) (file_writes (role_file_lines new.files)) (λ _. ⊤) (λ _ _ _. ⊤) (λ _. ⊤) _ _ r f told (λ any. tt) (λ e clean. tt)
    (puts_first {A = ⊤} G (λ _ _ _. ⊤) (founding_writes new.founding ++ key_writes new.founding) (file_writes (root_file_lines new)) (λ _. ⊤) (λ _ _ _. ⊤) (λ _. ⊤) _ _ (Err f) f refl (λ any. tt) (λ e. tt)
    (then_puts {A = ⊤} G (λ _ _ _. ⊤) (founding_writes new.founding) (key_writes new.founding) (λ _. ⊤) tt _ _ (λ _. ⊤) (λ _. ⊤) _ _ _ (Err f) (λ clean is_open has any. tt) tt
    numbers (rw c.requires.made.keys_are at (c.in_err-put_keys.ensures numbers.step.is_open numbers.step.inside))))

pub returns-in_err-put_files : goal.returns-in_err-put_files
returns-in_err-put_files g c inside =
    let new = c.args.new.now in
    let r = c.from_residual-in_err-put_files.result in
    let f = c.in_err-put_files.field-0.0 in
    let numbers = rw c.requires.made.numbers_are at (c.in_ok-put_numbers.ensures inside) in
    let keys = rw c.requires.made.keys_are at (c.in_ok-put_keys.ensures numbers.step.is_open numbers.step.inside) in
    let told = c.from_residual-in_err-put_files.ensures.1 in
    let G = g.D.Store in
    puts_first G _ (founding_writes new.founding ++ key_writes new.founding ++ file_writes (root_file_lines new)) (file_writes (role_file_lines new.files)) (λ _. ⊤) (λ _ _ _. ⊤) (λ _. ⊤) _ _ r f told (λ any. tt) (λ e clean. tt)
    (then_puts {A = ⊤} G (λ _ _ _. ⊤) (founding_writes new.founding ++ key_writes new.founding) (file_writes (root_file_lines new)) (λ _. ⊤) tt _ _ (λ _. ⊤) (λ _. ⊤) _ _ _ (Err f) (λ clean is_open has any. tt) tt
    (then_puts G (λ _ _ _. ⊤) (founding_writes new.founding) (key_writes new.founding) (λ _. ⊤) tt _ _ (λ _. ⊤) (λ _. ⊤) _ _ _ (Ok tt) (λ clean is_open has any. tt) tt
    numbers keys) (rw c.root_files.ensures.same at (c.in_err-put_files.ensures keys.step.is_open keys.step.inside)))
