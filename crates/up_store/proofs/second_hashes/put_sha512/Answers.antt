use Rattle.std.proofs.Common.{Ok, ap, sym, ◌∙◌, rules}
use Rattle.up_store.proofs.Common.{⊤, state, ImageData, insert_sha512_text, StoreFault, sha512_lines, each_with}
use Rattle.up_store.proofs.ColumnPuts.{puts_no_sha512, puts_sha512}
use Rattle.up_store.proofs.PutBlames.{hash_row_is, no_hash_is, ran_none}
use Rattle.up_store.proofs.WithinLemmas.{puts_one}
use Rattle.up_store.proofs.Written.{open_before}
use Rattle.up_store.proofs.second_hashes.put_sha512.Goals as goal

pub returns-in-Some-clause-put : goal.returns-in-Some-clause-put
returns-in-Some-clause-put g c opened inside =
    let image = c.args.image.now in
    let G = g.D.Store in
    let r = c.insert_image_sha512.result in
    let named = c.text.ensures.value ∙ ap (λ (i : ImageData). i.file) c.image.view_is in
    let its = sym (ap (λ (i : ImageData). i.sha512) c.image.view_is) ∙ c.in-Some.is in
    puts_one G _ _ _ _ r _ _ _ _ (ap (each_with insert_sha512_text) (hash_row_is image _ _ named its))
    (λ altered step clean. puts_sha512 r image _ _ (state G c.args.tx.now.conn.now) (state G c.insert_image_sha512.new.tx.conn.now) named its (altered clean) (open_before r step.steps clean step.is_open)) (c.insert_image_sha512.ensures inside)

pub returns-in-None-clause-put : goal.returns-in-None-clause-put
returns-in-None-clause-put g c opened inside =
    let image = c.args.image.now in
    let its = sym (ap (λ (i : ImageData). i.sha512) c.image.view_is) ∙ c.in-None.is in
    let before = state g.D.Store c.args.tx.now.conn.now in
    record {
      put = λ clean. puts_no_sha512 image before its (opened clean);
      ran = ran_none {A = ⊤} {E = StoreFault} insert_sha512_text (sha512_lines image.file image.sha512) before (Ok tt) (no_hash_is image its) opened;
      blame = λ clean. tt;
      memory = search rules;
      step = search rules;
    }
