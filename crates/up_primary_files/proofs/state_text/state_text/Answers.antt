use Rattle.serde_json.specs.View.{view}
use Rattle.up_primary_files.proofs.ReadAgain.{told_so, written_again}
use Rattle.up_primary_files.proofs.state_text.state_text.Goals as goal

-- src/state_text.rt:20:1
pub returns : goal.returns
returns c =
    let s = c.args.state.now in
    let p = c.args.next.now in
    let served = c.args.served.now in
    written_again s p served c.root_text-director.result.now c.root_text-image.result.now (view c.in_ok-value.value) c.to_string-written.result c.in_ok-value.ensures
    (told_so c.as_str.result.now s.roots.director s.primary.director.root.version c.as_slice.result.now served.director_roots p.director.root.version c.root_text-director.result.now c.as_str.ensures c.as_slice.ensures c.root_text-director.ensures)
    (told_so c.as_str-2.result.now s.roots.image s.primary.image.root.version c.as_slice-2.result.now served.image_roots p.image.root.version c.root_text-image.result.now c.as_str-2.ensures c.as_slice-2.ensures c.root_text-image.ensures)
    c.to_string-written.ensures.reads_back
