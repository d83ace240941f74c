use Rattle.up_primary_files.proofs.Whole.{round_told}
use Rattle.up_primary_files.proofs.round.verified.Goals as goal

-- src/round.rt:78:1
pub returns-in-Ok : goal.returns-in-Ok
returns-in-Ok c = round_told c.meaning_laws.ensures c.args.now c.args.before.now c.args.served.now c.as_slice-held.result.now c.in-Ok.field-0
    c.state_text-written.result c.with_state.result c.requires c.as_slice-held.ensures c.in-Ok.ensures c.state_text-written.ensures c.with_state.ensures
