use Rattle.std.proofs.Common.{Err, sym, ap, ◌∙◌}
use Rattle.std.specs.Prelude.{option_copied}
use Rattle.up_canon.specs.declared.refusal.Refusal.TheVariants.{Stale}
use Rattle.up_machine.specs.Senders.{SenderData}
use Rattle.up_machine.proofs.Senders.{again_repeated, again_stale}
use Rattle.up_machine.proofs.decide_manifest.decide_again.Goals as goal

pub returns-in_ok-reply_of-in-Some-clause-decided : goal.returns-in_ok-reply_of-in-Some-clause-decided
returns-in_ok-reply_of-in-Some-clause-decided c = λ k s at moment sound from kept.
    again_repeated c.body_laws.ensures.read c.body_laws.ensures.signed k s at c.args.incoming.now c.args.sender.now (option_copied c.args.kept) c.in-Some.row.now sound moment c.requires.read from kept
    (sym c.in-Some.ensures)
    ∙ rw c.in_ok-reply_of-in-Some.ensures

pub returns-in-None-clause-decided : goal.returns-in-None-clause-decided
returns-in-None-clause-decided c = λ k s at moment sound from kept.
    again_stale c.body_laws.ensures.read c.body_laws.ensures.signed k s at c.args.incoming.now c.args.sender.now (option_copied c.args.kept) sound moment c.requires.read from kept
    (sym c.in-None.ensures) c.requires.older
    ∙ ap (λ (d : SenderData). Err (Stale d.vehicle.vehicle.last)) (sym c.sender.view_is)
