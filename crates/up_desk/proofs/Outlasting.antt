-- Kept replies outlast each command.
use Rattle.std.proofs.Common.{◌≡◌, ℕ, [], ◌∷◌, Bool, true, false, Some, sym, ◌∙◌, subst}
use Rattle.std.specs.Prelude.{MatchBool}
use Rattle.up_sign.specs.Schemes.{Rules}
use Rattle.up_machine.specs.declared.command.Command.{Command}
use Rattle.up_machine.specs.declared.answer.Answer.{Answer}
use Rattle.up_machine.specs.Laws.{KeptRepliesOutlastRuns}
use Rattle.up_machine.specs.Repeats.{Sent, serve, thinned}
use Rattle.up_machine.specs.RepeatLaws.{ServedIsThinned}
use Rattle.up_machine.specs.Replies.{kept_reply}
use Rattle.up_machine.specs.State.{State}
use Rattle.up_desk.specs.Serving.{is_failed, IsAnswered, RepliesStay}

abbrev item : ℕ → Command → Sent
item at c = record { item = record { at = at; command = c }; lost = false }

by_loss : (k : Rules) (s new : State) (at : ℕ) (c : Command) (a : Answer) (lost : Bool) → ServedIsThinned → KeptRepliesOutlastRuns
    → MatchBool lost (new ≡ s) ((a ≡ (serve k s at c).answer) × (new ≡ (serve k s at c).next)) → RepliesStay s new
by_loss k s new at c a true thin outlast is = λ vehicle number reply kept. subst (λ (t : State). kept_reply t vehicle number ≡ Some reply) (sym is) kept
by_loss k s new at c a false thin outlast is = λ vehicle number reply kept.
    subst (λ (t : State). kept_reply t vehicle number ≡ Some reply) (sym (is.1 ∙ thin k s (item at c ∷ [])))
    (outlast k s (thinned k s (item at c ∷ [])) vehicle number reply kept)

-- whatever a command is answered, the replies stay
pub answered_stays : (k : Rules) (s new : State) (at : ℕ) (c : Command) (a : Answer) → ServedIsThinned → KeptRepliesOutlastRuns
    → IsAnswered a s new (serve k s at c) → RepliesStay s new
answered_stays k s new at c a thin outlast is = by_loss k s new at c a (is_failed a) thin outlast is
