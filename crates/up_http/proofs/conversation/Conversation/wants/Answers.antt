use Rattle.std.proofs.Common.{◌≡◌, ◌-◌, ◌∙◌, false, length, sym, ap, arith, length-drop}
use Rattle.up_http.proofs.TalkLaws.{wants_write}
use Rattle.up_http.proofs.conversation.Conversation.wants.Goals as goal

pub returns-then-self-len : goal.returns-then-self-len
returns-then-self-len c =
    let asks : c.args.self.now.asking ≡ false = ap (λ t. t.asking) (sym c.self.view_is) ∙ c.if-self.false in
    let long : length c.args.self.now.unsent ≡ length c.self.inside.answer.items - c.self.inside.sent =
    ap (λ t. length t.unsent) (sym c.self.view_is) ∙ length-drop c.self.inside.sent c.self.inside.answer.items in
    wants_write c.args.self.now asks (omega (arith, long, c.if-self-len.true))
