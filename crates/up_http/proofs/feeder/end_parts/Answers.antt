use Rattle.std.proofs.Common.{◌≡◌, ◌<◌, ◌+◌, ◌++◌, ◌∙◌, [], Some, length, sym, ap, subst}
use Rattle.up_http.specs.Parts.{Stage, body_of}
use Rattle.up_http.specs.Requests.{First}
use Rattle.up_http.proofs.FeedLaws.{ends_cut}
use Rattle.up_http.proofs.feeder.end_parts.Goals as goal

pub returns-in-Some-clause-ends : goal.returns-in-Some-clause-ends
returns-in-Some-clause-ends c =
    let waiting = c.in-Some.waiting in
    let kept : c.args.parts.now.waiting ≡ Some waiting = sym c.take.ensures.value ∙ c.in-Some.is in
    let stage : Stage c.args.parts.now.head.items c.args.parts.now.begun (Some waiting) = subst (Stage c.args.parts.now.head.items c.args.parts.now.begun) kept (c.requires.stage c.if-parts.false) in
    let is = c.give.ensures.same ∙ c.fixed.ensures in
    let ends = ends_cut c.args.parts.now.head.items waiting c.args.parts.now.given c.give.result stage.0 stage.1 is in
    let rest = ap (λ w. c.args.parts.now.head.items ++ body_of w) (sym kept) in (
      c.if-parts.false,
      c.requires.more c.if-parts.false,
      subst (λ l. 0 < length l) rest ends.0,
      subst (λ l. First c.args.parts.now.given l c.give.result []) rest ends.1,
      ap (λ n. n.what) is,
      ap (λ n. n.last) is,
      c.give.ensures.fed ∙ ap (λ n. record { rest = []; given = c.args.parts.now.given + 1; ended = n.last }) c.fixed.ensures,
    )
