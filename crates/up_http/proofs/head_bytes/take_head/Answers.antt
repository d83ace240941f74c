use Rattle.std.proofs.Common.{◌≡◌, ◌≤◌, ◌++◌, ◌∙◌, length, take, ap, subst, arith}
use Rattle.std.proofs.lemmas.Grind.{common_steps}
use Rattle.httparse.specs.Grammar.{HasNoRequest}
use Rattle.up_heads.specs.Heads.{most_head}
use Rattle.up_http.proofs.HeadLaws.{no_head_past}
use Rattle.up_http.proofs.TakenBytes.{waits_before}
use Rattle.up_http.proofs.head_bytes.take_head.Goals as goal

pub returns-then-most-room-clause-ok : goal.returns-then-most-room-clause-ok
returns-then-most-room-clause-ok c = record {
  within = grind (arith, common_steps);
  added = c.loop-i.invariant.added ∙ ap (λ n. c.args.head.now.items ++ take n c.args.piece.now) (grind (arith, common_steps));
  bounded = grind (arith, common_steps);
  stands = no_head_past c.loop-i.head.items c.loop-i.invariant.none (grind (arith, common_steps));
}

pub returns-then-most-room-clause-waited : goal.returns-then-most-room-clause-waited
returns-then-most-room-clause-waited c =
    let most = c.if-piece-room.most in
    let all : c.loop-i.head.items ≡ c.args.head.now.items ++ take most c.args.piece.now = c.loop-i.invariant.added ∙ ap (λ n. c.args.head.now.items ++ take n c.args.piece.now) (grind (arith, common_steps)) in
    waits_before c.args.head.now.items c.args.piece.now most c.requires.none c.requires.short (subst HasNoRequest all c.loop-i.invariant.none)
    (subst (λ l. length l ≤ most_head) all (grind (arith, common_steps))) (grind (arith, common_steps))

pub returns-else-most-room-clause-waited : goal.returns-else-most-room-clause-waited
returns-else-most-room-clause-waited c =
    let most = c.if-piece-room.most in
    let all : c.loop-i.head.items ≡ c.args.head.now.items ++ take most c.args.piece.now = c.loop-i.invariant.added ∙ ap (λ n. c.args.head.now.items ++ take n c.args.piece.now) (grind (arith, common_steps)) in
    waits_before c.args.head.now.items c.args.piece.now most c.requires.none c.requires.short (subst HasNoRequest all c.loop-i.invariant.none)
    (subst (λ l. length l ≤ most_head) all (grind (arith, common_steps))) (grind (arith, common_steps))
