use Rattle.std.proofs.Common.{◌∙◌, Some, None, length, sym, ap, take_all, take, arith}
use Rattle.std.proofs.lemmas.Str.Pattern.{split_once_first}
use Rattle.up_heads.proofs.routed.path_of.Goals as goal

pub returns-in-Some : goal.returns-in-Some
returns-in-Some c = (split_once_first 63 c.args.target.now (Some (c.in-Some.path, c.in-Some.field-0-1)) c.in-Some.ensures.cases (omega arith)).1

pub returns-in-None : goal.returns-in-None
returns-in-None c =
    let none = split_once_first 63 c.args.target.now None c.in-None.ensures.cases (omega arith) in
    sym (ap (λ n. take n c.args.target.now) none ∙ take_all (length c.args.target.now) c.args.target.now (omega arith))
