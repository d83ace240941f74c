use Rattle.std.proofs.Common.{◌≡◌, ◌∙◌, Result, Err, ap, inl, inr, of_calls, rules, sym}
use Rattle.std.specs.Prelude.{IsErrAnd}
use Rattle.std.proofs.lemmas.Result.{err_from_is_err_and}
use Rattle.up_program.specs.declared.unopened.Unopened.{Unopened}
use Rattle.up_file.proofs.opening.open_named.Goals as goal

pub returns-clause-named : goal.returns-clause-named
returns-clause-named g c = inr (search rules, c.maker.result, search (rules, of_calls), inl (sym c.in_ok-made.ensures.told, (c.opener.result, search (rules, of_calls), c.opened.ensures.told)))

-- what the exit of a `?` tells
passed : {F : Type 0} → (r : Result F Unopened) (cause : Unopened) → IsErrAnd r (λ x. x ≡ cause) → r ≡ Err cause
passed r cause h = let (x, is, same) = err_from_is_err_and r h in is ∙ ap Err same

pub returns-in_err-made-clause-named : goal.returns-in_err-made-clause-named
returns-in_err-made-clause-named g c = inr (search rules, c.maker.result, search (rules, of_calls), inr (c.in_err-made.field-0.0, sym c.in_err-made.ensures.told, search rules, passed c.from_residual.result c.in_err-made.field-0.0 c.from_residual.ensures.1))
