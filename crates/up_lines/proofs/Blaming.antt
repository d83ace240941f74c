-- What ended a run is told of the part that failed.
use Rattle.std.proofs.Common.{◌≡◌, ◌∙◌, ap, sym, subst, ℕ, List, Result, Ok, Err, IfErr, IsErrAnd}
use Rattle.std.proofs.lemmas.Result.{err_from_is_err_and}
use Rattle.up_lines.specs.declared.progress.Progress.{Progress}
use Rattle.up_lines.specs.declared.fault.ScriptCause.{ScriptCause}
use Rattle.up_lines.specs.declared.fault.ScriptCause.TheVariants.{Memory, Read, Write, TooLong}
use Rattle.up_lines.specs.Runs.{Blames, BlamesWriter, EndsRun}
use Rattle.up_lines.specs.Progress.{Refuses}

-- a part of a line is refused before anything is written
pub blames_part : (cause : ScriptCause) (part : List ℕ) (at : Progress) (failed stands : Type 0) → Refuses cause part at → stands → BlamesWriter cause failed stands
blames_part Memory part at failed stands why writer = (tt, writer)
blames_part TooLong part at failed stands why writer = (tt, writer)
blames_part Read part at failed stands why writer = absurd why
blames_part Write part at failed stands why writer = absurd why

-- the reader stands where the writer alone was used
pub blames_both : (cause : ScriptCause) (read_failed reader_stands write_failed writer_stands : Type 0) → reader_stands → BlamesWriter cause write_failed writer_stands
    → Blames cause read_failed reader_stands write_failed writer_stands
blames_both Memory read_failed reader_stands write_failed writer_stands reader told = (reader, told.1)
blames_both TooLong read_failed reader_stands write_failed writer_stands reader told = (reader, told.1)
blames_both Write read_failed reader_stands write_failed writer_stands reader told = (reader, told.1)
blames_both Read read_failed reader_stands write_failed writer_stands reader told = absurd told.0

-- so it does where the result is passed on
pub blames_all : {T : Type 0} → (r : Result T ScriptCause) (read_failed reader_stands write_failed writer_stands : Type 0) → reader_stands
    → IfErr r (λ cause. BlamesWriter cause write_failed writer_stands) → IfErr r (λ cause. Blames cause read_failed reader_stands write_failed writer_stands)
blames_all (Ok _) read_failed reader_stands write_failed writer_stands reader told = tt
blames_all (Err cause) read_failed reader_stands write_failed writer_stands reader told = blames_both cause read_failed reader_stands write_failed writer_stands reader told

-- a run that the exit of a `?` ends
pub ends_early : (reader_done read_failed reader_stands write_failed writer_stands : Type 0) (r : Result (Unit {0}) ScriptCause) (cause : ScriptCause) → IsErrAnd r (λ x. x ≡ cause)
    → Blames cause read_failed reader_stands write_failed writer_stands → EndsRun (λ c. c) reader_done read_failed reader_stands write_failed writer_stands r
ends_early reader_done read_failed reader_stands write_failed writer_stands r cause h blames =
    let (x, is, same) = err_from_is_err_and r h in
    subst (EndsRun (λ c. c) reader_done read_failed reader_stands write_failed writer_stands) (sym (is ∙ ap Err same)) (record { goes_on = tt; ended = tt; blames = blames })
