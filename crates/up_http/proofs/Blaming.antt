-- What ended a run is told of the part that failed.
use Rattle.std.proofs.Common.{◌≡◌, ◌∙◌, ◌≤◌, Result, Ok, Err, IfErr, OnOk, ap, subst, sym}
use Rattle.std.specs.Prelude.{IsErrAnd}
use Rattle.std.proofs.lemmas.Result.{err_from_is_err_and}
use Rattle.up_lines.specs.Runs.{At, Blames, BlamesWriter}
use Rattle.up_http.specs.Serving.{cause_of}
use Rattle.up_http.specs.Steps.{TakesStep}
use Rattle.up_http.specs.declared.fault.Fault.{Fault}
use Rattle.up_http.specs.declared.fault.Fault.TheVariants.{Memory, Read, Write}
use Rattle.up_http.specs.declared.progress.Progress.{Progress}

-- the reader stands where the writer alone was used
pub blames_both : (cause : Fault) (read_failed reader_stands write_failed writer_stands : Type 0) → reader_stands → BlamesWriter (cause_of cause) write_failed writer_stands
    → Blames (cause_of cause) read_failed reader_stands write_failed writer_stands
blames_both Memory read_failed reader_stands write_failed writer_stands reader told = (reader, told.1)
blames_both Write read_failed reader_stands write_failed writer_stands reader told = (reader, told.1)
blames_both Read read_failed reader_stands write_failed writer_stands reader told = absurd told.0

-- so it does where the result is passed on
pub blames_all : {T : Type 0} → (r : Result T Fault) (read_failed reader_stands write_failed writer_stands : Type 0) → reader_stands
    → IfErr r (λ cause. BlamesWriter (cause_of cause) write_failed writer_stands) → IfErr r (λ cause. Blames (cause_of cause) read_failed reader_stands write_failed writer_stands)
blames_all (Ok _) read_failed reader_stands write_failed writer_stands reader told = tt
blames_all (Err cause) read_failed reader_stands write_failed writer_stands reader told = blames_both cause read_failed reader_stands write_failed writer_stands reader told

-- a reader that ended stands, whatever the result
pub stands_all : {T E Q : Type 0} → (r : Result T E) → Q → OnOk r Q
stands_all (Ok _) stands = stands
stands_all (Err _) stands = tt

-- a step at which `?` passes a cause on
pub step_stops : {S A : Type 0} (Done : A → Progress → At S → Progress → At S → Type 0) (StopsFor : Fault → Progress → At S → Progress → At S → Type 0)
    (old : Progress) (before : At S) (new : Progress) (after : At S) (failed can_write : Type 0) (r : Result A Fault) (cause : Fault)
    → IsErrAnd r (λ x. x ≡ cause) → StopsFor cause old before new after → old.answered ≤ new.answered → BlamesWriter (cause_of cause) failed can_write
    → TakesStep Done StopsFor old before new after failed can_write r
step_stops Done StopsFor old before new after failed can_write r cause h stops grows blames =
    let (x, is, same) = err_from_is_err_and r h in
    subst (TakesStep Done StopsFor old before new after failed can_write) (sym (is ∙ ap Err same)) (record { ok = tt; err = stops; grows = grows; goes_on = tt; blames = blames })
