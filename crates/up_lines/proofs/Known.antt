-- What a run says where it is known what the reader had.
use Rattle.std.proofs.Common.{◌≡◌, ℕ, Bool, true, false, List, [], ◌++◌, Ok, Err, IfSome, Some, None, refl, ap, sym, ◌∙◌, subst, append_assoc, append-nil}
use Rattle.std.specs.Prelude.{Option, Result}
use Rattle.std.proofs.KnownBytes.{Consumes-whole}
use Rattle.up_lines.specs.declared.fault.ScriptCause.TheVariants.{TooLong}
use Rattle.up_lines.specs.declared.fault.ScriptFault.{ScriptFault}
use Rattle.up_lines.specs.Lines.{lines_of, fits, asked}
use Rattle.up_lines.specs.Runs.{At}
use Rattle.up_lines.specs.LineRuns.{Gives, AreFirst, FinishedLines, Tells, RanLines, AnswersFirst, RunsLines}
use Rattle.up_lines.proofs.Later.{whole_first}

-- what is to be answered of the whole input begins with what is to be answered of what came
first_of : (ended : Bool) (came left : List ℕ) → (ended ≡ true → left ≡ []) → (others : List (List ℕ)) × (asked (lines_of true (came ++ left)) ≡ asked (lines_of ended came) ++ others)
first_of false came left end = whole_first came left
first_of true came left end = ([], ap (λ l. asked (lines_of true l)) (ap (λ l. came ++ l) (end refl) ∙ append-nil came) ∙ sym (append-nil (asked (lines_of true came))))

-- what was first of some lines is first of more
first_among : (lines more done next : List (List ℕ)) → AreFirst lines done next → AreFirst (lines ++ more) done next
first_among lines more done next (others, is, few) = (others ++ more, ap (λ l. l ++ more) is ∙ append_assoc (done ++ next) others more, few)

module _ {S : Type 0} (gives : Gives S) (first now : At S) where
  known_whole : (had has : Option (List ℕ)) (answered : ℕ) → RanLines gives had has first now (Ok answered)
      → IfSome had (λ input. FinishedLines gives input answered first now)
  known_whole had has answered ran = Consumes-whole had has ran.came (λ input. FinishedLines gives input answered first now) ran.read (ran.at_end ran.leaves.0) ran.leaves.1

  known_too_long : (had has : Option (List ℕ)) (fault : ScriptFault) → RanLines gives had has first now (Err fault)
      → fault.cause ≡ TooLong → IfSome had (λ input. fits (lines_of true input) ≡ false)
  known_too_long None has fault ran is = tt
  known_too_long (Some input) None fault ran is = absurd ran.read
  known_too_long (Some input) (Some left) fault ran is =
      let st = ran.leaves.0 in
      let past : Tells TooLong ran.came ran.ended st.done st.next = subst (λ c. Tells c ran.came ran.ended st.done st.next) is st.first_ones.1 in
      ap (λ l. fits (lines_of true l)) ran.read ∙ (past.0 left).0

  known_prefix : (had has : Option (List ℕ)) (fault : ScriptFault) → RanLines gives had has first now (Err fault)
      → IfSome had (λ input. AnswersFirst gives input fault first now)
  known_prefix None has fault ran = tt
  known_prefix (Some input) None fault ran = absurd ran.read
  known_prefix (Some input) (Some left) fault ran =
      let (others, same) = first_of ran.ended ran.came left ran.at_end in
      let st = ran.leaves.0 in
      record {
        done = st.done;
        next = st.next;
        answers = st.answers;
        last = st.last;
        prefix = st.prefix;
        first_ones = subst (λ l. AreFirst l st.done st.next) (sym (ap (λ l. asked (lines_of true l)) ran.read ∙ same)) (first_among (asked (lines_of ran.ended ran.came)) others st.done st.next st.first_ones.0);
        run = st.run;
        breaks = st.breaks;
        answered_is = st.answered_is;
        wrote = st.wrote;
      }

  pub runs_lines : (had has : Option (List ℕ)) (result : Result ℕ ScriptFault) → RanLines gives had has first now result → RunsLines gives had has first now result
  runs_lines had has (Ok answered) ran = record { ran = ran; whole = known_whole had has answered ran; prefix = tt; too_long = tt }
  runs_lines had has (Err fault) ran = record { ran = ran; whole = tt; prefix = known_prefix had has fault ran; too_long = known_too_long had has fault ran }
