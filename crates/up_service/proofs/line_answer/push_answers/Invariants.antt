use Rattle.std.proofs.Common.{◌≡◌, ◌++◌, map, take}
use Rattle.up_lines.specs.LineRuns.{print}
use Rattle.up_lines.specs.Runs.{written}
use Rattle.up_script.specs.PrintedLines.{answer_text}
use Rattle.up_service.proofs.line_answer.push_answers.Given as goal

-- the answers so far are appended
abbrev pub invariant-loop-answer : goal.invariant-loop-answer
invariant-loop-answer l = l.answers.items ≡ l.fn.answers.items ++ written print (map answer_text (take l.answer-index l.told))
