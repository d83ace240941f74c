use Rattle.std.proofs.Common.{◌≡◌, ◌++◌, take}
use Rattle.std.specs.Prelude.{flat_map}
use Rattle.up_primary_files.specs.Verdicts.{install_line}
use Rattle.up_primary_files.proofs.verdict.push_installs.Given as goal

-- the lines so far stand behind what stood there
abbrev pub invariant-loop-target : goal.invariant-loop-target
invariant-loop-target l = l.out.bytes.items ≡ l.fn.out.bytes.items ++ flat_map install_line (take l.target-index l.installs)
