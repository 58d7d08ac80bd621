use Rattle.std.proofs.Common.{◌≡◌, ◌++◌, map, take}
use Rattle.worked_figures.specs.Answers.{in_line}
use Rattle.worked_figures.proofs.report.push_in_line.Given as goal

abbrev pub invariant-loop-byte : goal.invariant-loop-byte
invariant-loop-byte l = l.out.items ≡ l.initial.out.items ++ map in_line (take l.byte-index l.text)
