use Rattle.std.proofs.Common.{◌++◌, length}
use Rattle.journal.specs.Shown.{posted_of}
use Rattle.day_file.specs.Lines.{lines}
use Rattle.day_file.specs.Statements.{statements_from}
use Rattle.day_file.proofs.Stating.{Telling}
use Rattle.day_file.proofs.statements.push_statements.Given as goal

abbrev pub invariant-loop-number : goal.invariant-loop-number
invariant-loop-number l =
    let ls = posted_of l.journal in
    Telling ls (l.initial.out.items ++ statements_from 1 (lines l.file) ls) l.out.items l.lines

abbrev pub decreases-loop-number : goal.decreases-loop-number
decreases-loop-number l = length l.lines.left
