use Rattle.std.proofs.Common.{length}
use Rattle.day_file.proofs.Courses.{Going}
use Rattle.day_file.proofs.course.Course.run.Given as goal

abbrev pub invariant-loop-number : goal.invariant-loop-number
invariant-loop-number g l = Going g.L.Accounts.view g.L.Ledger.took l.file l.initial.self l.initial.ledger l.lines l.self l.ledger

abbrev pub decreases-loop-number : goal.decreases-loop-number
decreases-loop-number g l = length l.lines.left
