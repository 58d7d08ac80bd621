use Rattle.statement.proofs.Showing.{SoFar}
use Rattle.statement.proofs.page.amounts_shown.Given as goal

abbrev pub invariant-loop-line : goal.invariant-loop-line
invariant-loop-line l = SoFar l.account l.page l.lines l.amounts.items l.passed l.line-index
