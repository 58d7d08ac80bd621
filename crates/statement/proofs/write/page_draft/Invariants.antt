use Rattle.statement.proofs.Writing.{Laid}
use Rattle.statement.proofs.write.page_draft.Given as goal

abbrev pub invariant-loop-cents : goal.invariant-loop-cents
invariant-loop-cents l = Laid l.initial.draft l.draft l.amounts l.cents-index
