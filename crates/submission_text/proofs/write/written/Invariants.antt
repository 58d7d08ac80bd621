use Rattle.submission_text.proofs.Writing.{Laid}
use Rattle.submission_text.proofs.write.written.Given as goal

abbrev pub invariant-loop-p : goal.invariant-loop-p
invariant-loop-p l = Laid l.initial.draft l.draft l.pairs l.p-index
