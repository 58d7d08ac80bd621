use Rattle.statement.proofs.Reading.{Listed}
use Rattle.statement.proofs.read.read_amounts.Given as goal

abbrev pub invariant-loop-read : goal.invariant-loop-read
invariant-loop-read l = Listed l.text l.count l.read l.amounts.items l.rest
