use Rattle.amounts.specs.Held.{held}
use Rattle.amounts.specs.Tallies.{Tallied}
use Rattle.amounts.proofs.nets.tally_up.Given as goal

abbrev pub invariant-loop-number : goal.invariant-loop-number
invariant-loop-number l = Tallied (held l.at) l.number l.each l.pool l.total
