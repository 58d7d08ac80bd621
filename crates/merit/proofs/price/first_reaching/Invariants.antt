use Rattle.std.proofs.Common.{◌≡◌, drop}
use Rattle.merit.specs.Prices.{marginal}
use Rattle.merit.proofs.price.first_reaching.Given as goal

abbrev pub invariant-loop-r : goal.invariant-loop-r
invariant-loop-r l = marginal (drop l.r-index l.rungs) l.left ≡ marginal l.rungs l.demand
