use Rattle.std.proofs.Common.{arith, rules}
use Rattle.amounts.specs.Sums.{metered}
use Rattle.amounts.proofs.facility.metered.Goals as goal

pub returns : goal.returns
returns c =
    let sum = c.sum_over.ensures metered 375000000000 (λ x n counted. search rules) in
    record { value = sum.0; bound = omega (arith, sum.1) }
