use Rattle.std.proofs.Common.{arith, rules}
use Rattle.amounts.specs.Sums.{own_part}
use Rattle.amounts.proofs.facility.owed.Goals as goal

pub returns : goal.returns
returns c =
    let sum = c.sum_over.ensures (own_part c.args.at.price.cents) 93750000000000000 (λ x n counted. search rules) in
    record { value = sum.0; bound = omega (arith, sum.1) }
