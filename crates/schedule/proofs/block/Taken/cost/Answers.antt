use Rattle.std.proofs.Common.{◌≡◌, ◌*◌, ◌≤◌, ◌-ℤ◌, nat_abs, arith}
use Rattle.std.proofs.lemmas.Int.{ints}
use Rattle.schedule.proofs.Weights.{weighed}
use Rattle.schedule.proofs.block.Taken.cost.Goals as goal

pub overflow_mul-result-2 : goal.overflow_mul-result-2
overflow_mul-result-2 c =
    let near : c.abs_diff.result ≤ 250000 = omega (arith, ints) in
    omega (arith, weighed c.args.self.energy c.get.result c.abs_diff.result c.get.ensures.high near)

pub returns : goal.returns
returns c =
    let near : c.abs_diff.result ≤ 250000 = omega (arith, ints) in
    let far : c.abs_diff.result ≡ nat_abs (c.args.self.block.price -ℤ c.args.price.cents) = omega (arith, ints) in
    record {
      value = (λ i. c.args.self.energy * c.get.ensures.value i * far i);
      bound = omega (arith, weighed c.args.self.energy c.get.result c.abs_diff.result c.get.ensures.high near);
    }
