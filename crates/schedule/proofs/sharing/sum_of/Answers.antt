use Rattle.std.proofs.Common.{◌≡◌, sum_by, arith, rules}
use Rattle.std.proofs.lemmas.List.Sums.{sum_by-le}
use Rattle.schedule.proofs.sharing.sum_of.Goals as goal

pub returns-clause-bound : goal.returns-clause-bound
returns-clause-bound c =
    let s : c.sum.result ≡ sum_by (λ x. x) c.args.loads.now = search rules in
    omega (arith, s, c.requires, sum_by-le (λ x. x) 4294967295 c.args.loads.now (search rules))
