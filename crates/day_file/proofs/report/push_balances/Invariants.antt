use Rattle.std.proofs.Common.{◌≡◌, ◌++◌}
use Rattle.ledger.specs.Sums.{sum_below}
use Rattle.day_file.specs.Reports.{balances_below}
use Rattle.day_file.proofs.report.push_balances.Given as goal

abbrev pub invariant-loop-account : goal.invariant-loop-account
invariant-loop-account g l =
    let v = g.L.Accounts.view l.ledger in
    record {
      out : l.out.items ≡ l.initial.out.items ++ balances_below l.account v;
      sum : l.sum ≡ sum_below l.account v.balance;
    }
