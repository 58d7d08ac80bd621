use Rattle.std.proofs.Common.{◌≡◌, drop}
use Rattle.ledger.specs.Rows.{first_refused}
use Rattle.ledger.proofs.row.check_amounts.Given as goal

abbrev pub invariant-loop-account : goal.invariant-loop-account
invariant-loop-account g l =
    let v = g.L.Accounts.view l.ledger in
    first_refused v l.account (drop l.account l.amounts) ≡ first_refused v 0 l.amounts
