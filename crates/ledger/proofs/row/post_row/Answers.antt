use Rattle.std.proofs.Common.{Ok}
use Rattle.ledger.specs.Rows.{RowAnswered}
use Rattle.ledger.proofs.Rows.{row_taken}
use Rattle.ledger.proofs.Totals.{row_conserves}
use Rattle.ledger.proofs.row.post_row.Goals as goal

pub returns : goal.returns
returns g c =
    let v = g.L.Accounts.view c.args.ledger.now in
    let w = g.L.Accounts.view c.post_each.new.ledger in
    let xs = c.args.amounts.now in
    let n = c.in_ok-n.n in
    let checked = row_taken v xs n c.in_ok-n.ensures in
    let done : RowAnswered v xs (Ok n) w = (checked.0, checked.1, c.post_each.ensures.moved) in
    record { answered = done; took = c.post_each.ensures.took; kept = c.post_each.ensures.kept; conserved = row_conserves v xs (Ok n) w done }
