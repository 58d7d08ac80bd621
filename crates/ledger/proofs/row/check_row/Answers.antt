use Rattle.std.proofs.Common.{◌<◌, ◌≤◌, Some, None, Ok, Err, sym, ap, ◌∙◌, arith}
use Rattle.ledger.specs.declared.reason.Reason.TheVariants.{NoPlaces}
use Rattle.ledger.specs.Rows.{posts}
use Rattle.ledger.proofs.Rows.{too_few_places, places_enough}
use Rattle.ledger.proofs.row.check_row.Goals as goal

pub returns-then-from-n : goal.returns-then-from-n
returns-then-from-n g c =
    let v = g.L.Accounts.view c.args.ledger.now in
    let xs = c.args.amounts.now in
    let short : v.places < posts xs = omega arith in
    ap (λ n. Err (record { reason = NoPlaces; place = n })) c.count_posts-n.ensures ∙ too_few_places v xs short

pub returns-in_err-check_amounts : goal.returns-in_err-check_amounts
returns-in_err-check_amounts g c =
    let v = g.L.Accounts.view c.args.ledger.now in
    let xs = c.args.amounts.now in
    let room : posts xs ≤ v.places = omega arith in
    let e = c.in_err-check_amounts.field-0.0 in
    let answer = places_enough v xs (Some e) room (sym c.in_err-check_amounts.ensures) in
    grind arith

pub returns : goal.returns
returns g c =
    let v = g.L.Accounts.view c.args.ledger.now in
    let xs = c.args.amounts.now in
    let room : posts xs ≤ v.places = omega arith in
    ap Ok c.count_posts-n.ensures ∙ places_enough v xs None room (sym c.in_ok-check_amounts.ensures)
