use Rattle.std.proofs.Common.{◌≡◌, [], take}
use Rattle.ledger.specs.Rows.{posts, Moved, row_posts}
use Rattle.ledger.proofs.Moves.{up_to}
use Rattle.ledger.proofs.row.post_each.Given as goal

abbrev pub invariant-loop-account : goal.invariant-loop-account
invariant-loop-account g l =
    let ps = row_posts 0 (take l.account l.amounts) in
    g.L.Ledger.took l.initial.ledger ps l.ledger
    × (Moved (g.L.Accounts.view l.initial.ledger) (up_to l.amounts l.account) (posts (take l.account l.amounts)) (g.L.Accounts.view l.ledger)
    × (ps ≡ [] → l.ledger ≡ l.initial.ledger))
