use Rattle.std.proofs.Common.{◌≡◌, length, take, drop}
use Rattle.pool.specs.Held.{held}
use Rattle.day.specs.Law.{Goes}
use Rattle.day.proofs.lent.make_all.Given as goal

abbrev pub invariant-loop-i : goal.invariant-loop-i
invariant-loop-i g l =
    let d = held l.initial.register l.initial.sheets in
    (length l.answers ≡ length l.initial.answers)
    × ((drop l.i l.answers ≡ drop l.i l.initial.answers)
    × Goes g.L.Accounts.view g.L.Ledger.took d l.initial.ledger (take l.i l.calls) (take l.i l.answers) (held l.register l.sheets) l.ledger)
