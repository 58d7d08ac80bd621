use Rattle.std.proofs.Common.{sym, ◌∙◌, w64, SFits, rules}
use Rattle.std.proofs.lemmas.Int.{to_z-of_z}
use Rattle.day_file.proofs.Sums.{one_more}
use Rattle.day_file.proofs.report.push_balances.Goals as goal

pub overflow_add-sum : goal.overflow_add-sum
overflow_add-sum g c =
    let f : SFits w64 c.unwrap-cents.result = search rules in
    let more = one_more _ (g.L.Accounts.sound c.args.ledger.now) c.loop-account.account _ _ _ _ (sym c.unwrap-cents.ensures ∙ c.balance.ensures) c.loop-account.invariant.sum c.loop-account.invariant.out in
    simp to_z-of_z more.fits

pub loop-account-preserved : goal.loop-account-preserved
loop-account-preserved g c =
    let f : SFits w64 c.unwrap-cents.result = search rules in
    let more = one_more _ (g.L.Accounts.sound c.args.ledger.now) c.loop-account.account _ _ _ _ (sym c.unwrap-cents.ensures ∙ c.balance.ensures) c.loop-account.invariant.sum c.loop-account.invariant.out in
    let m = more.fits in
    let text = simp to_z-of_z at c.balance_line.ensures in
    simp to_z-of_z (record { out = rw (c.in_ok-extend_from_slice.ensures.items, c.bytes.ensures.value, text) more.out; sum = more.sum })
