use Rattle.std.proofs.Common.{◌-◌, get_or, ap, arith}
use Rattle.std.proofs.lemmas.Int.{ints}
use Rattle.sheets.specs.declared.row.Position.{Position}
use Rattle.sheets.specs.declared.row.Row.{Row}
use Rattle.sheets.specs.Sheets.{no_position}
use Rattle.amounts.specs.Amounts.{deviation}
use Rattle.amounts.proofs.Spans.{sheet_placed}
use Rattle.amounts.proofs.account.AtPrice.deviation.Goals as goal

pub returns : goal.returns
unfolding deviation
returns c =
    let s = c.args.self.sheet.now in
    let k = c.args.account.number - 1 in
    let p = ap (λ (r : Row). get_or r.positions k no_position) c.row-row.ensures in
    let contract = ap (λ (q : Position). q.contract) p in
    let load = ap (λ (q : Position). q.load) p in
    let placed = sheet_placed s.register.now s.row s.sound k in
    let m = c.metered.ensures.value in
    let b = c.metered.ensures.bound in
    record { value = omega (arith, ints); bound = omega (arith, ints) }
