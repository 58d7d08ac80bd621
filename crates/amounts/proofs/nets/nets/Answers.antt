use Rattle.std.proofs.Common.{◌≡◌, ℕ, ℤ, pos, Option, unwrap_or, sym, ap, ◌∙◌}
use Rattle.amounts.specs.Amounts.{nets}
use Rattle.amounts.specs.Sheets.{held_at, nets_in, has_price}
use Rattle.amounts.proofs.nets.nets.Goals as goal

pub returns : goal.returns
returns c =
    let s = c.args.sheet.now in
    let given = c.in_ok-price.ensures in
    let price = ap (λ (o : Option (ℤ × ℕ)). (unwrap_or o (pos 0, 0)).0) given.value in
    let value : c.nets_at.result ≡ nets_in s = c.nets_at.ensures.value ∙ ap (λ P. nets (held_at s P)) price in
    (sym {b = has_price s} given.told, (value, c.nets_at.ensures.balance))
