use Rattle.std.proofs.Common.{ℕ, ℤ, pos, Option, unwrap_or, sym, ap, ◌∙◌}
use Rattle.offers.proofs.Tests.{and_both}
use Rattle.sheets.specs.Shown.{register_of}
use Rattle.sheets.specs.Changes.{takes_reading}
use Rattle.amounts.specs.Sheets.{has_price}
use Rattle.amounts.proofs.Readings.{changed_at}
use Rattle.amounts.proofs.nets.correction.Goals as goal

pub returns : goal.returns
returns c =
    let s = c.args.sheet in
    let read = c.in_ok-corrected.ensures in
    let given = c.in_ok-price.ensures in
    let price = ap (λ (o : Option (ℤ × ℕ)). (unwrap_or o (pos 0, 0)).0) given.value in
    let value = c.changes_at-changes.ensures ∙ changed_at c.in_ok-corrected.corrected s c.args.at c.args.kwmin c.in_ok-price.price.cents read.1.0 read.1.1 price in
    (and_both (takes_reading (register_of s) c.args.at c.args.kwmin) (has_price s) read.0 (sym {b = has_price s} given.told), (read.1.0, (read.1.1, value)))
