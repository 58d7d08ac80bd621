-- What is claimed of the nets, for every sheet.
use Rattle.std.specs.Prelude.{◌≡◌, ℕ, ◌≤◌, true, length, pos}
use Rattle.ledger.specs.Sums.{row_sum}
use Rattle.sheets.specs.Sheets.{has_load}
use Rattle.amounts.specs.Amounts.{PricedSheet, net, nets}

-- the twelve nets sum to zero wherever some load is not zero
abbrev pub NetsBalance : Type 0
NetsBalance = (h : PricedSheet) → length h.positions ≤ 11 → has_load h.positions ≡ true → row_sum (nets h) ≡ pos 0

-- an account past the eleven has no net
abbrev pub NoneBeyond : Type 0
NoneBeyond = (h : PricedSheet) (a : ℕ) → 12 ≤ a → net h a ≡ pos 0
