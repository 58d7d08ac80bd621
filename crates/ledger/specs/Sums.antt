-- Sums of cents: over a row, and over all accounts of a ledger.
use Rattle.std.specs.Prelude.{ℕ, zero, suc, List, [], ◌∷◌, ℤ, pos, ◌+ℤ◌}
use Rattle.ledger.specs.View.{View}

-- f 0 + .. + f (n - 1)
abbrev pub sum_below : ℕ → (ℕ → ℤ) → ℤ
sum_below zero f = pos 0
sum_below (suc n) f = sum_below n f +ℤ f n

abbrev pub ledger_sum : View → ℤ
ledger_sum v = sum_below v.count v.balance

abbrev pub row_sum : List ℤ → ℤ
row_sum [] = pos 0
row_sum (x ∷ xs) = x +ℤ row_sum xs
