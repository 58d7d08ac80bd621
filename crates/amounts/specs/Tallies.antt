-- The amounts of the accounts by number, as they are summed up.
use Rattle.std.specs.Prelude.{◌≡◌, ℕ, zero, suc, ◌-◌, ◌*◌, ◌<◌, ◌≤◌, List, length, ℤ, pos, neg_ℤ, ◌+ℤ◌, ◌-ℤ◌, slice_index_or, unsigned_abs}
use Rattle.schedule.specs.Levies.{levy}
use Rattle.schedule.specs.Ramps.{sum_to}
use Rattle.amounts.specs.declared.account.Amounts.{Amounts}
use Rattle.amounts.specs.Sums.{sum_to_int}
use Rattle.amounts.specs.Amounts.{PricedSheet, energy_amount, compensation}

-- no net of a sheet is further from zero
abbrev pub near : ℤ → Type 0
near z = unsigned_abs z ≤ 25000000000

abbrev pub no_amounts : Amounts
no_amounts = record { energy = pos 0; compensation = 0 }

abbrev pub amounts_on : PricedSheet → ℕ → Amounts
amounts_on h a = record { energy = energy_amount h a; compensation = compensation h a }

-- each account's amounts are within bounds
abbrev pub Small : Amounts → Type 0
Small a = (unsigned_abs a.energy ≤ 1250000000) × (a.compensation ≤ 1875000000)

-- of the accounts below a: their amounts, minus the sum x of their energy amounts, and the sum n of their compensations
pub record Tallied (h : PricedSheet) (a : ℕ) (each : List Amounts) (x : ℤ) (n : ℕ) : Type 0 where
  pub len : length each ≡ 12
  pub known : (k : ℕ) → 1 ≤ k → k < a → slice_index_or each k no_amounts ≡ amounts_on h k
  pub small : (k : ℕ) → Small (slice_index_or each k no_amounts)
  pub pool : x ≡ neg_ℤ (sum_to_int (energy_amount h) (a - 1))
  pub total : n ≡ sum_to (compensation h) (a - 1)
  pub pooled : unsigned_abs x ≤ 1250000000 * (a - 1)
  pub totaled : n ≤ 1875000000 * (a - 1)

-- the net of account a, of the amounts tallied and the loads
abbrev pub net_from : List Amounts → ℤ → ℕ → List ℕ → ℕ → ℤ
net_from each x n ls zero = x
net_from each x n ls (suc a) = (slice_index_or each (suc a) no_amounts).energy +ℤ pos (slice_index_or each (suc a) no_amounts).compensation -ℤ pos (levy n ls (suc a))
