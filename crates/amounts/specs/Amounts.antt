-- The amounts of accounts 1..11 on a sheet at its balancing price, and the twelve nets.
use Rattle.std.specs.Prelude.{ℕ, zero, suc, ◌-◌, cond, List, map, ℤ, pos, ◌+ℤ◌, ◌-ℤ◌, ◌*ℤ◌, neg_ℤ, nat_lt, slice_index_or}
use Rattle.std.specs.List.{range_with_len}
use Rattle.schedule.specs.Rounding.{rounded, rounded_natural, M}
use Rattle.schedule.specs.Ramps.{sum_to}
use Rattle.schedule.specs.Levies.{levy}
use Rattle.sheets.specs.declared.facility.Facility.{Facility}
use Rattle.sheets.specs.declared.row.Figures.{Figures}
use Rattle.sheets.specs.declared.row.Position.{Position}
use Rattle.sheets.specs.Sheets.{no_position}
use Rattle.amounts.specs.Sums.{metered, own_part, sum_of, sum_to_int}

pub record PricedSheet : Type 0 where
  pub facilities : List Facility
  pub figures : List Figures
  pub positions : List Position
  pub price : ℤ

abbrev pub position_of : PricedSheet → ℕ → Position
position_of h a = slice_index_or h.positions (a - 1) no_position

-- reading × loss factor over the account's facilities, less 10,000 × (contract + load)
unfoldable pub deviation : PricedSheet → ℕ → ℤ
deviation h a =
    pos (sum_of metered a h.facilities h.figures) -ℤ pos 10000 *ℤ ((position_of h a).contract +ℤ pos (position_of h a).load)

unfoldable pub energy_amount : PricedSheet → ℕ → ℤ
energy_amount h a = rounded (h.price *ℤ deviation h a) M

-- rounded once for the account
unfoldable pub compensation : PricedSheet → ℕ → ℕ
compensation h a = rounded_natural (sum_of (own_part h.price) a h.facilities h.figures) M

abbrev pub all_compensation : PricedSheet → ℕ
all_compensation h = sum_to (compensation h) 11

abbrev pub loads : List Position → List ℕ
loads ps = map (λ p. p.load) ps

-- what the account's load bears of all compensation
abbrev pub levied : PricedSheet → ℕ → ℕ
levied h a = levy (all_compensation h) (loads h.positions) a

-- account 0 is the pool; past the eleven there is nothing
unfoldable pub net : PricedSheet → ℕ → ℤ
net h zero = neg_ℤ (sum_to_int (energy_amount h) 11)
net h (suc a) = cond (nat_lt a 11) (energy_amount h (suc a) +ℤ pos (compensation h (suc a)) -ℤ pos (levied h (suc a))) (pos 0)

-- the nets of accounts 0..11
unfoldable pub nets : PricedSheet → List ℤ
nets h = map (net h) (range_with_len 0 12)
