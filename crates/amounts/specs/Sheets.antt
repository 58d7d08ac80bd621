-- A sheet at its balancing price, which its own curves and demand give.
use Rattle.std.specs.Prelude.{◌≡◌, ℕ, Bool, true, false, ◌&&◌, List, map, length, take, ℤ, pos, ◌-ℤ◌, Some, None, Option, slice_index_or}
use Rattle.std.specs.List.{range_with_len}
use Rattle.std.specs.Option.{unwrap_or}
use Rattle.ledger.specs.Sums.{row_sum}
use Rattle.merit.specs.Prices.{priced_at}
use Rattle.sheets.specs.declared.facility.Facility.{Facility}
use Rattle.sheets.specs.declared.row.Figures.{Figures}
use Rattle.sheets.specs.declared.row.Row.{Row}
use Rattle.sheets.specs.declared.sheet.Sheet.{Sheet}
use Rattle.sheets.specs.Held.{known}
use Rattle.sheets.specs.Shown.{row_of, register_of}
use Rattle.sheets.specs.Changes.{table, takes_reading}
use Rattle.sheets.specs.Sheets.{reaches, has_load, with_reading}
use Rattle.amounts.specs.Amounts.{PricedSheet, nets}

-- the balancing price by the merit order that close goes by; 0 stands for one that is not there, as on no sheet past close
abbrev pub balancing_price : List Facility → List Figures → Option ℕ → ℤ
balancing_price fs gs demand = (unwrap_or (priced_at fs gs demand) (pos 0, 0)).0

-- the figures of the registered facilities
abbrev pub figures_of : List Facility → Row → List Figures
figures_of fs r = take (length fs) r.figures

-- what a row holds, at a price
abbrev pub at_price : List Facility → Row → ℤ → PricedSheet
at_price fs r P = record { facilities = fs; figures = figures_of fs r; positions = r.positions; price = P }

-- and at its own
abbrev pub priced_sheet : List Facility → Row → PricedSheet
priced_sheet fs r = at_price fs r (balancing_price fs (figures_of fs r) r.demand)

-- the nets of a row
abbrev pub row_nets : List Facility → Row → List ℤ
row_nets fs r = nets (priced_sheet fs r)

-- new less old, account by account
abbrev pub changed : List ℤ → List ℤ → List ℤ
changed new old = map (λ a. slice_index_or new a (pos 0) -ℤ slice_index_or old a (pos 0)) (range_with_len 0 12)

-- ---- of a sheet in memory
abbrev pub held_at : Sheet → ℤ → PricedSheet
held_at s P = at_price (known s.register.now) s.row P

abbrev pub nets_in : Sheet → List ℤ
nets_in s = row_nets (known s.register.now) s.row

-- the sheet has a price: there is a demand, and the offers reach it
abbrev pub has_price : Sheet → Bool
has_price s = reaches (table s.register.now s.row) s.row.demand

-- the nets, and nothing where there is no price; with a load they sum to zero
abbrev pub Nets : Sheet → Option (List ℤ) → Type 0
Nets s None = has_price s ≡ false
Nets s (Some ns) = (has_price s ≡ true) × ((ns ≡ nets_in s) × (has_load s.row.positions ≡ true → row_sum ns ≡ pos 0))

-- a sheet with another reading of the facility at a place, and what that changes of its nets, each at its own price;
-- nothing where the sheet would not take the reading, or has no price
abbrev pub corrigible : Sheet → ℕ → ℕ → Bool
corrigible s at n = takes_reading (register_of s) at n && has_price s

abbrev pub Corrects : Sheet → ℕ → ℕ → Option (Sheet × List ℤ) → Type 0
Corrects s at n None = corrigible s at n ≡ false
Corrects s at n (Some x) =
    (corrigible s at n ≡ true)
    × ((row_of x.0 ≡ with_reading (row_of s) at n)
    × ((register_of x.0 ≡ register_of s) × (x.1 ≡ changed (nets_in x.0) (nets_in s))))
