-- The spans of what a register holds.
use Rattle.std.specs.Prelude.{ℕ, Bool, ◌&&◌, List, [], ◌∷◌, ℤ, pos, negsuc, int_le}
use Rattle.sheets.specs.declared.facility.Facility.{Facility}
use Rattle.sheets.specs.declared.facility.Prices.{Prices}
use Rattle.sheets.specs.Tests.{within, within_int, every}

abbrev pub account_fits : ℕ → Bool
account_fits a = within 1 a 11

abbrev pub factor_fits : ℕ → Bool
factor_fits x = within 8000 x 12500

abbrev pub capacity_fits : ℕ → Bool
capacity_fits x = within 1 x 1000000

abbrev pub tolerance_fits : ℕ → Bool
tolerance_fits x = within 0 x 30000000

-- the figures that registering brings, by position
abbrev pub facility_figures : ℕ → ℕ → ℕ → List Bool
facility_figures x c t = factor_fits x ∷ (capacity_fits c ∷ (tolerance_fits t ∷ []))

abbrev pub facility_sound : Facility → Bool
facility_sound f = account_fits f.account && every (facility_figures f.loss_factor f.capacity f.tolerance)

abbrev pub price_fits : ℤ → Bool
price_fits x = within_int (negsuc 99999) x (pos 100000)

-- the figures that opening brings, by position: low, then high, which low may not pass
abbrev pub price_figures : Prices → List Bool
price_figures p = price_fits p.low ∷ ((price_fits p.high && int_le p.low p.high) ∷ [])

abbrev pub prices_sound : Prices → Bool
prices_sound p = every (price_figures p)
