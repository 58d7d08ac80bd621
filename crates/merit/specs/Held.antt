-- What a sheet holds for its merit order.
use Rattle.std.specs.Prelude.{ℕ, List, ℤ, Option}
use Rattle.sheets.specs.declared.facility.Facility.{Facility}
use Rattle.sheets.specs.declared.row.Figures.{Figures}
use Rattle.sheets.specs.declared.sheet.Sheet.{Sheet}
use Rattle.sheets.specs.Held.{known}
use Rattle.sheets.specs.Changes.{table}
use Rattle.merit.specs.declared.rung.Rung.{Rung}
use Rattle.merit.specs.Rungs.{offers_of}
use Rattle.merit.specs.Prices.{priced_at}

-- the registered facilities, and the figures of each
abbrev pub facilities_in : Sheet → List Facility
facilities_in s = known s.register.now

abbrev pub figures_in : Sheet → List Figures
figures_in s = table s.register.now s.row

abbrev pub offers_in : Sheet → List Rung
offers_in s = offers_of (facilities_in s) (figures_in s)

abbrev pub demand_in : Sheet → Option ℕ
demand_in s = s.row.demand

-- its balancing price and marginal facility
abbrev pub price_in : Sheet → Option (ℤ × ℕ)
price_in s = priced_at (facilities_in s) (figures_in s) (demand_in s)
