-- When a register or a sheet takes a change, and what it is then.
use Rattle.std.specs.Prelude.{◌≡◌, ℕ, ◌+◌, Bool, true, false, not, ◌&&◌, List, [], ◌∷◌, ◌++◌, length, take, is_some, Some, None, Option, nat_lt, slice_index_or}
use Rattle.offers.specs.declared.submission.Submission.{Submission}
use Rattle.offers.specs.Tests.{all}
use Rattle.sheets.specs.declared.facility.Facility.{Facility}
use Rattle.sheets.specs.declared.facility.Prices.{Prices}
use Rattle.sheets.specs.declared.register.Register.{Register}
use Rattle.sheets.specs.declared.row.Row.{Row}
use Rattle.sheets.specs.declared.row.Figures.{Figures}
use Rattle.sheets.specs.declared.row.Position.{Position}
use Rattle.sheets.specs.declared.row.Event.{Event}
use Rattle.sheets.specs.declared.row.Event.TheVariants.{Lodge, Figure, Demand, Close, Settle}
use Rattle.sheets.specs.declared.sheet.Sheet.{Sheet}
use Rattle.sheets.specs.Tests.{if_some}
use Rattle.sheets.specs.Spans.{facility_sound, prices_sound}
use Rattle.sheets.specs.Sheets.{submission_sound, start_fits, reading_fits, demand_fits, position_fits, reaches, complete, has_load, next, no_facility}
use Rattle.sheets.specs.Held.{known, prices_of}

-- ---- a register
abbrev pub takes_facility : Register → Facility → Bool
takes_facility g f = not (is_some (prices_of g)) && (nat_lt (length (known g)) 12 && facility_sound f)

abbrev pub Added : Register → Facility → Option ℕ → Register → Type 0
Added g f None h = (takes_facility g f ≡ false) × (h ≡ g)
Added g f (Some n) h =
    (takes_facility g f ≡ true)
    × ((n ≡ length (known g) + 1) × ((known h ≡ known g ++ (f ∷ [])) × (prices_of h ≡ prices_of g)))

abbrev pub takes_prices : Register → Prices → Bool
takes_prices g z = not (is_some (prices_of g)) && prices_sound z

abbrev pub Opened : Register → Prices → Bool → Register → Type 0
Opened g z false h = (takes_prices g z ≡ false) × (h ≡ g)
Opened g z true h = (takes_prices g z ≡ true) × ((known h ≡ known g) × (prices_of h ≡ Some z))

-- ---- a sheet
-- a sheet of this register with this row, exactly where the test holds
abbrev pub Becomes : Bool → Register → Row → Option Sheet → Type 0
Becomes b g r None = b ≡ false
Becomes b g r (Some s) = (b ≡ true) × ((s.row ≡ r) × (s.register.now ≡ g))

abbrev pub comes : Row → Event → Bool
comes r e = is_some (next r.state e)

abbrev pub registered : Register → ℕ → Bool
registered g i = nat_lt i (length (known g))

-- the submission fits the facility at a place, under the day's prices
abbrev pub submission_fits : Register → ℕ → Submission → Bool
submission_fits g i s = is_some g.prices && if_some (λ z. submission_sound z (slice_index_or (known g) i no_facility) s) g.prices

abbrev pub takes_submission : Register → Row → ℕ → Submission → Bool
takes_submission g r i s = comes r Lodge && (registered g i && submission_fits g i s)

abbrev pub takes_start : Register → Row → ℕ → ℕ → Bool
takes_start g r i n = comes r Figure && (registered g i && start_fits n)

-- in any state: a reading comes before the sheet is settled, its correction after
abbrev pub takes_reading : Register → ℕ → ℕ → Bool
takes_reading g i n = registered g i && reading_fits n

abbrev pub takes_demand : Row → ℕ → Bool
takes_demand r n = comes r Demand && demand_fits n

abbrev pub takes_position : Row → ℕ → Position → Bool
takes_position r k p = comes r Figure && (nat_lt k 11 && position_fits p)

abbrev pub table : Register → Row → List Figures
table g r = take (length (known g)) r.figures

abbrev pub may_close : Register → Row → Bool
may_close g r = comes r Close && reaches (table g r) r.demand

abbrev pub may_settle : Register → Row → Bool
may_settle g r = comes r Settle && (all complete (table g r) && has_load r.positions)
