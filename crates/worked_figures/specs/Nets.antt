-- The sheet of two stations at a reading of the first: its price, its nets, and what another reading changes of them.
use Rattle.std.specs.Prelude.{◌≡◌, ℕ, true, false, if◌then◌else◌, ◌&&◌, List, [], ◌∷◌, ◌++◌, map, replicate, ℤ, pos, negsuc, Some, None, Option, codes, decimal, slice_index_or}
use Rattle.std.specs.List.{range_with_len}
use Rattle.std.specs.Option.{option_map}
use Rattle.sheets.specs.declared.facility.Prices.{Prices}
use Rattle.sheets.specs.declared.row.Row.{Row}
use Rattle.sheets.specs.declared.row.State.{State}
use Rattle.sheets.specs.declared.row.State.TheVariants.{Closed}
use Rattle.sheets.specs.declared.sheet.Sheet.{Sheet}
use Rattle.sheets.specs.Held.{known}
use Rattle.sheets.specs.Sheets.{no_figures, reading_fits, sheet_sound}
use Rattle.amounts.specs.Sheets.{balancing_price, figures_of, row_nets, changed, has_price}
use Rattle.amounts.specs.Figures.{facilities, figures, positions}
use Rattle.worked_figures.specs.declared.cases.Pricing.{Pricing}
use Rattle.worked_figures.specs.declared.cases.Metering.{Metering}
use Rattle.worked_figures.specs.declared.cases.Correction.{Correction}
use Rattle.worked_figures.specs.Answers.{number, number_if}
use Rattle.worked_figures.specs.Reports.{Shown}

abbrev pub prices : Prices
prices = record { low = negsuc 999; high = pos 10000 }

-- the sheet in a state, the first station with this reading
unfoldable pub row : State → ℕ → Row
row state reading = record { state = state; figures = figures reading ++ replicate 10 no_figures; demand = Some 30000; positions = positions }

abbrev pub closed : ℕ → Row
closed reading = row Closed reading

-- the row as a sheet under these facilities and prices, which has a price; none where it has no state
abbrev pub Stands : ℕ → Option Sheet → Type 0
Stands reading None = sheet_sound facilities (Some prices) (closed reading) ≡ false
Stands reading (Some s) =
    (sheet_sound facilities (Some prices) (closed reading) ≡ true)
    × ((known s.register.now ≡ facilities) × ((s.row ≡ closed reading) × (has_price s ≡ true)))

-- x of the sheet, where its row is one that has a state
abbrev pub of_sheet : {X : Type 0} → ℕ → X → Option X
of_sheet reading x = if sheet_sound facilities (Some prices) (closed reading) then Some x else None

abbrev pub price_at : ℕ → Option ℤ
price_at reading = of_sheet reading (balancing_price facilities (figures_of facilities (closed reading)) (closed reading).demand)

abbrev pub nets_at : ℕ → Option (List ℤ)
nets_at reading = of_sheet reading (row_nets facilities (closed reading))

-- none where the other reading is outside its span, too
abbrev pub change_of : ℕ → ℕ → Option (List ℤ)
change_of from to =
    if sheet_sound facilities (Some prices) (closed from) && reading_fits to
    then Some (changed (row_nets facilities (closed to)) (row_nets facilities (closed from)))
    else None

-- an amount of an account, 0 past the last
abbrev pub amount_at : List ℤ → ℕ → ℤ
amount_at amounts account = slice_index_or amounts account (pos 0)

-- the name of an account's figure
abbrev pub of_account : List ℕ → ℕ → List ℕ
of_account name account = name ++ (codes ", account " ++ decimal account)

unfoldable pub account_figure : List ℕ → List ℤ → Option (List ℤ) → ℕ → Shown
account_figure name expected computed account = record {
  what = of_account name account;
  expected = number (amount_at expected account);
  computed = number_if (option_map (λ amounts. amount_at amounts account) computed);
}

-- accounts 0 to 11; those past the first four should come to 0
unfoldable pub account_figures : List ℕ → List ℤ → Option (List ℤ) → List Shown
account_figures name expected computed = map (account_figure name expected computed) (range_with_len 0 12)

abbrev pub pricing_figures : Pricing → List Shown
pricing_figures x = record {
  what = codes "sheet at reading " ++ (decimal x.reading ++ codes ", price");
  expected = number x.price;
  computed = number_if (price_at x.reading);
} ∷ []

abbrev pub net_figures : Metering → List Shown
net_figures x = account_figures (codes "net at reading " ++ decimal x.reading) x.nets (nets_at x.reading)

abbrev pub correction_figures : Correction → List Shown
correction_figures x = account_figures (codes "post for the correction to " ++ decimal x.to) x.posts (change_of x.from x.to)
