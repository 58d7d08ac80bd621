-- All worked figures: each list of cases once, in the order in which they are shown.
use Rattle.std.specs.Prelude.{ℕ, List, [], ◌∷◌, ◌++◌}
use Rattle.std.specs.List.{flat_map}
use Rattle.worked_figures.specs.declared.cases.TheConstants.{ADJUSTED, ENERGIES, LEVIES, PRICED, METERED, CORRECTIONS, SETTLED, ADJUSTMENTS, INTAKE, WRITTEN}
use Rattle.worked_figures.specs.declared.cases.Case.{Case}
use Rattle.worked_figures.specs.Reports.{Shown, report_of}
use Rattle.worked_figures.specs.Rules.{price_figures, energy_figures, levy_figures}
use Rattle.worked_figures.specs.Stations.{station_figures}
use Rattle.worked_figures.specs.Nets.{pricing_figures, net_figures, correction_figures}
use Rattle.worked_figures.specs.Postings.{settle_figures, adjustment_figures}
use Rattle.worked_figures.specs.Intakes.{intake_figure}

-- Each list is a definition of its own, so that a proof need not work it out.
unfoldable pub prices_listed : List Shown
prices_listed = flat_map price_figures ADJUSTED

unfoldable pub energies_listed : List Shown
energies_listed = flat_map energy_figures ENERGIES

unfoldable pub levies_listed : List Shown
levies_listed = flat_map levy_figures LEVIES

unfoldable pub sheet_prices_listed : List Shown
sheet_prices_listed = flat_map pricing_figures PRICED

unfoldable pub nets_listed : List Shown
nets_listed = flat_map net_figures METERED

unfoldable pub corrections_listed : List Shown
corrections_listed = flat_map correction_figures CORRECTIONS

unfoldable pub settles_listed : List Shown
settles_listed = flat_map settle_figures SETTLED

unfoldable pub adjustments_listed : List Shown
adjustments_listed = flat_map adjustment_figures ADJUSTMENTS

unfoldable pub intakes_listed : List Shown
intakes_listed = intake_figure INTAKE.now WRITTEN.now ∷ []

-- the stations are handed in, since a constant that refers to names and pairs has no name here
abbrev pub all_figures : List Case → List Shown
all_figures stations =
    prices_listed
    ++ energies_listed
    ++ flat_map station_figures stations
    ++ levies_listed
    ++ sheet_prices_listed
    ++ nets_listed
    ++ corrections_listed
    ++ settles_listed
    ++ adjustments_listed
    ++ intakes_listed

-- what the program prints
abbrev pub worked_report : List Case → List ℕ
worked_report stations = report_of (all_figures stations)
