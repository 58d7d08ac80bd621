-- The figures of a station: its schedules, its energy out of merit, and what each block takes.
use Rattle.std.specs.Prelude.{ℕ, ◌+◌, max, if◌then◌else◌, List, [], ◌∷◌, ◌++◌, length, map, take, ℤ, pos, Some, None, Option, codes, decimal, slice_get}
use Rattle.std.specs.List.{range_with_len}
use Rattle.std.specs.Option.{option_map, option_and_then}
use Rattle.offers.specs.declared.submission.Submission.{Submission}
use Rattle.offers.specs.Curves.{curve_of}
use Rattle.schedule.specs.declared.block.Blocks.{Blocks}
use Rattle.schedule.specs.declared.block.Taken.{Taken}
use Rattle.schedule.specs.Spans.{station_fits, balancing_fits}
use Rattle.schedule.specs.Rounding.{rounded_natural, M}
use Rattle.schedule.specs.Blocks.{divided}
use Rattle.schedule.specs.Stations.{Operation, operates, upper, lower, out_of_merit, energy_counted, blocks_of, part}
use Rattle.sheets.specs.declared.row.Figures.{Figures}
use Rattle.worked_figures.specs.declared.cases.Setting.{Setting}
use Rattle.worked_figures.specs.declared.cases.Case.{Case}
use Rattle.worked_figures.specs.Answers.{nothing, number, number_if, directed}
use Rattle.worked_figures.specs.Reports.{Shown}

abbrev pub submission_of : Setting → Option Submission
submission_of s = option_map (λ c. record { ramp_up = s.ramp.up; ramp_down = s.ramp.down; curve = c }) (curve_of s.pairs.now)

-- what a sheet holds of the station
abbrev pub figures_if : Setting → ℕ → Option Figures
figures_if s reading = option_map (λ offer. record { submission = Some offer; start = Some s.ramp.start; reading = Some reading }) (submission_of s)

-- the station at work, where all of its figures are in their spans
abbrev pub at_work : Setting → ℕ → Submission → Option Operation
at_work s reading offer =
    if station_fits s.factor s.tolerance s.ramp.start offer reading
    then Some (operates s.factor s.tolerance s.ramp.start offer reading)
    else None

abbrev pub station_of : Setting → ℕ → Option Operation
station_of s reading = option_and_then (at_work s reading) (submission_of s)

-- the energy of the block at a place, nothing past the last
abbrev pub energy_at : List Taken → ℕ → Option ℕ
energy_at blocks i = option_map (λ b. b.energy) (slice_get blocks i)

-- each block in its order; nothing stands for a block that is missing or one too many
unfoldable pub block_figure : List ℕ → List ℕ → List Taken → ℕ → Shown
block_figure what expected blocks i = record {
  what = what ++ (codes ", block " ++ decimal (i + 1));
  expected = number_if (option_map pos (slice_get expected i));
  computed = number_if (option_map pos (energy_at blocks i));
}

abbrev pub block_figures : List ℕ → List ℕ → List Taken → List Shown
block_figures what expected blocks =
    map (block_figure what expected blocks) (range_with_len 0 (max (length expected) (length blocks)))

unfoldable pub figure_of : Case → List ℕ → ℤ → ℤ → Shown
figure_of c what expected computed = record { what = c.what.now ++ what; expected = number expected; computed = number computed }

-- the energy out of merit at the price P, divided over the blocks
abbrev pub blocks_at : Operation → ℤ → Blocks
blocks_at o P = divided (energy_counted o P) (blocks_of o P)

-- what the station should have generated, and how far it was out of merit
unfoldable pub schedule_figures : Case → Operation → ℤ → List Shown
schedule_figures c o P =
    figure_of c (codes ", upper schedule") (pos c.upper) (pos (upper o P))
    ∷ figure_of c (codes ", lower schedule") (pos c.lower) (pos (lower o P))
    ∷ figure_of c (codes ", out of merit") c.out_of_merit (directed (out_of_merit o P))
    ∷ []

-- what no block takes, and what the others are owed
unfoldable pub payment_figures : Case → Operation → ℤ → List Shown
payment_figures c o P =
    figure_of c (codes ", non-qualifying") (pos c.rest) (pos (blocks_at o P).rest)
    ∷ figure_of c (codes ", cents") (pos c.cents) (pos (rounded_natural (part o P) M))
    ∷ []

abbrev pub figures_at_work : Case → Operation → ℤ → List Shown
figures_at_work c o P =
    schedule_figures c o P
    ++ (block_figures c.what.now c.taken.now (take (blocks_at o P).count (blocks_at o P).taken)
    ++ payment_figures c o P)

-- one figure that differs, where a figure of the station or the price is outside its span
abbrev pub station_figures_at : Case → Option Operation → List Shown
station_figures_at c None = record { what = c.what.now; expected = number (pos c.cents); computed = nothing } ∷ []
station_figures_at c (Some o) = figures_at_work c o c.price

abbrev pub station_figures : Case → List Shown
station_figures c = station_figures_at c (if balancing_fits c.price then station_of c.setting c.reading else None)
