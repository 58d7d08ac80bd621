-- The figures of single rules: adjusted prices, energies and levies.
use Rattle.std.specs.Prelude.{ℕ, if◌then◌else◌, List, [], ◌∷◌, ◌++◌, ℤ, pos, Some, None, Option, codes, decimal}
use Rattle.std.specs.Option.{option_map}
use Rattle.std.specs.Fmt.{signed_decimal}
use Rattle.schedule.specs.Spans.{factor_fits}
use Rattle.schedule.specs.Rounding.{adjusted}
use Rattle.schedule.specs.Ramps.{energy}
use Rattle.schedule.specs.Levies.{levy_of}
use Rattle.worked_figures.specs.declared.cases.Adjusting.{Adjusting}
use Rattle.worked_figures.specs.declared.cases.Ramping.{Ramping}
use Rattle.worked_figures.specs.declared.cases.Levying.{Levying}
use Rattle.worked_figures.specs.Answers.{number, number_if}
use Rattle.worked_figures.specs.Reports.{Shown}

-- the adjusted price, where the loss factor is in its span
abbrev pub adjusted_if : ℤ → ℕ → Option ℤ
adjusted_if price factor = if factor_fits factor then Some (adjusted price factor) else None

abbrev pub price_figures : Adjusting → List Shown
price_figures x = record {
  what = codes "adjusted price of " ++ (signed_decimal x.price ++ (codes " at factor " ++ decimal x.factor));
  expected = number_if x.adjusted;
  computed = number_if (adjusted_if x.price x.factor);
} ∷ []

abbrev pub energy_figures : Ramping → List Shown
energy_figures x = record {
  what = codes "energy from " ++ (decimal x.ramp.start ++ (codes " up " ++ (decimal x.ramp.up ++ (codes " down " ++ (decimal x.ramp.down ++ (codes " to " ++ decimal x.target))))));
  expected = number (pos x.energy);
  computed = number (pos (energy x.ramp.start x.ramp.up x.ramp.down x.target));
} ∷ []

abbrev pub levy_figures : Levying → List Shown
levy_figures x = record {
  what = codes "levy of " ++ (decimal x.total ++ (codes " on account " ++ decimal x.account));
  expected = number_if (option_map pos x.levy);
  computed = number_if (option_map pos (levy_of x.total x.loads x.account));
} ∷ []
