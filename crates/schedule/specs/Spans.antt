-- The spans of the figures from which a station's schedule and blocks are worked out.
use Rattle.std.specs.Prelude.{ℕ, Bool, ◌&&◌, ℤ, pos, neg_ℤ, int_le, nat_le}
use Rattle.offers.specs.Tests.{all}
use Rattle.offers.specs.Curves.{listed, total, curve_in_form}
use Rattle.offers.specs.declared.pair.Pair.{Pair}
use Rattle.offers.specs.declared.curve.Curve.{Curve}
use Rattle.offers.specs.declared.submission.Submission.{Submission}

abbrev pub between : ℕ → ℕ → ℕ → Bool
between low high x = nat_le low x && nat_le x high

abbrev pub within : ℕ → ℤ → Bool
within most z = int_le (neg_ℤ (pos most)) z && int_le z (pos most)

-- a loss factor counts ten-thousandths
abbrev pub factor_fits : ℕ → Bool
factor_fits = between 8000 12500

-- a balancing price is the adjusted price of some offer, in cents per MWh
abbrev pub balancing_fits : ℤ → Bool
balancing_fits = within 125000

-- prices of a submission are within 100,000 cents per MWh of zero
abbrev pub price_fits : Pair → Bool
price_fits p = within 100000 p.price

abbrev pub curve_fits : Curve → Bool
curve_fits c = curve_in_form c && (all price_fits (listed c) && nat_le (total (listed c)) 1000000)

abbrev pub ramp_fits : ℕ → Bool
ramp_fits = between 1 1000000

abbrev pub submission_fits : Submission → Bool
submission_fits s = ramp_fits s.ramp_up && (ramp_fits s.ramp_down && curve_fits s.curve)

-- tolerance and reading in kWmin, start in kW
abbrev pub figures_fit : ℕ → ℕ → ℕ → Bool
figures_fit tolerance start reading = nat_le tolerance 30000000 && (nat_le start 1000000 && nat_le reading 30000000)

-- loss factor, tolerance, start, submission and reading of a station
abbrev pub station_fits : ℕ → ℕ → ℕ → Submission → ℕ → Bool
station_fits factor tolerance start s reading = factor_fits factor && (figures_fit tolerance start reading && submission_fits s)
