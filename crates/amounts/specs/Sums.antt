-- What the facilities of an account metered, and what they are owed.
use Rattle.std.specs.Prelude.{ℕ, zero, suc, ◌+◌, ◌*◌, Bool, true, cond, List, [], ◌∷◌, ℤ, pos, ◌+ℤ◌, Some, None, Option, ◌≡◌, ◌≤◌, ◌==◌}
use Rattle.std.specs.Option.{unwrap_or}
use Rattle.offers.specs.declared.submission.Submission.{Submission}
use Rattle.schedule.specs.Spans.{station_fits}
use Rattle.schedule.specs.Stations.{Operation, operates, part}
use Rattle.merit.specs.Held.{facilities_in, figures_in}
use Rattle.sheets.specs.declared.facility.Facility.{Facility}
use Rattle.sheets.specs.declared.row.Figures.{Figures}
use Rattle.sheets.specs.declared.sheet.Sheet.{Sheet}

-- a figure that is absent counts nothing
abbrev pub or_zero : Option ℕ → ℕ
or_zero o = unwrap_or o 0

-- reading × loss factor
abbrev pub metered : Facility → Figures → ℕ
metered f g = or_zero g.reading * f.loss_factor

-- a facility at work on its submission
abbrev pub operation_of : Facility → Figures → Submission → Operation
operation_of f g s = operates f.loss_factor f.tolerance (or_zero g.start) s (or_zero g.reading)

-- where it has one, the figures of a station at work on it are within their spans
abbrev pub works : Facility → Figures → Option Submission → Bool
works f g None = true
works f g (Some s) = station_fits f.loss_factor f.tolerance (or_zero g.start) s (or_zero g.reading)

-- its own part of a compensation, unrounded; none without a submission
abbrev pub part_of : ℤ → Facility → Figures → Option Submission → ℕ
part_of P f g None = 0
part_of P f g (Some s) = part (operation_of f g s) P

abbrev pub own_part : ℤ → Facility → Figures → ℕ
own_part P f g = part_of P f g g.submission

-- x where the facility is of account a
abbrev pub if_of : ℕ → Facility → ℕ → ℕ
if_of a f x = cond (f.account == a) x 0

-- what e counts, over the facilities of account a
abbrev pub sum_of : (Facility → Figures → ℕ) → ℕ → List Facility → List Figures → ℕ
sum_of e a [] gs = 0
sum_of e a (f ∷ fs) [] = 0
sum_of e a (f ∷ fs) (g ∷ gs) = if_of a f (e f g) + sum_of e a fs gs

-- each answer at x is the value of x, and at most `most`
abbrev pub Counts : {X : Type 0} → (X → ℕ → Type 0) → (X → ℕ) → ℕ → Type 0
Counts {X} answers value most = (x : X) (n : ℕ) → answers x n → (n ≡ value x) × (n ≤ most)

-- n is what e counts over the facilities of account a on a sheet
abbrev pub SumOver : (Facility → Figures → ℕ) → ℕ → ℕ → Sheet → ℕ → Type 0
SumOver e most a s n = (n ≡ sum_of e a (facilities_in s) (figures_in s)) × (n ≤ most * 12)

-- f 1 + .. + f n
abbrev pub sum_to_int : (ℕ → ℤ) → ℕ → ℤ
sum_to_int f zero = pos 0
sum_to_int f (suc n) = sum_to_int f n +ℤ f (suc n)
