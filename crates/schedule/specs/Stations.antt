-- A station in one interval: its schedules, its energy out of merit, the blocks of that and their compensation.
use Rattle.std.specs.Prelude.{ℕ, ◌-◌, cond, List, [], ℤ, int_le, int_lt, nat_lt}
use Rattle.offers.specs.Curves.{listed}
use Rattle.offers.specs.declared.pair.Pair.{Pair}
use Rattle.offers.specs.declared.submission.Submission.{Submission}
use Rattle.schedule.specs.Ramps.{energy}
use Rattle.schedule.specs.Blocks as blocks
use Rattle.schedule.specs.Blocks.{kw_where, blocks_above, blocks_below, takes, cost}
use Rattle.schedule.specs.declared.block.Block.{Block}
use Rattle.schedule.specs.declared.direction.OutOfMerit.{OutOfMerit}
use Rattle.schedule.specs.declared.direction.OutOfMerit.TheVariants.{Upward, Downward, Neither}

pub record Operation : Type 0 where
  pub factor : ℕ
  pub tolerance : ℕ
  pub start : ℕ
  pub up : ℕ
  pub down : ℕ
  pub curve : List Pair
  pub reading : ℕ

-- loss factor, tolerance, start, submission and reading as an operation
abbrev pub operates : ℕ → ℕ → ℕ → Submission → ℕ → Operation
operates factor tolerance start s reading =
    record { factor = factor; tolerance = tolerance; start = start; up = s.ramp_up; down = s.ramp_down; curve = listed s.curve; reading = reading }

-- energy of a target
abbrev pub energy_of : Operation → ℕ → ℕ
energy_of o = energy o.start o.up o.down

-- the upper schedule: what is offered up to P
abbrev pub upper : Operation → ℤ → ℕ
upper o P = energy_of o (kw_where (λ a. int_le a P) o.factor o.curve)

-- the lower schedule: what is offered below P
abbrev pub lower : Operation → ℤ → ℕ
lower o P = energy_of o (kw_where (λ a. int_lt a P) o.factor o.curve)

-- a difference counts whole above the tolerance, else not at all
abbrev pub counted : ℕ → ℕ → ℕ
counted tolerance x = cond (nat_lt tolerance x) x 0

abbrev pub upward : Operation → ℤ → ℕ
upward o P = counted o.tolerance (o.reading - upper o P)

abbrev pub downward : Operation → ℤ → ℕ
downward o P = counted o.tolerance (lower o P - o.reading)

-- the one of the two that counts
unfoldable pub out_of_merit : Operation → ℤ → OutOfMerit
out_of_merit o P = cond (nat_lt 0 (upward o P)) (Upward (upward o P)) (cond (nat_lt 0 (downward o P)) (Downward (downward o P)) Neither)

abbrev pub energy_out : OutOfMerit → ℕ
energy_out (Upward x) = x
energy_out (Downward x) = x
energy_out Neither = 0

-- the blocks over which it is divided
abbrev pub blocks_for : Operation → ℤ → OutOfMerit → List Block
blocks_for o P (Upward x) = blocks_above (energy_of o) o.factor P o.curve
blocks_for o P (Downward x) = blocks_below (energy_of o) o.factor P o.curve
blocks_for o P Neither = []

abbrev pub energy_counted : Operation → ℤ → ℕ
energy_counted o P = energy_out (out_of_merit o P)

abbrev pub blocks_of : Operation → ℤ → List Block
blocks_of o P = blocks_for o P (out_of_merit o P)

abbrev pub takes_of : Operation → ℤ → List ℕ
takes_of o P = takes (energy_counted o P) (blocks_of o P)

-- non-qualifying energy
abbrev pub rest_of : Operation → ℤ → ℕ
rest_of o P = blocks.rest (energy_counted o P) (blocks_of o P)

-- the station's own part of a compensation, unrounded
unfoldable pub part : Operation → ℤ → ℕ
part o P = cost o.factor P (blocks_of o P) (takes_of o P)
