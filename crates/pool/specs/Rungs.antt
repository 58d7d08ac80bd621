-- The working rungs after a close: the merit order from the front, the rungs beyond as they were; after a refusal all as they were.
use Rattle.std.specs.Prelude.{ℕ, List, ℤ, Ok, Err, Result}
use Rattle.refusals.specs.declared.Refusal.{Refusal}
use Rattle.merit.specs.declared.rung.Rung.{Rung}
use Rattle.merit.specs.Rungs.{offers_of}
use Rattle.merit.specs.Working.{laid}
use Rattle.pool.specs.Day.{Day, figures_on}

abbrev pub rungs_after : Day → ℕ → List Rung → Result (ℤ × ℕ) Refusal → List Rung
rungs_after d i ws (Ok a) = laid (offers_of d.facilities (figures_on d i)) ws
rungs_after d i ws (Err f) = ws
