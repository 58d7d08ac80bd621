use Rattle.std.proofs.Common.{◌≡◌, ◌+◌, ◌*◌, drop}
use Rattle.pool.specs.Checks.{figures}
use Rattle.pool.specs.Day.{pair_figures}
use Rattle.pool.proofs.curves.pairs_in_span.Given as goal

abbrev pub invariant-loop-place : goal.invariant-loop-place
invariant-loop-place l = figures (3 + 2 * l.place) (pair_figures l.prices (drop l.place l.pairs)) ≡ figures 3 (pair_figures l.prices l.pairs)
