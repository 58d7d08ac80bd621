use Rattle.std.proofs.Common.{◌≡◌, ◌+◌, drop}
use Rattle.pool.specs.Day.{figures_complete}
use Rattle.settlement.proofs.settling.all_complete.Given as goal

abbrev pub invariant-loop-place : goal.invariant-loop-place
invariant-loop-place l = figures_complete (l.place + 1) (drop l.place l.table) ≡ figures_complete 1 l.table
