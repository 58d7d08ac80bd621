use Rattle.std.proofs.Common.{◌≡◌, ◌++◌, take}
use Rattle.std.specs.List.{flat_map}
use Rattle.worked_figures.proofs.worked.work_all.Given as goal

abbrev pub invariant-loop-case : goal.invariant-loop-case
invariant-loop-case g l = l.figures.items ≡ l.initial.figures.items ++ flat_map g.W.Worked.shows (take l.case-index l.cases)
