use Rattle.std.proofs.Common.{◌≡◌, ◌++◌, take}
use Rattle.std.specs.List.{flat_map}
use Rattle.worked_figures.specs.Reports.{line_of}
use Rattle.worked_figures.proofs.report.push_lines.Given as goal

abbrev pub invariant-loop-figure : goal.invariant-loop-figure
invariant-loop-figure l = l.out.items ≡ l.initial.out.items ++ flat_map line_of (take l.figure-index l.figures)
