use Rattle.std.proofs.Common.{◌≡◌, ◌++◌, map}
use Rattle.std.specs.List.{range_with_len}
use Rattle.worked_figures.specs.Stations.{block_figure}
use Rattle.worked_figures.proofs.stations.push_blocks.Given as goal

abbrev pub invariant-loop-i : goal.invariant-loop-i
invariant-loop-i l =
    l.figures.items ≡ l.initial.figures.items ++ map (block_figure l.name l.expected l.blocks) (range_with_len 0 l.i)
