use Rattle.std.proofs.Common.{refl}
use Rattle.worked_figures.specs.Stations.{block_figure}
use Rattle.worked_figures.proofs.stations.block_figure.Goals as goal

pub returns : goal.returns
unfolding block_figure
returns c =
    rw (c.new.ensures, c.in_ok-what.ensures.ok, c.natural-expected.ensures, c.natural-computed.ensures, c.expected_at.ensures, c.energy_at.ensures) refl
