use Rattle.std.proofs.Common.{refl, sym, ◌∙◌}
use Rattle.worked_figures.specs.Nets.{row}
use Rattle.worked_figures.proofs.Options.{some_is}
use Rattle.worked_figures.proofs.two_stations.row_at.Goals as goal

pub returns : goal.returns
unfolding row
returns c =
    let first = some_is _ _ (sym c.in_ok-row.was ∙ c.figures.ensures) in
    let second = some_is _ _ (sym c.in_ok-row-2.was ∙ c.figures-2.ensures) in
    rw (c.blank-row.ensures.value, first, second) refl
