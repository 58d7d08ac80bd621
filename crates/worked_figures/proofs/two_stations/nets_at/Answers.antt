use Rattle.worked_figures.proofs.Sheets.{found}
use Rattle.worked_figures.proofs.two_stations.nets_at.Goals as goal

pub returns : goal.returns
returns c = found _ c.in_ok-sheet.sheet _ c.in_ok-sheet.ensures c.nets.ensures
