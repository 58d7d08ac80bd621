use Rattle.worked_figures.proofs.Sheets.{differs}
use Rattle.worked_figures.proofs.two_stations.change_of.Goals as goal

pub returns : goal.returns
returns c = differs _ _ c.in_ok-sheet.sheet c.in_ok-changes.field-0-0 c.in_ok-changes.changes c.in_ok-sheet.ensures c.in_ok-changes.ensures
