use Rattle.sheets.proofs.Blank.{figures_blank, position_blank, blank_sheet}
use Rattle.sheets.proofs.row.Row.blank.Goals as goal

pub returns-clause-sound : goal.returns-clause-sound
returns-clause-sound c =
    let f = c.default.ensures in
    let p = c.default-2.ensures in
    rw (figures_blank c.default.result f.0 f.1.0 f.1.1, position_blank c.default-2.result p.0 p.1) blank_sheet
