use Rattle.std.proofs.Common.{sym, ◌∙◌, subst}
use Rattle.worked_figures.proofs.Options.{some_is}
use Rattle.sheets.specs.Held.{known}
use Rattle.sheets.specs.Sheets.{sheet_sound}
use Rattle.sheets.specs.Changes.{Becomes}
use Rattle.worked_figures.proofs.Sheets.{stands}
use Rattle.worked_figures.proofs.two_stations.sheet_at.Goals as goal

pub returns : goal.returns
returns c =
    let g = c.args.register.now in
    let made = some_is _ _ (sym c.in_ok-row.was ∙ c.row_at.ensures) in
    stands g _ _ c.requires.facilities c.requires.prices (subst (λ r. Becomes (sheet_sound (known g) g.prices r) g r c.checked.result) made c.checked.ensures)
