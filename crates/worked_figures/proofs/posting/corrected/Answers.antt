use Rattle.std.proofs.Common.{sym, ap, ◌∙◌, Some}
use Rattle.worked_figures.proofs.Options.{some_is}
use Rattle.worked_figures.proofs.Postings.{corrected_as}
use Rattle.worked_figures.proofs.posting.corrected.Goals as goal

pub returns : goal.returns
returns c =
    let made = some_is _ _ (sym c.in_ok-row_at.was ∙ c.row_at.ensures) in
    let day = c.in_ok-register.ensures in
    let table = c.table_under.ensures in
    ap Some (c.answered.ensures ∙ corrected_as c.in_ok-register.register _ _ _ _ c.adjust-posts.result _ _ day.0 day.1 made table.limits table.below c.adjust-posts.ensures.does)
