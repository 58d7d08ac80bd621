use Rattle.std.proofs.Common.{[], ◌∷◌, ◌∙◌, append_assoc}
use Rattle.worked_figures.specs.Stations.{schedule_figures}
use Rattle.worked_figures.proofs.cases.Case.push_schedules.Goals as goal

pub returns : goal.returns
unfolding schedule_figures
returns c =
    let first = c.in_ok-push_natural.ensures in
    let second = c.in_ok-push_natural-2.ensures in
    let third = c.in_ok-push_out_of_merit.ensures in
    rw (third, second, first, c.upper-upper.ensures, c.lower-lower.ensures, c.out_of_merit.ensures)
    (append_assoc _ (_ ∷ []) (_ ∷ []) ∙ append_assoc _ (_ ∷ []) (_ ∷ _ ∷ []))
