use Rattle.std.proofs.Common.{[], ◌∷◌, append_assoc}
use Rattle.worked_figures.specs.Stations.{payment_figures}
use Rattle.worked_figures.proofs.cases.Case.push_payment.Goals as goal

pub returns : goal.returns
unfolding payment_figures
returns c =
    let first = c.in_ok-push_natural.ensures in
    let second = c.in_ok-push_natural-2.ensures in
    rw (second, first, c.blocks-rest.ensures, c.cents_of-cents.ensures, c.part.ensures.value) (append_assoc _ (_ ∷ []) (_ ∷ []))
