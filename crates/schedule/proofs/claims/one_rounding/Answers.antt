use Rattle.schedule.proofs.FiguresHold.{one_rounding}
use Rattle.schedule.proofs.claims.one_rounding.Goals as goal

pub returns : goal.returns
returns c = one_rounding
