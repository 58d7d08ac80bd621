use Rattle.schedule.proofs.FiguresHold.{figures}
use Rattle.schedule.proofs.claims.figures_hold.Goals as goal

pub returns : goal.returns
returns c = figures
