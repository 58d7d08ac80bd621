use Rattle.amounts.proofs.Worked.{worked}
use Rattle.amounts.proofs.claims.figures_hold.Goals as goal

pub returns : goal.returns
returns c = worked
