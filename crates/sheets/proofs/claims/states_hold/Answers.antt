use Rattle.sheets.proofs.States.{states_hold}
use Rattle.sheets.proofs.claims.states_hold.Goals as goal

pub returns : goal.returns
returns c = states_hold
