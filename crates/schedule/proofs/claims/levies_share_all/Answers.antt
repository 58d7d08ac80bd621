use Rattle.schedule.proofs.Levying.{shares_rise, levies_share_all}
use Rattle.schedule.proofs.claims.levies_share_all.Goals as goal

pub returns : goal.returns
returns c = record { shares = shares_rise; total = levies_share_all }
