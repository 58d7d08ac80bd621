use Rattle.schedule.proofs.Nearest.{least_above, least_below, least_compensation}
use Rattle.schedule.proofs.claims.least_compensation.Goals as goal

pub returns : goal.returns
returns c = record { above = least_above; below = least_below; stations = least_compensation }
