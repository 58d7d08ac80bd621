use Rattle.std.proofs.Common.{refl}
use Rattle.schedule.specs.Rounding.{rounded_natural}
use Rattle.schedule.proofs.round.cents_of.Goals as goal

pub returns : goal.returns
unfolding rounded_natural
returns c = refl
