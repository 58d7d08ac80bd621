-- Each figure is what its definition computes.
use Rattle.std.proofs.Common.{refl}
use Rattle.schedule.specs.Rounding.{rounded, rounded_natural, adjusted}
use Rattle.schedule.specs.Ramps.{energy}
use Rattle.schedule.specs.Stations.{out_of_merit, part}
use Rattle.schedule.specs.Levies.{share_to}
use Rattle.schedule.proofs.FiguresHold as station
use Rattle.merit.specs.Prices.{balancing, priced}
use Rattle.amounts.specs.Amounts.{deviation, energy_amount, compensation, net, nets}
use Rattle.amounts.specs.Figures.{FiguresHold}

pub worked : FiguresHold
unfolding energy rounded rounded_natural adjusted out_of_merit part share_to balancing priced deviation energy_amount compensation net nets
worked = (station.figures, refl, refl, refl, refl)
