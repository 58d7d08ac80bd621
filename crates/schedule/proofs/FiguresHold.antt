-- Each figure is what its definition computes.
use Rattle.std.proofs.Common.{refl}
use Rattle.schedule.specs.Rounding.{rounded, rounded_natural, adjusted}
use Rattle.schedule.specs.Ramps.{energy}
use Rattle.schedule.specs.Stations.{out_of_merit, part}
use Rattle.schedule.specs.Levies.{share_to}
use Rattle.schedule.specs.Claims.{OneRounding}
use Rattle.schedule.specs.Figures.{Figures}

pub figures : Figures
unfolding energy rounded rounded_natural adjusted out_of_merit part share_to
figures = (refl, refl, refl, refl, refl, refl, refl, refl, refl, refl, refl, refl, refl, refl, refl, refl, refl, refl)

pub one_rounding : OneRounding
unfolding rounded rounded_natural
one_rounding x m = refl
