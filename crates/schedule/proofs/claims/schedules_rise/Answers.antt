use Rattle.schedule.specs.Stations.{energy_of}
use Rattle.schedule.proofs.Rising.{energy_rises, price_rises, lower_below_upper, one_direction, limit_exact}
use Rattle.schedule.proofs.claims.schedules_rise.Goals as goal

pub returns : goal.returns
returns c =
    record {
      energies = energy_rises;
      prices = price_rises;
      schedules = lower_below_upper;
      directions = one_direction;
      limits = λ o. limit_exact (energy_of o) (energy_rises o.start o.up o.down) o.factor;
    }
