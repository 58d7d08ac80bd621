use Rattle.schedule.specs.Held.{operation}
use Rattle.schedule.proofs.Laying.{laid_blocks}
use Rattle.schedule.proofs.station.Station.lay.Goals as goal

pub returns : goal.returns
returns c =
    record {
      few = c.listed-curve.ensures.few;
      front = laid_blocks (operation c.args.self.now) _ _ _ c.listed-curve.result.now _ _ c.ramp.ensures.start c.ramp.ensures.up c.ramp.ensures.down c.listed-curve.ensures.value c.lay_blocks.ensures;
    }
