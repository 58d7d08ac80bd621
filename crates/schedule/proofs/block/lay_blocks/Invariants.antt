use Rattle.schedule.specs.Ramps.{energy}
use Rattle.schedule.proofs.Laying.{Laid}
use Rattle.schedule.proofs.block.lay_blocks.Given as goal

abbrev pub invariant-loop-i : goal.invariant-loop-i
invariant-loop-i l = Laid (energy l.ramp.start l.ramp.up l.ramp.down) l.factor.value l.curve l.initial.slots l.i l.cheaper l.below l.slots
