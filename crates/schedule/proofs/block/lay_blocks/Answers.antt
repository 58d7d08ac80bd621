use Rattle.std.proofs.Common.{◌+◌, ◌-◌, ◌<◌, length, get_or, ◌∙◌, arith}
use Rattle.offers.specs.Curves.{no_pair}
use Rattle.schedule.specs.Ramps.{energy}
use Rattle.schedule.proofs.Rising.{energy_rises}
use Rattle.schedule.proofs.Laying.{laid_none, laid_fits, laid_more, laid_all}
use Rattle.schedule.proofs.block.lay_blocks.Goals as goal

pub loop-i-init : goal.loop-i-init
loop-i-init c = laid_none _ _ _ _ _ c.energy-below.ensures

pub overflow_add-cheaper : goal.overflow_add-cheaper
overflow_add-cheaper c = record { fits = omega (arith, laid_fits _ _ _ _ _ _ _ _ c.loop-i.invariant no_pair c.loop-i-test.true, c.requires.few) }

pub block_between-requires : goal.block_between-requires
block_between-requires c =
    let E = energy c.args.ramp.start c.args.ramp.up c.args.ramp.down in
    omega (arith, c.loop-i.invariant.energy, c.energy-through.ensures, energy_rises c.args.ramp.start c.args.ramp.up c.args.ramp.down c.loop-i.cheaper (c.loop-i.cheaper + (get_or c.args.curve.now c.loop-i.i no_pair).kw) (omega arith))

pub loop-i-preserved : goal.loop-i-preserved
loop-i-preserved c =
    let E = energy c.args.ramp.start c.args.ramp.up c.args.ramp.down in
    let room : c.loop-i.i < length c.args.slots.now = omega (arith, c.requires.room) in
    let limit = c.block_between.ensures.limit ∙ (λ j. c.energy-through.ensures j - c.loop-i.invariant.energy j) in
    laid_more _ _ _ _ _ _ _ _ c.loop-i.invariant no_pair c.block_between.result c.energy-through.result c.loop-i-test.true room
    (λ j. record { price = c.block_between.ensures.price j; limit = limit j }) c.energy-through.ensures

pub returns : goal.returns
returns c = laid_all _ _ _ _ _ _ _ _ c.loop-i.invariant c.loop-i-test.false (omega arith)
