use Rattle.std.proofs.Common.{arith}
use Rattle.std.proofs.lemmas.List.{at_drop_more, at_drop_all}
use Rattle.std.proofs.ByRecursion.{All-get_or}
use Rattle.schedule.specs.Blocks.{costs, energies, no_taken, Priced}
use Rattle.schedule.proofs.block.cost_of_all.Goals as goal

pub cost-cost-requires : goal.cost-cost-requires
cost-cost-requires c =
    let e = at_drop_more energies c.args.taken.now c.loop-t.t-index no_taken c.loop-t-test.true in
    record { near = All-get_or Priced c.args.taken.now c.loop-t.t-index no_taken c.loop-t-test.true c.requires.near; few = omega (arith, c.loop-t.invariant.2, c.requires.few) }

pub overflow_add-sum : goal.overflow_add-sum
overflow_add-sum c =
    let e = at_drop_more energies c.args.taken.now c.loop-t.t-index no_taken c.loop-t-test.true in
    record { fits = omega (arith, c.loop-t.invariant.1, c.requires.few, c.cost-cost.ensures.bound) }

pub loop-t-preserved : goal.loop-t-preserved
loop-t-preserved c =
    let e = at_drop_more energies c.args.taken.now c.loop-t.t-index no_taken c.loop-t-test.true in
    let k = at_drop_more (costs c.args.factor.value c.args.price.cents) c.args.taken.now c.loop-t.t-index no_taken c.loop-t-test.true in
    (omega (arith, c.loop-t.invariant.0, c.cost-cost.ensures.value), omega (arith, c.loop-t.invariant.1, c.cost-cost.ensures.bound), omega (arith, c.loop-t.invariant.2))

pub returns : goal.returns
returns c =
    let k = at_drop_all (costs c.args.factor.value c.args.price.cents) c.args.taken.now c.loop-t.t-index c.loop-t-test.false in
    record { value = omega (arith, c.loop-t.invariant.0); bound = omega (arith, c.loop-t.invariant.1, c.requires.few) }
