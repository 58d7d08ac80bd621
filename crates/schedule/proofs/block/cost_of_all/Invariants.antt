use Rattle.std.proofs.Common.{◌≡◌, ◌+◌, ◌*◌, ◌≤◌, drop}
use Rattle.schedule.specs.Blocks.{costs, energies}
use Rattle.schedule.proofs.block.cost_of_all.Given as goal

abbrev pub invariant-loop-t : goal.invariant-loop-t
invariant-loop-t l =
    (l.sum + costs l.factor.value l.price.cents (drop l.t-index l.taken) ≡ costs l.factor.value l.price.cents l.taken)
    × (l.sum + 3125000000 * energies (drop l.t-index l.taken) ≤ 3125000000 * energies l.taken)
    × (energies (drop l.t-index l.taken) ≤ energies l.taken)
