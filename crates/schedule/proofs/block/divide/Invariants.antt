use Rattle.std.proofs.Common.{◌≤◌, drop, filter, Bool, ℤ}
use Rattle.schedule.specs.Blocks.{Tests}
use Rattle.schedule.proofs.Dividing.{Dividing}
use Rattle.schedule.proofs.block.divide.Given as goal

abbrev pub invariant-loop-b : goal.invariant-loop-b
invariant-loop-b g l = record {
  few : l.t.count ≤ l.b-index;
  divided : (test : ℤ → Bool) → Tests (λ a b. g.F.Fn.post l.counts (a, tt) b) test
      → Dividing l.amount (filter (λ b. test b.price) l.blocks) l.t (filter (λ b. test b.price) (drop l.b-index l.blocks));
}
