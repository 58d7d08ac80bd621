use Rattle.std.proofs.Common.{ℕ, ◌*◌, ◌≤◌, length}
use Rattle.sheets.specs.declared.facility.Facility.{Facility}
use Rattle.sheets.specs.declared.row.Figures.{Figures}
use Rattle.amounts.specs.declared.facility.Standing.{Standing}
use Rattle.amounts.specs.Sums.{Counts}
use Rattle.amounts.proofs.Summing.{Summed}
use Rattle.amounts.proofs.facility.sum_over.Given as goal

abbrev pub invariant-loop-facility : goal.invariant-loop-facility
invariant-loop-facility g l = record {
  few : l.sum ≤ 93750000000000000 * length l.yielded;
  counted : (e : Facility → Figures → ℕ) (most : ℕ) → Counts (λ x n. g.F.Fn.post l.count (x, tt) n) (λ (s : Standing). e s.facility s.figures) most → Summed e most l.account.number l.sheet (length l.yielded) l.sum;
}
