use Rattle.std.proofs.Common.{refl, arith}
use lib.Signed.{le_z_yes}
use Rattle.journal.proofs.Running.{running_none}
use Rattle.journal.proofs.journal.Journal.new.Goals as goal

pub invariant_of-result : goal.invariant_of-result
invariant_of-result c = record {
  within = omega arith;
  slots = refl;
  running = running_none;
  spans = λ _ _. (le_z_yes tt, le_z_yes tt);
  moves = λ _ _ h. absurd (omega arith);
}
