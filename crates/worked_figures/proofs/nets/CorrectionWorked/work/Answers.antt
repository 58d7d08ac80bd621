use Rattle.std.proofs.Common.{refl}
use Rattle.worked_figures.proofs.nets.CorrectionWorked.work.Goals as goal

pub returns : goal.returns
returns c = rw (c.in_ok-push_accounts.ensures, c.as_str.ensures.value, c.in_ok-name.ensures.ok, c.change_of.ensures) refl
