use Rattle.std.proofs.Common.{refl}
use Rattle.day_file.specs.Lines.{lines}
use Rattle.day_file.proofs.Settles.{tells}
use Rattle.day_file.proofs.settled.settle_over.Goals as goal

pub returns : goal.returns
returns g c =
    tells g.L.Accounts.view g.L.Ledger.took c.law_stands.ensures.law c.args.sheets (lines c.args.file.now) _ _ _ _ _ c.in_ok-course.ensures c.in_ok-run.ensures c.in_ok-push_balances.ensures refl
