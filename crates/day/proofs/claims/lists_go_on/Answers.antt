use Rattle.day.proofs.Runs.{goes_then}
use Rattle.day.proofs.claims.lists_go_on.Goals as goal

pub returns : goal.returns
returns g c = goes_then g.L.Accounts.view g.L.Ledger.took
