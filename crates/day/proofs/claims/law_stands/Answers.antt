use Rattle.day.proofs.Posts.{goes_written}
use Rattle.day.proofs.Runs.{lawful}
use Rattle.amounts.proofs.Balance.{nets_balance}
use Rattle.day.proofs.claims.law_stands.Goals as goal

pub returns : goal.returns
returns g c = record {
  law = λ n d e x z cs rs. lawful g.L.Accounts.view g.L.Ledger.took nets_balance n x cs rs d e z;
  written = λ n d e x z cs rs. goes_written g.L.Accounts.view g.L.Ledger.took g.L.Ledger.none g.L.Ledger.more n d x cs rs e z;
}
