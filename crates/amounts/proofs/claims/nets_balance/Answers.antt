use Rattle.amounts.proofs.Balance.{nets_balance, none_beyond}
use Rattle.amounts.proofs.claims.nets_balance.Goals as goal

pub returns : goal.returns
returns c = record { balance = nets_balance; beyond = none_beyond }
