-- What the account table and the credit limit show of themselves.
use Rattle.std.specs.Prelude.{List, ℤ}
use Rattle.ledgers.specs.declared.table.AccountTable.{AccountTable}
use Rattle.ledgers.specs.declared.limit.CreditLimit.{CreditLimit}

-- the balances of accounts 0 to 11
abbrev pub balances_of : AccountTable → List ℤ
balances_of t = t.balances

-- the ledger below the limits
abbrev pub below_of : {L : Type 0} → CreditLimit L → L
below_of s = s.below

-- the limits by account, as they were given
abbrev pub limits_of : {L : Type 0} → CreditLimit L → List ℤ
limits_of s = s.limits
