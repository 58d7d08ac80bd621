-- What a loss factor and a balancing price show: the number that each is.
use Rattle.std.specs.Prelude.{ℕ, ℤ}
use Rattle.schedule.specs.declared.span.LossFactor.{LossFactor}
use Rattle.schedule.specs.declared.span.BalancingPrice.{BalancingPrice}

-- in ten-thousandths
abbrev pub factor_parts : LossFactor → ℕ
factor_parts f = f.value

-- in cents per MWh
abbrev pub price_cents : BalancingPrice → ℤ
price_cents p = p.cents
