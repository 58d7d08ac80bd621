use Rattle.std.proofs.Common.{ap, ◌∙◌, arith}
use Rattle.schedule.specs.Rounding.{rounded_natural, M}
use Rattle.amounts.specs.Amounts.{compensation}
use Rattle.amounts.proofs.Bounds.{rounded_natural_bound}
use Rattle.amounts.proofs.account.AtPrice.compensation.Goals as goal

pub returns : goal.returns
unfolding compensation
returns c =
    record {
      value = c.cents_of.ensures ∙ ap (λ x. rounded_natural x M) c.owed.ensures.value;
      bound = omega (arith, c.cents_of.ensures, rounded_natural_bound c.owed.result c.owed.ensures.bound);
    }
