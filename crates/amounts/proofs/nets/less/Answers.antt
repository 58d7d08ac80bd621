use Rattle.std.proofs.Common.{pos, ◌-ℤ◌, get_or, rules}
use Rattle.amounts.proofs.Made.{serves_from_indices, made_all}
use Rattle.amounts.proofs.nets.less.Goals as goal

pub from_fn-requires : goal.from_fn-requires
from_fn-requires c = (search rules, serves_from_indices (λ x q r. search rules) (λ x lt. search rules))

pub returns : goal.returns
returns c = made_all _ _ (λ a. get_or c.args.new.now a (pos 0) -ℤ get_or c.args.old.now a (pos 0)) (λ i y q called. search rules) _ 12 (pos 0) c.from_fn.ensures.items
