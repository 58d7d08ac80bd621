use Rattle.std.proofs.Common.{rules, arith}
use Rattle.std.proofs.lemmas.Grind.{common_steps}
use Rattle.std.proofs.lemmas.List.FromFn.{map-range_with_len_more}
use Rattle.worked_figures.specs.Nets.{account_figures}
use Rattle.worked_figures.proofs.nets.push_accounts.Goals as goal

pub loop-account-preserved : goal.loop-account-preserved
loop-account-preserved c = grind (arith, common_steps, map-range_with_len_more)

pub returns : goal.returns
unfolding account_figures
returns c = search rules
