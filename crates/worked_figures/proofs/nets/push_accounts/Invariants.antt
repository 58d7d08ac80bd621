use Rattle.std.proofs.Common.{◌≡◌, ◌++◌, map}
use Rattle.std.specs.List.{range_with_len}
use Rattle.worked_figures.specs.Nets.{account_figure}
use Rattle.worked_figures.proofs.nets.push_accounts.Given as goal

abbrev pub invariant-loop-account : goal.invariant-loop-account
invariant-loop-account l =
    l.figures.items ≡ l.initial.figures.items ++ map (account_figure l.name l.expected l.computed) (range_with_len 0 l.account)
