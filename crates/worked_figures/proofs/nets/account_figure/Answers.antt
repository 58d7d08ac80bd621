use Rattle.std.proofs.Common.{refl}
use Rattle.worked_figures.specs.Nets.{account_figure}
use Rattle.worked_figures.proofs.nets.account_figure.Goals as goal

pub returns : goal.returns
unfolding account_figure
returns c =
    rw (c.new.ensures, c.in_ok-what.ensures, c.signed-expected.ensures, c.signed-computed.ensures, c.expected_at.ensures, c.amount_at.ensures) refl
