use Rattle.std.proofs.Common.{refl}
use Rattle.worked_figures.proofs.all.all_figures.Goals as goal

pub returns : goal.returns
returns c =
    rw (
      c.in_ok-push_intakes.ensures,
      c.in_ok-push_adjustments.ensures,
      c.in_ok-push_settles.ensures,
      c.in_ok-push_corrections.ensures,
      c.in_ok-push_nets.ensures,
      c.in_ok-push_sheet_prices.ensures,
      c.in_ok-push_levies.ensures,
      c.in_ok-work_all.ensures,
      c.in_ok-push_energies.ensures,
      c.in_ok-push_prices.ensures,
      c.new-figures.ensures.items,
    ) refl
