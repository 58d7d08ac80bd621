use Rattle.std.proofs.Common.{sym}
use Rattle.merit.specs.Held.{offers_in}
use Rattle.merit.proofs.Sound.{walked}
use Rattle.merit.proofs.price.marginal_rung.Goals as goal

pub returns-clause-value : goal.returns-clause-value
returns-clause-value c =
    sym (walked (offers_in c.args.sheet.now) c.args.working.now c.lay_sheet-n.new.working c.lay_sheet-n.result c.args.demand c.first_reaching.result c.lay_sheet-n.ensures.count c.lay_sheet-n.ensures.slots c.first_reaching.ensures)
