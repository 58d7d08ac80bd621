use Rattle.std.proofs.Common.{ap, ◌∙◌}
use Rattle.day_file.specs.Lines.{lines}
use Rattle.day_file.proofs.Settles.{prints_table}
use Rattle.day_file.proofs.settled.over_table.Goals as goal

pub returns : goal.returns
returns c =
    let zero = ap (λ b. b.balances) c.new-ledger.ensures.below ∙ c.new.ensures in
    prints_table c.args.terms.now (lines c.args.file.now) _ _ c.in_ok-course.course _ c.requires c.new-ledger.ensures.limits zero c.in_ok-course.ensures c.in_ok-push_tally.ensures
