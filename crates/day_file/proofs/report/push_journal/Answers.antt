use Rattle.std.proofs.Common.{length, w64, SFits, rules, ap, arith}
use Rattle.std.proofs.lemmas.Int.{to_z-of_z}
use Rattle.std.proofs.lemmas.Grind.{common_steps}
use Rattle.day_file.proofs.report.push_journal.Goals as goal

pub loop-number-preserved : goal.loop-number-preserved
loop-number-preserved c =
    let f : SFits w64 c.in-Some.line.now.cents = search rules in
    let line = simp to_z-of_z at c.journal_line.ensures in
    let steps = c.in-Some.ensures.steps in
    record { count = omega (arith, ap length steps.1); out = grind (arith, common_steps) }
