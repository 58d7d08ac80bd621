use Rattle.std.proofs.Common.{◌≡◌, ◌++◌, length, ap, ◌∙◌, rules}
use Rattle.answer_text.specs.Answers.{tally_text}
use Rattle.day_file.specs.Lines.{lines}
use Rattle.day_file.specs.Settles.{text_behind}
use Rattle.day_file.proofs.Settles.{written, prints_journal}
use Rattle.day_file.proofs.settled.over_journal.Goals as goal

pub returns : goal.returns
returns c =
    let t = c.args.terms.now in
    let file = lines c.args.file.now in
    let old = c.new-ledger.result.below in
    let new = c.settle_over.new.ledger.below in
    let below = c.new-ledger.ensures.below in
    let used : old.used ≡ 0 = ap (λ j. j.used) below ∙ c.new-journal.ensures.used in
    let long : length old.lines.now ≡ c.args.lines =
    ap (λ j. length j.lines.now) below ∙ ap length c.new-journal.ensures.lines ∙ ap length c.as_mut_slice.ensures.value ∙ search rules
    in
    let posted = ap written c.into_below-journal.ensures in
    let first = c.in_ok-course.course in
    let tally = tally_text first.tally.calls first.tally.taken first.tally.refused in
    let text = c.in_ok-push_behind.ensures ∙ ap (λ ls. first.text.items ++ text_behind t.print file ls) posted in
    prints_journal t c.args.lines file _ _ first _ c.requires c.new-ledger.ensures.limits used long c.in_ok-course.ensures
    (c.in_ok-push_tally.ensures ∙ ap (λ l. l ++ tally) text)
