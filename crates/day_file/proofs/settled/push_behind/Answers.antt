use Rattle.std.proofs.Common.{◌≡◌, if◌then◌else◌, [], ◌++◌, append-nil, append_assoc, sym, ap, ◌∙◌}
use Rattle.journal.specs.Shown.{posted_of}
use Rattle.day_file.specs.Lines.{lines}
use Rattle.day_file.specs.Reports.{lines_from}
use Rattle.day_file.specs.Statements.{statements_from}
use Rattle.day_file.proofs.Settles.{on_ok}
use Rattle.day_file.proofs.settled.push_behind.Goals as goal
use Rattle.day_file.proofs.settled.push_behind.Goals.{then-print+in_ok-push_journal, else-print}

pub returns : goal.returns
returns c =
    let ls = posted_of c.args.journal.now in
    let old = c.args.out.now.items in
    let shown = if c.args.print then lines_from 1 ls else [] in
    let pages = statements_from 1 (lines c.args.file.now) ls in
    let told : c.if-print.out.items ≡ old ++ shown =
    elim c.if-print.branch [
      | then-print+in_ok-push_journal w ↦
          ap (λ o. o.items) w.out-is ∙ w.in_ok-push_journal.ensures ∙ ap (λ xs. old ++ lines_from 1 xs) w.posted.ensures.lines
          ∙ ap (λ b. old ++ (if b then lines_from 1 ls else [])) (sym w.if-print.true)
      | else-print w ↦
          ap (λ o. o.items) w.out-is ∙ sym (append-nil old) ∙ ap (λ b. old ++ (if b then lines_from 1 ls else [])) (sym w.if-print.false)
    ] in
    on_ok c.push_statements.result (λ e. e ∙ ap (λ o. o ++ pages) told ∙ append_assoc old shown pages) c.push_statements.ensures
