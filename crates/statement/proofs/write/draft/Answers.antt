use Rattle.std.proofs.Common.{sym, ap, ◌∙◌}
use Rattle.journal.specs.Shown.{posted_of}
use Rattle.statement.specs.Write.{page_text}
use Rattle.statement.proofs.Lengths.{draft_short}
use Rattle.statement.proofs.write.draft.Goals as goal

pub returns-clause-short : goal.returns-clause-short
returns-clause-short c =
    let j = c.args.journal.now in
    draft_short (posted_of j) c.args.account c.args.page c.page_draft.result j.moves j.spans (sym c.check_page.ensures ∙ c.in_ok-check_page.was)
    (c.page_draft.ensures ∙ ap page_text c.page_of.ensures)
