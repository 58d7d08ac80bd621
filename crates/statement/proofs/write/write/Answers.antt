use Rattle.std.proofs.Common.{◌≡◌, take, Ok, sym, ap, ◌∙◌}
use Rattle.text.specs.Drafts.{placed_text, placed_length}
use Rattle.journal.specs.Shown.{posted_of}
use Rattle.statement.specs.Read.{read_of}
use Rattle.statement.proofs.PagesHold.{read_back}
use Rattle.statement.proofs.write.write.Goals as goal

pub returns-clause-reads_back : goal.returns-clause-reads_back
returns-clause-reads_back c =
    let j = c.args.journal.now in
    let text = c.in_ok-text.text in
    let out = c.args.out.now in
    let k = c.in_ok-place.field-0 in
    let same = c.bytes.ensures.value in
    let length_told : placed_length text out ≡ Ok k = ap (λ t. placed_length t out) (sym same) ∙ sym c.place.ensures.value ∙ c.in_ok-place.was in
    ap (λ t. read_of (take k t)) (c.place.ensures.after ∙ ap (λ t. placed_text t out) same)
    ∙ read_back (posted_of j) c.args.account c.args.page text out k j.moves j.spans (sym c.draft.ensures.value ∙ c.in_ok-text.was) length_told
