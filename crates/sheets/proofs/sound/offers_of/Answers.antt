use Rattle.std.proofs.Common.{◌≡◌, refl, sym, ◌∙◌, rules, sum_by}
use Rattle.std.proofs.iter.runs.Made.{chains}
use Rattle.std.proofs.lemmas.List.Recursion.{is_sum_by}
use Rattle.sheets.specs.Sheets.{offer, offers}
use Rattle.sheets.proofs.sound.offers_of.Goals as goal

pub returns : goal.returns
returns c =
    let summed : c.sum.result ≡ sum_by (λ x. offer x.submission) c.args.table.now = search (rules, chains) in
    summed ∙ sym (is_sum_by offers (λ x. offer x.submission) refl (λ x xs. refl) c.args.table.now)
