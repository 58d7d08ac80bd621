use Rattle.std.proofs.Common.{◌≡◌, ◌≤◌, ◌*◌, ◌++◌, length, refl, sym, ap, ◌∙◌, subst, pos, w64, SFits, get_or, rules, arith}
use Rattle.std.proofs.lemmas.Int.{to_z-of_z}
use Rattle.text.specs.Drafts.{kept}
use Rattle.statement.specs.Pages.{StatementPage}
use Rattle.statement.specs.Write.{amounts_text, head_text, page_text}
use Rattle.statement.proofs.Writing.{laid_none, laid_more, laid_all, paged}
use Rattle.statement.proofs.write.page_draft.Goals as goal

pub loop-cents-init : goal.loop-cents-init
loop-cents-init c = laid_none c.push_head.new.draft _ c.as_slice-amounts.result.now c.push_head.ensures.after

pub loop-cents-preserved : goal.loop-cents-preserved
loop-cents-preserved c =
    let zs = c.as_slice-amounts.result.now in
    let i = c.loop-cents.cents-index in
    let fits : SFits w64 (get_or zs i (pos 0)) = search rules in
    let line = simp to_z-of_z at c.push_signed_line.ensures in
    laid_more _ c.loop-cents.draft c.push_signed_line.new.self zs i (pos 0) (get_or zs i (pos 0)) c.loop-cents.invariant c.loop-cents-test.true refl fits line

pub returns : goal.returns
returns c =
    let i = c.page.inside in
    let p : StatementPage = record { account = i.account; page = i.page; amounts = i.amounts.items; balance = i.balance } in
    let seen = c.page.view_is in
    let zs = c.as_slice-amounts.result.now in
    let same : zs ≡ p.amounts = c.as_slice-amounts.ensures.value in
    let l = laid_all c.push_head.new.draft c.loop-cents.draft zs c.loop-cents.cents-index c.loop-cents.invariant c.loop-cents-test.false c.loop-cents.auto.cents-index-end in
    let few : length p.amounts ≤ 64 = omega (arith, ap length same, c.as_slice-amounts.ensures.fits) in
    let fits : SFits w64 i.balance = search rules in
    let balance = simp to_z-of_z at c.push_signed_line-2.ensures in
    paged c.new-draft.result c.push_head.new.draft c.loop-cents.draft _ p c.new-draft.ensures few fits
    (c.push_head.ensures.after ∙ ap (λ q. kept (c.new-draft.result ++ head_text q)) (sym seen))
    (subst (λ q. length (head_text q) ≤ 60) (sym seen) c.push_head.ensures.short)
    (l.0 ∙ ap (λ ys. kept (c.push_head.new.draft ++ amounts_text ys)) same)
    (subst (λ ys. length (amounts_text ys) ≤ 28 * length ys) same l.1)
    balance
    ∙ ap page_text seen
