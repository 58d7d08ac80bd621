use Rattle.std.proofs.Common.{◌≡◌, ◌^◌, ◌<◌, ◌≤◌, ◌++◌, length, codes, subst, ap, ◌∙◌, rules, arith}
use Rattle.text.specs.Drafts.{kept}
use Rattle.text.specs.Lines.{line_text}
use Rattle.statement.specs.Pages.{StatementPage}
use Rattle.statement.specs.Write.{head_text}
use Rattle.statement.proofs.Writing.{headed, length_head}
use Rattle.statement.proofs.write.push_head.Goals as goal

pub returns : goal.returns
returns c =
    let i = c.page.inside in
    let p : StatementPage = record { account = i.account; page = i.page; amounts = i.amounts.items; balance = i.balance } in
    let old = c.args.draft.now in
    let account : c.push_line.new.self ≡ kept (old ++ line_text (codes "account") i.account) = search rules in
    let page : c.push_line-2.new.self ≡ kept (c.push_line.new.self ++ line_text (codes "page") i.page) = search rules in
    let lines : c.push_line-3.new.self ≡ kept (c.push_line-2.new.self ++ line_text (codes "lines") (length i.amounts.items)) = search rules in
    let a : i.account < 2 ^ 32 = search rules in
    let n : i.page < 2 ^ 32 = search rules in
    let k : length i.amounts.items < 2 ^ 32 = omega (arith, c.len.ensures.value, c.len.ensures.fits) in
    record {
      after = headed old _ _ _ p account page lines ∙ ap (λ q. kept (old ++ head_text q)) c.page.view_is;
      short = subst (λ q. length (head_text q) ≤ 60) c.page.view_is (length_head p a n k);
    }
