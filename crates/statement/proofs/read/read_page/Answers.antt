use Rattle.std.proofs.Common.{◌≡◌, ◌+◌, Ok, codes, sym, ◌∙◌, rules}
use Rattle.text.specs.Lines.{natural_line_of, placed}
use Rattle.statement.specs.Read.{balance_line_of, amounts_of}
use Rattle.statement.proofs.Trips.{reads_extra}
use Rattle.statement.proofs.read.read_page.Goals as goal

pub returns-then-not-is_empty : goal.returns-then-not-is_empty
returns-then-not-is_empty c =
    let a = c.in_ok-account.account in let s₁ = c.in_ok-account.rest.now in
    let n = c.in_ok-page.page in let s₂ = c.in_ok-page.rest.now in
    let k = c.in_ok-lines.lines in let s₃ = c.in_ok-lines.rest.now in
    let zs = c.read_amounts.new.amounts.items in let s₄ = c.in_ok-rest.rest.now in
    let b = c.in_ok-balance.balance in let s₅ = c.in_ok-balance.rest.now in
    let account : placed 1 (natural_line_of (codes "account") 0 11 c.args.text.now) ≡ Ok (a, s₁) = search rules in
    let page : placed 2 (natural_line_of (codes "page") 1 64 s₁) ≡ Ok (n, s₂) = search rules in
    let lines : placed 3 (natural_line_of (codes "lines") 0 64 s₂) ≡ Ok (k, s₃) = search rules in
    let amounts : amounts_of k s₃ ≡ Ok (zs, s₄) = search rules in
    let balance : placed (4 + k) (balance_line_of s₄) ≡ Ok (b, s₅) = search rules in
    sym (reads_extra c.args.text.now s₁ s₂ s₃ s₄ s₅ a n k zs b account page lines amounts balance (sym c.is_empty.ensures ∙ c.if-not-is_empty.true))
