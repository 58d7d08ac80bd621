-- A text that is read as a page is that page's text, and the page keeps its spans.
use Rattle.std.proofs.Common.{◌≡◌, ℕ, zero, suc, ◌+◌, List, [], ◌∷◌, ◌++◌, length, ℤ, neg_ℤ, Ok, codes, sym, refl, ap, ◌∙◌, subst, arith}
use Rattle.std.specs.List.{All}
use Rattle.std.proofs.lemmas.List.{append_assoc, append-nil}
use Rattle.std.proofs.lemmas.List.Elements.{All-nil, All-cons}
use Rattle.text.specs.declared.refusal.Refusal.{Refusal}
use Rattle.text.specs.Lines.{natural_line_of, placed, line_text, signed_line_text}
use Rattle.text.proofs.Lined.{same_ok, natural_line_only, signed_line_only, and_then_ok, closed_ok, placed_ok}
use Rattle.ledger.specs.View.{most}
use Rattle.journal.specs.Lines.{most_moved, InMove}
use Rattle.statement.specs.Pages.{StatementPage}
use Rattle.statement.specs.Read.{amount_line_of, balance_line_of, amounts_from, amounts_of, read_of}
use Rattle.statement.specs.Write.{amounts_text, page_text}
use Rattle.statement.specs.Claims.{PageFits}
use Rattle.statement.proofs.Trips.{low_move, high_move, low_money, high_money}

-- n amounts behind acc were read
record AmountsAre (n : ℕ) (acc zs : List ℤ) (s rest : List ℕ) : Type 0 where
  sent : List ℤ
  all : zs ≡ acc ++ sent
  many : length sent ≡ n
  moves : All InMove sent
  text : s ≡ amounts_text sent ++ rest

amounts_only : (n line : ℕ) (acc : List ℤ) (s : List ℕ) (zs : List ℤ) (rest : List ℕ)
    → amounts_from n line acc s ≡ Ok (zs, rest) → AmountsAre n acc zs s rest
amounts_only zero line acc s zs rest e =
    let p = same_ok {E = Refusal} (acc, s) (zs, rest) e in
    record { sent = []; all = ap (λ x. x.0) (sym p) ∙ sym (append-nil acc); many = refl; moves = All-nil InMove; text = ap (λ x. x.1) p }
amounts_only (suc n) line acc s zs rest e =
    let a = and_then_ok (placed line (amount_line_of s)) (λ x. amounts_from n (line + 1) (acc ++ (x.0 ∷ [])) x.1) (zs, rest) e in
    let z = a.0.0 in let t = a.0.1 in
    let b = signed_line_only (codes "amount") (neg_ℤ most_moved) most_moved s z t low_move high_move (placed_ok line (amount_line_of s) a.0 a.1) in
    let d = amounts_only n (line + 1) (acc ++ (z ∷ [])) t zs rest a.2 in
    let text = signed_line_text (codes "amount") z in
    record {
      sent = z ∷ d.sent;
      all = d.all ∙ append_assoc acc (z ∷ []) d.sent;
      many = ap suc d.many;
      moves = All-cons InMove z d.sent (b.1, b.2) d.moves;
      text = b.0 ∙ ap (λ l. text ++ l) d.text ∙ sym (append_assoc text (amounts_text d.sent) rest);
    }

-- the lines, put together
gathered : (s s₁ s₂ s₃ s₄ s₅ : List ℕ) (p : StatementPage) → s ≡ line_text (codes "account") p.account ++ s₁ → s₁ ≡ line_text (codes "page") p.page ++ s₂
    → s₂ ≡ line_text (codes "lines") (length p.amounts) ++ s₃ → s₃ ≡ amounts_text p.amounts ++ s₄ → s₄ ≡ signed_line_text (codes "balance") p.balance ++ s₅ → s₅ ≡ []
    → s ≡ page_text p
gathered s s₁ s₂ s₃ s₄ s₅ p a b c d e f =
    let account = line_text (codes "account") p.account in
    let page = line_text (codes "page") p.page in
    let lines = line_text (codes "lines") (length p.amounts) in
    let balance = signed_line_text (codes "balance") p.balance in
    let shown = amounts_text p.amounts ++ balance in
    let last : s₄ ≡ balance = e ∙ ap (λ t. balance ++ t) f ∙ append-nil balance in
    let rest : s₂ ≡ lines ++ shown = c ∙ ap (λ t. lines ++ t) (d ∙ ap (λ t. amounts_text p.amounts ++ t) last) in
    a ∙ ap (λ t. account ++ t) (b ∙ ap (λ t. page ++ t) rest ∙ sym (append_assoc page lines shown))
    ∙ sym (append_assoc account (page ++ lines) shown)

pub page_only : (s : List ℕ) (p : StatementPage) → read_of s ≡ Ok p → PageFits p × (s ≡ page_text p)
page_only s p e =
    let account = natural_line_of (codes "account") 0 11 in
    let page = natural_line_of (codes "page") 1 64 in
    let lines = natural_line_of (codes "lines") 0 64 in
    let e₁ = and_then_ok (placed 1 (account s)) _ p e in
    let a = e₁.0.0 in let s₁ = e₁.0.1 in
    let e₂ = and_then_ok (placed 2 (page s₁)) _ p e₁.2 in
    let n = e₂.0.0 in let s₂ = e₂.0.1 in
    let e₃ = and_then_ok (placed 3 (lines s₂)) _ p e₂.2 in
    let k = e₃.0.0 in let s₃ = e₃.0.1 in
    let e₄ = and_then_ok (amounts_of k s₃) _ p e₃.2 in
    let zs = e₄.0.0 in let s₄ = e₄.0.1 in
    let e₅ = and_then_ok (placed (4 + k) (balance_line_of s₄)) _ p e₄.2 in
    let b = e₅.0.0 in let s₅ = e₅.0.1 in
    let read : StatementPage = record { account = a; page = n; amounts = zs; balance = b } in
    let end = closed_ok (5 + k) s₅ read p e₅.2 in
    let al = natural_line_only (codes "account") 0 11 s a s₁ (omega arith) (placed_ok 1 (account s) e₁.0 e₁.1) in
    let nl = natural_line_only (codes "page") 1 64 s₁ n s₂ (omega arith) (placed_ok 2 (page s₁) e₂.0 e₂.1) in
    let kl = natural_line_only (codes "lines") 0 64 s₂ k s₃ (omega arith) (placed_ok 3 (lines s₂) e₃.0 e₃.1) in
    let zl = amounts_only k 4 [] s₃ zs s₄ e₄.1 in
    let bl = signed_line_only (codes "balance") (neg_ℤ most) most s₄ b s₅ low_money high_money (placed_ok (4 + k) (balance_line_of s₄) e₅.0 e₅.1) in
    let many : length zs ≡ k = ap length zl.all ∙ zl.many in
    let most_lines = kl.2 in
    let fits : PageFits read = record {
      account = al.2;
      page_least = nl.1;
      page_most = nl.2;
      few = omega arith;
      amounts = subst (All InMove) (sym zl.all) zl.moves;
      balance = (bl.1, bl.2);
    } in
    let text = gathered s s₁ s₂ s₃ s₄ s₅ read al.0 nl.0 (kl.0 ∙ ap (λ j. line_text (codes "lines") j ++ s₃) (sym many)) (zl.text ∙ ap (λ l. amounts_text l ++ s₄) (sym zl.all)) bl.0 end.0 in
    subst (λ q. PageFits q × (s ≡ page_text q)) end.1 (fits, text)
