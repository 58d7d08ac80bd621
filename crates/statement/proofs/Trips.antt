-- The text of a page that keeps its spans is read as that page.
use Rattle.std.proofs.Common.{◌≡◌, ℕ, suc, ◌+◌, Bool, true, false, eqb, List, [], ◌∷◌, ◌++◌, length, ℤ, neg_ℤ, Ok, Err, codes, Result, sym, refl, ap, ◌∙◌, arith, w64, SFits}
use Rattle.std.specs.List.{All}
use Rattle.std.proofs.lemmas.List.{append_assoc, append-nil}
use Rattle.std.proofs.lemmas.List.Elements.{All-head, All-tail}
use Rattle.text.specs.declared.line.LineFault.TheVariants.{Extra}
use Rattle.text.specs.declared.refusal.Refusal.{Refusal}
use Rattle.text.specs.Lines.{natural_line_of, placed, and_then, closed, line_text, signed_line_text}
use Rattle.text.proofs.Lined.{Plain, natural_line_back, signed_line_back}
use Rattle.ledger.specs.View.{most}
use Rattle.journal.specs.Lines.{most_moved, InMove}
use Rattle.statement.specs.Pages.{StatementPage}
use Rattle.statement.specs.Read.{amount_line_of, balance_line_of, amounts_from, amounts_of, read_of}
use Rattle.statement.specs.Write.{amounts_text, page_text}
use Rattle.statement.specs.Claims.{PageFits}

-- ---- keys and spans
pub plain_account : Plain (codes "account")
plain_account = record { feed = λ t. refl; past = λ t. refl; name = λ t. refl }

pub plain_page : Plain (codes "page")
plain_page = record { feed = λ t. refl; past = λ t. refl; name = λ t. refl }

pub plain_lines : Plain (codes "lines")
plain_lines = record { feed = λ t. refl; past = λ t. refl; name = λ t. refl }

pub plain_amount : Plain (codes "amount")
plain_amount = record { feed = λ t. refl; past = λ t. refl; name = λ t. refl }

pub plain_balance : Plain (codes "balance")
plain_balance = record { feed = λ t. refl; past = λ t. refl; name = λ t. refl }

pub low_move : SFits w64 (neg_ℤ most_moved)
low_move = record { sfits = omega arith }

pub high_move : SFits w64 most_moved
high_move = record { sfits = omega arith }

pub low_money : SFits w64 (neg_ℤ most)
low_money = record { sfits = omega arith }

pub high_money : SFits w64 most
high_money = record { sfits = omega arith }

-- ---- the amounts
amounts_back : (zs acc : List ℤ) (line : ℕ) (t : List ℕ) → All InMove zs
    → amounts_from (length zs) line acc (amounts_text zs ++ t) ≡ Ok (acc ++ zs, t)
amounts_back [] acc line t all = ap (λ l. Ok (l, t)) (sym (append-nil acc))
amounts_back (z ∷ zs) acc line t all =
    let move = All-head InMove z zs all in
    let rest = amounts_text zs ++ t in
    let text = signed_line_text (codes "amount") z in
    let read : amount_line_of (text ++ rest) ≡ Ok (z, rest) =
    signed_line_back (codes "amount") plain_amount (neg_ℤ most_moved) most_moved z rest low_move high_move move.0 move.1 in
    ap (amounts_from (suc (length zs)) line acc) (append_assoc text (amounts_text zs) t)
    ∙ ap (λ r. and_then (placed line r) (λ x. amounts_from (length zs) (line + 1) (acc ++ (x.0 ∷ [])) x.1)) read
    ∙ amounts_back zs (acc ++ (z ∷ [])) (line + 1) t (All-tail InMove z zs all)
    ∙ ap (λ l. Ok (l, t)) (append_assoc acc (z ∷ []) zs)

-- ---- what is read from each line on
module _ (a : ℕ) where
  module _ (n : ℕ) where
    abbrev pub from_balance : List ℤ → ℕ → List ℕ → Result StatementPage Refusal
    from_balance zs k s =
        and_then (placed (4 + k) (balance_line_of s)) (λ b.
        closed (5 + k) b.1 (record { account = a; page = n; amounts = zs; balance = b.0 }))

    abbrev pub from_amounts : ℕ → List ℕ → Result StatementPage Refusal
    from_amounts k s = and_then (amounts_of k s) (λ zs. from_balance zs.0 k zs.1)

    abbrev pub from_lines : List ℕ → Result StatementPage Refusal
    from_lines s = and_then (placed 3 (natural_line_of (codes "lines") 0 64 s)) (λ k. from_amounts k.0 k.1)

  abbrev pub from_page : List ℕ → Result StatementPage Refusal
  from_page s = and_then (placed 2 (natural_line_of (codes "page") 1 64 s)) (λ n. from_lines n.0 n.1)

-- a text whose lines were read one after another
module _ (text s₁ s₂ s₃ s₄ s₅ : List ℕ) (a n k : ℕ) (zs : List ℤ) (b : ℤ)
    (e₁ : placed 1 (natural_line_of (codes "account") 0 11 text) ≡ Ok (a, s₁))
    (e₂ : placed 2 (natural_line_of (codes "page") 1 64 s₁) ≡ Ok (n, s₂))
    (e₃ : placed 3 (natural_line_of (codes "lines") 0 64 s₂) ≡ Ok (k, s₃))
    (e₄ : amounts_of k s₃ ≡ Ok (zs, s₄))
    (e₅ : placed (4 + k) (balance_line_of s₄) ≡ Ok (b, s₅)) where
  pub parts : read_of text ≡ closed (5 + k) s₅ (record { account = a; page = n; amounts = zs; balance = b })
  parts =
      ap (λ r. and_then r (λ a. from_page a.0 a.1)) e₁
      ∙ ap (λ r. and_then r (λ n. from_lines a n.0 n.1)) e₂
      ∙ ap (λ r. and_then r (λ k. from_amounts a n k.0 k.1)) e₃
      ∙ ap (λ r. and_then r (λ zs. from_balance a n zs.0 k zs.1)) e₄
      ∙ ap (λ r. and_then r (λ b. closed (5 + k) b.1 (record { account = a; page = n; amounts = zs; balance = b.0 }))) e₅

  -- bytes behind the last line
  pub reads_extra : eqb (length s₅) 0 ≡ false → read_of text ≡ Err record { line = 5 + k; fault = Extra }
  reads_extra q = parts ∙ more s₅ q
    where
      more : (s : List ℕ) → eqb (length s) 0 ≡ false
          → closed {X = StatementPage} (5 + k) s (record { account = a; page = n; amounts = zs; balance = b }) ≡ Err record { line = 5 + k; fault = Extra }
      more [] q = let t : ◌≡◌ {A = Bool} true false = q in let z : ◌≡◌ {A = ℕ} 0 1 = cc in absurd (omega arith)
      more (x ∷ xs) q = refl

-- ---- the whole page
pub page_read : (p : StatementPage) → PageFits p → read_of (page_text p) ≡ Ok p
page_read p f =
    let a = p.account in let n = p.page in let zs = p.amounts in let k = length zs in
    let balance = signed_line_text (codes "balance") p.balance in
    let t₃ = amounts_text zs ++ balance in
    let t₂ = line_text (codes "lines") k ++ t₃ in
    let t₁ = line_text (codes "page") n ++ t₂ in
    let split : page_text p ≡ line_text (codes "account") a ++ t₁ =
    append_assoc (line_text (codes "account") a) (line_text (codes "page") n ++ line_text (codes "lines") k) t₃
    ∙ ap (λ l. line_text (codes "account") a ++ l) (append_assoc (line_text (codes "page") n) (line_text (codes "lines") k) t₃) in
    let last : balance_line_of balance ≡ Ok (p.balance, []) =
    ap balance_line_of (sym (append-nil balance))
    ∙ signed_line_back (codes "balance") plain_balance (neg_ℤ most) most p.balance [] low_money high_money f.balance.0 f.balance.1 in
    ap read_of split
    ∙ parts (line_text (codes "account") a ++ t₁) t₁ t₂ t₃ balance [] a n k zs p.balance
    (ap (placed 1) (natural_line_back (codes "account") plain_account 0 11 a t₁ (omega arith) (omega arith) f.account))
    (ap (placed 2) (natural_line_back (codes "page") plain_page 1 64 n t₂ (omega arith) f.page_least f.page_most))
    (ap (placed 3) (natural_line_back (codes "lines") plain_lines 0 64 k t₃ (omega arith) (omega arith) f.few))
    (amounts_back zs [] 4 balance f.amounts)
    (ap (placed (4 + k)) last)
