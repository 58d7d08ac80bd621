-- How a page is read: account, page, the number of amounts, that many amounts, then the balance.
use Rattle.std.specs.Prelude.{ℕ, zero, suc, ◌+◌, if◌then◌else◌, List, [], ◌∷◌, ◌++◌, length, drop, ℤ, neg_ℤ, Ok, Err, codes, Result, nat_lt}
use Rattle.text.specs.declared.line.LineFault.{LineFault}
use Rattle.text.specs.declared.refusal.Refusal.{Refusal}
use Rattle.text.specs.Lines.{natural_line_of, signed_line_of, placed, and_then, closed}
use Rattle.ledger.specs.View.{most}
use Rattle.journal.specs.Lines.{most_moved}
use Rattle.statement.specs.declared.page.Statement.{Statement}
use Rattle.statement.specs.declared.refusal.ReadRefusal.{ReadRefusal}
use Rattle.statement.specs.declared.refusal.ReadRefusal.TheVariants.{FewPlaces, Faulty}
use Rattle.statement.specs.Pages.{StatementPage}

-- a line `amount=`, no further from zero than a post can move a balance
abbrev pub amount_line_of : List ℕ → Result (ℤ × List ℕ) LineFault
amount_line_of = signed_line_of (codes "amount") (neg_ℤ most_moved) most_moved

-- a line `balance=`, within the span of money
abbrev pub balance_line_of : List ℕ → Result (ℤ × List ℕ) LineFault
balance_line_of = signed_line_of (codes "balance") (neg_ℤ most) most

-- n more amounts after zs, from the given line
abbrev pub amounts_from : ℕ → ℕ → List ℤ → List ℕ → Result (List ℤ × List ℕ) Refusal
amounts_from zero line zs s = Ok (zs, s)
amounts_from (suc n) line zs s =
    and_then (placed line (amount_line_of s)) (λ x.
    amounts_from n (line + 1) (zs ++ (x.0 ∷ [])) x.1)

-- n amounts, from line 4 on
abbrev pub amounts_of : ℕ → List ℕ → Result (List ℤ × List ℕ) Refusal
amounts_of n s = amounts_from n 4 [] s

-- the whole page, or its first faulty line, for every string of bytes
abbrev pub read_of : List ℕ → Result StatementPage Refusal
read_of s =
    and_then (placed 1 (natural_line_of (codes "account") 0 11 s)) (λ a.
    and_then (placed 2 (natural_line_of (codes "page") 1 64 a.1)) (λ n.
    and_then (placed 3 (natural_line_of (codes "lines") 0 64 n.1)) (λ k.
    and_then (amounts_of k.0 k.1) (λ zs.
    and_then (placed (4 + k.0) (balance_line_of zs.1)) (λ b.
    closed (5 + k.0) b.1
    (record { account = a.0; page = n.0; amounts = zs.0; balance = b.0 }))))))

-- a page without its amounts, and how many of them there are
abbrev pub figures_of : StatementPage → Statement
figures_of p = record {
  account = p.account;
  page = p.page;
  lines = length p.amounts;
  balance = p.balance;
}

abbrev pub read_result : Result StatementPage Refusal → Result Statement ReadRefusal
read_result (Ok p) = Ok (figures_of p)
read_result (Err r) = Err (Faulty r)

-- the amounts in front, and what lay past them; refused, as it was
abbrev pub memory_with : Result StatementPage Refusal → List ℤ → List ℤ
memory_with (Ok p) zs = p.amounts ++ drop (length p.amounts) zs
memory_with (Err r) zs = zs

-- what is answered: that there is memory for 64 amounts is asked before the text is looked at
abbrev pub answer_of : List ℕ → List ℤ → Result Statement ReadRefusal
answer_of s zs =
    if nat_lt (length zs) 64 then Err (FewPlaces (length zs)) else read_result (read_of s)

-- the memory after
abbrev pub memory_after : List ℕ → List ℤ → List ℤ
memory_after s zs = if nat_lt (length zs) 64 then zs else memory_with (read_of s) zs
