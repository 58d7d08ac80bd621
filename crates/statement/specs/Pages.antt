-- A page of an account's statement: what it shows of a journal's lines.
use Rattle.std.specs.Prelude.{ℕ, ◌-◌, ◌*◌, zero, suc, List, [], ◌++◌, map, take, drop, ℤ, ◌==◌}
use Rattle.std.specs.List.{filter}
use Rattle.journal.specs.declared.line.Line.{Line}
use Rattle.journal.specs.Lines.{line_sum}

-- what stands on a page: of which account, the page's number, the amounts shown, the balance
pub record StatementPage : Type 0 where
  pub account : ℕ
  pub page : ℕ
  pub amounts : List ℤ
  pub balance : ℤ

-- what was posted to an account, oldest first
abbrev pub postings_of : ℕ → List Line → List ℤ
postings_of a ls = map (λ l. l.cents) (filter (λ l. l.account == a) ls)

-- page n shows postings 64 × n − 63 to 64 × n, as far as there are any
abbrev pub postings_on : ℕ → List ℤ → List ℤ
postings_on n zs = take 64 (drop (64 * (n - 1)) zs)

-- page n of account a; the balance is the account's, the same on every page
abbrev pub statement_of : List Line → ℕ → ℕ → StatementPage
statement_of ls a n =
    record {
      account = a;
      page = n;
      amounts = postings_on n (postings_of a ls);
      balance = line_sum a ls;
    }

-- what pages 1 to n show, one behind the other
unfoldable pub postings_up_to : ℕ → List ℤ → List ℤ
postings_up_to zero zs = []
postings_up_to (suc n) zs = postings_up_to n zs ++ postings_on (suc n) zs
