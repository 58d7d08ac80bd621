-- What is claimed of pages, for every text, every page and every journal.
use Rattle.std.specs.Prelude.{◌≡◌, ℕ, ◌≤◌, List, length, Ok}
use Rattle.std.specs.List.{All}
use Rattle.ledger.specs.View.{InSpan}
use Rattle.journal.specs.declared.journal.Journal.{Journal}
use Rattle.journal.specs.Lines.{InMove}
use Rattle.journal.specs.Shown.{posted_of}
use Rattle.statement.specs.Pages.{StatementPage, postings_of, postings_up_to}
use Rattle.statement.specs.Read.{read_of}
use Rattle.statement.specs.Write.{page_text}

-- the spans of a page
pub record PageFits (p : StatementPage) : Type 0 where
  pub account : p.account ≤ 11
  pub page_least : 1 ≤ p.page
  pub page_most : p.page ≤ 64
  pub few : length p.amounts ≤ 64
  pub amounts : All InMove p.amounts
  pub balance : InSpan p.balance

-- a text is read as a page exactly where it is that page's text and the page keeps its spans
abbrev pub ReadsPages : Type 0
ReadsPages = (s : List ℕ) (p : StatementPage)
    → (read_of s ≡ Ok p → PageFits p × (s ≡ page_text p))
    × (PageFits p → s ≡ page_text p → read_of s ≡ Ok p)

-- only one text stands for each page
abbrev pub OneText : Type 0
OneText = (s t : List ℕ) (p : StatementPage) → read_of s ≡ Ok p → read_of t ≡ Ok p → s ≡ t

-- of every journal 64 pages show all postings of an account, each once and in its order
abbrev pub PagesShowAll : Type 0
PagesShowAll = (j : Journal) (a : ℕ)
    → postings_up_to 64 (postings_of a (posted_of j)) ≡ postings_of a (posted_of j)
