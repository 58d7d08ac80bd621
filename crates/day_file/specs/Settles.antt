-- A day file settled: what is printed of it, for every string of bytes.
use Rattle.std.specs.Prelude.{◌≡◌, ℕ, Bool, true, false, min, if◌then◌else◌, List, [], ◌∷◌, ◌++◌, length, map, replicate, ℤ, pos, Some, None, Option}
use Rattle.ledgers.specs.Limits.{limited}
use Rattle.ledgers.specs.Tables.{table_view, with_posts}
use Rattle.journal.specs.declared.line.Line.{Line}
use Rattle.journal.specs.Extending.{lines_of}
use Rattle.journal.specs.Lines.{lines_view}
use Rattle.pool.specs.declared.call.Call.{Call}
use Rattle.pool.specs.Day.{Day}
use Rattle.day.specs.Book.{Answered}
use Rattle.day.specs.Law.{Seen, Took, Law}
use Rattle.day_file.specs.declared.course.Course.{Course}
use Rattle.day_file.specs.declared.terms.Terms.{Terms}
use Rattle.day_file.specs.declared.settled.Reply.{Reply}
use Rattle.day_file.specs.declared.settled.Reply.TheVariants.{Settled, Faulty}
use Rattle.day_file.specs.Lines.{lines}
use Rattle.day_file.specs.Calls.{said, calls_on, numbers_on}
use Rattle.day_file.specs.Faults.{terms_of, faults_text}
use Rattle.day_file.specs.Reports.{answers_text, balances_text, lines_from, taken_in, refused_in, tally_of}
use Rattle.day_file.specs.Statements.{statements_from}

-- the calls of lines on blank sheets and the ledger x, which is z after them, by the law of the day;
-- and the text of their answers and of the balances after them
pub record Tells {L : Type 0} (view : Seen L) (took : Took L) (sheets : ℕ) (ss : List (List ℕ))
    (x z : L) (c : Course) : Type 0 where
  -- the calls are those of the lines, in their order
  pub calls : List Call
  pub said : map said calls ≡ calls_on ss
  pub answers : List Answered
  pub day : Day
  pub law : Law view took sheets x calls answers day z
  pub text : c.text.items ≡ answers_text (numbers_on 1 ss) answers ++ balances_text (view z)
  pub count : c.tally.calls ≡ length answers
  pub taken : c.tally.taken ≡ taken_in answers
  pub refused : c.tally.refused ≡ refused_in answers

-- what is printed of lines over the ledger x: the answers, each on its line, the balances after them,
-- what is told of the ledger then, and the tally
pub record Prints {L : Type 0} (view : Seen L) (took : Took L) (sheets : ℕ) (ss : List (List ℕ))
    (x : L) (behind : L → List ℕ) (text : List ℕ) : Type 0 where
  -- the calls are those of the lines, in their order, and follow the law of the day
  pub calls : List Call
  pub said : map said calls ≡ calls_on ss
  pub answers : List Answered
  pub day : Day
  pub last : L
  pub law : Law view took sheets x calls answers day last
  pub printed : text ≡ answers_text (numbers_on 1 ss) answers
      ++ (balances_text (view last) ++ (behind last ++ tally_of answers))

-- the account table under credit limits, by its balances
abbrev pub table_seen : List ℤ → Seen (List ℤ)
table_seen limits zs = limited limits (table_view zs)

-- a post adds to its account's balance, and to no other
abbrev pub balance_by_balance : Took (List ℤ)
balance_by_balance zs ps ys = ys ≡ with_posts zs ps

-- a journal with memory for n lines, of which 4,096 at most are used, under credit limits, by its
-- lines: a post is a line behind the last
abbrev pub journal_seen : List ℤ → ℕ → Seen (List Line)
journal_seen limits n ls = limited limits (lines_view (min n 4096) ls)

abbrev pub line_by_line : Took (List Line)
line_by_line ls ps ms = ms ≡ ls ++ lines_of ps

-- what is told of a journal's lines: these where they are asked for, and then the pages that lines
-- of the file ask for
abbrev pub text_behind : Bool → List (List ℕ) → List Line → List ℕ
text_behind print ss ls = (if print then lines_from 1 ls else []) ++ statements_from 1 ss ls

-- over the account table from zero, or over a journal without a line, of which is told behind the
-- balances what the file asks for
abbrev pub PrintsOver : Option ℕ → Terms → List (List ℕ) → List ℕ → Type 0
PrintsOver None t ss text =
    Prints (table_seen t.limits) balance_by_balance t.sheets ss (replicate 12 (pos 0)) (λ zs. []) text
PrintsOver (Some n) t ss text =
    Prints (journal_seen t.limits n) line_by_line t.sheets ss []
    (text_behind t.print ss) text

-- what is printed of the text of a day file without faults
abbrev pub Settles : List ℕ → List ℕ → Type 0
Settles file text = PrintsOver (terms_of file).journal (terms_of file) (lines file) text

abbrev pub is_empty : List ℕ → Bool
is_empty [] = true
is_empty (c ∷ cs) = false

-- a file with a faulty line settles nothing: each of its faulty lines is told
abbrev pub Replies : List ℕ → Reply → Type 0
Replies file (Settled text) = (is_empty (faults_text file) ≡ true) × Settles file text.items
Replies file (Faulty text) = (is_empty (faults_text file) ≡ false) × (text.items ≡ faults_text file)

-- the text that a file is answered
abbrev pub text_of : Reply → List ℕ
text_of (Settled text) = text.items
text_of (Faulty text) = text.items
