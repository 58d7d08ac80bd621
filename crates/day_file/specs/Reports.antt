-- What is printed of a day: the answers, the balances after it, the lines of its journal, the tally.
use Rattle.std.specs.Prelude.{ℕ, zero, suc, ◌+◌, List, [], ◌∷◌, ◌++◌, length, Ok, Err}
use Rattle.ledger.specs.View.{View}
use Rattle.ledger.specs.Sums.{ledger_sum}
use Rattle.journal.specs.declared.line.Line.{Line}
use Rattle.answer_text.specs.Answers.{answered, journal_text, balance_text, sum_text, tally_text}
use Rattle.day.specs.Book.{Answered}

-- the answers of the calls that stand on these lines
abbrev pub answers_text : List ℕ → List Answered → List ℕ
answers_text [] rs = []
answers_text (n ∷ ns) [] = []
answers_text (n ∷ ns) (r ∷ rs) = answered n r ++ answers_text ns rs

-- the balances of accounts 0 to n - 1
abbrev pub balances_below : ℕ → View → List ℕ
balances_below zero v = []
balances_below (suc n) v = balances_below n v ++ balance_text n (v.balance n)

-- the balances of all accounts, and their sum
abbrev pub balances_text : View → List ℕ
balances_text v = balances_below v.count v ++ sum_text (ledger_sum v)

-- lines of a journal, numbered from k on
abbrev pub lines_from : ℕ → List Line → List ℕ
lines_from k [] = []
lines_from k (x ∷ xs) = journal_text k x.account x.cents ++ lines_from (k + 1) xs

-- how many calls were taken
abbrev pub taken_in : List Answered → ℕ
taken_in [] = 0
taken_in (Ok a ∷ rs) = 1 + taken_in rs
taken_in (Err f ∷ rs) = taken_in rs

-- how many were refused
abbrev pub refused_in : List Answered → ℕ
refused_in [] = 0
refused_in (Ok a ∷ rs) = refused_in rs
refused_in (Err f ∷ rs) = 1 + refused_in rs

-- the last line
abbrev pub tally_of : List Answered → List ℕ
tally_of rs = tally_text (length rs) (taken_in rs) (refused_in rs)
