-- How answers, refusals, balances and the lines of a journal are written.
use Rattle.std.specs.Prelude.{ℕ, List, [], ◌++◌, ℤ, Some, None, Ok, Err, codes, decimal, Option, Result}
use Rattle.std.specs.Fmt.{signed_decimal}
use Rattle.ledger.specs.declared.reason.Reason.{Reason}
use Rattle.ledger.specs.Posting.{reason_number}
use Rattle.refusals.specs.declared.Refusal.{Refusal}
use Rattle.refusals.specs.Table.{refusal_number, refusal_place, refusal_reason}
use Rattle.pool.specs.declared.call.Lodged.TheVariants.{Same, New}
use Rattle.pool.specs.declared.call.Answer.{Answer}
use Rattle.pool.specs.declared.call.Answer.TheVariants.{Number, Opened, Lodging, Set, Price, Posts}

-- the balancing price and the marginal facility
abbrev pub price_words : ℤ → ℕ → List ℕ
price_words p f = codes "price=" ++ (signed_decimal p ++ (codes " facility=" ++ decimal f))

-- what a taken call answers
abbrev pub answer_words : Answer → List ℕ
answer_words (Number f) = codes "facility=" ++ decimal f
answer_words Opened = codes "opened"
answer_words (Lodging Same) = codes "same"
answer_words (Lodging New) = codes "new"
answer_words Set = codes "set"
answer_words (Price p f) = price_words p f
answer_words (Posts n) = codes "posts=" ++ decimal n

-- the ledger's reason, where it was the ledger that refused
abbrev pub reason_words : Option Reason → List ℕ
reason_words None = []
reason_words (Some r) = codes " reason=" ++ decimal (reason_number r)

abbrev pub refusal_words : Refusal → List ℕ
refusal_words f =
    (codes "refused=" ++ decimal (refusal_number f)) ++ ((codes " place=" ++ decimal (refusal_place f)) ++ reason_words (refusal_reason f))

abbrev pub result_words : Result Answer Refusal → List ℕ
result_words (Ok a) = answer_words a
result_words (Err f) = refusal_words f

-- the line that answers line n of the day file
abbrev pub answered : ℕ → Result Answer Refusal → List ℕ
answered n r = decimal n ++ (codes ": " ++ (result_words r ++ codes "\n"))

-- why a page of a statement that line n asks for is not printed
abbrev pub refused_text : ℕ → ℕ → ℕ → List ℕ
refused_text n k p = decimal n ++ (codes ": " ++ ((codes "refused=" ++ decimal k) ++ ((codes " place=" ++ decimal p) ++ codes "\n")))

-- a line of the journal
abbrev pub journal_text : ℕ → ℕ → ℤ → List ℕ
journal_text k a z = (codes "line=" ++ decimal k) ++ ((codes " account=" ++ decimal a) ++ (codes " cents=" ++ (signed_decimal z ++ codes "\n")))

-- the lines after the last call
abbrev pub balance_text : ℕ → ℤ → List ℕ
balance_text a z = (codes "account=" ++ decimal a) ++ (codes " balance=" ++ (signed_decimal z ++ codes "\n"))

abbrev pub sum_text : ℤ → List ℕ
sum_text z = codes "sum=" ++ (signed_decimal z ++ codes "\n")

-- how many calls there were, how many of them were taken, and how many refused
abbrev pub tally_text : ℕ → ℕ → ℕ → List ℕ
tally_text c t r =
    (codes "calls=" ++ decimal c) ++ ((codes " taken=" ++ decimal t) ++ ((codes " refused=" ++ decimal r) ++ codes "\n"))
