-- The pages of statements that lines of a day file ask for.
use Rattle.std.specs.Prelude.{ℕ, ◌+◌, List, [], ◌∷◌, ◌++◌, Ok, Err, Result}
use Rattle.journal.specs.declared.line.Line.{Line}
use Rattle.statement.specs.declared.refusal.WriteRefusal.{WriteRefusal}
use Rattle.statement.specs.Refusals.{write_number, write_place}
use Rattle.statement.specs.Write.{draft_of}
use Rattle.day_text.specs.declared.fault.Fault.{Fault}
use Rattle.day_text.specs.declared.line.DayLine.{DayLine}
use Rattle.day_text.specs.declared.line.DayLine.TheVariants.{Statement}
use Rattle.day_text.specs.Lines.{line_of}
use Rattle.answer_text.specs.Answers.{refused_text}

-- a page, or why there is none, on the line that asks for it
abbrev pub page_told : ℕ → Result (List ℕ) WriteRefusal → List ℕ
page_told n (Ok text) = text
page_told n (Err e) = refused_text n (write_number e) (write_place e)

-- what is told on line n of a journal with these lines; nothing where it asks for no page
abbrev pub statement_on : ℕ → Result DayLine Fault → List Line → List ℕ
statement_on n (Ok (Statement a p)) ls = page_told n (draft_of ls a p)
statement_on n line ls = []

-- what is told on lines from number n on, in their order
abbrev pub statements_from : ℕ → List (List ℕ) → List Line → List ℕ
statements_from n [] ls = []
statements_from n (s ∷ ss) ls = statement_on n (line_of s) ls ++ statements_from (n + 1) ss ls
