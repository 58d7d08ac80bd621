-- What a line of a day file says, for every string of bytes.
use Rattle.std.specs.Prelude.{ℕ, Bool, true, if◌then◌else◌, List, [], ◌∷◌, drop, Some, None, Ok, Err, Option, Result, ◌==◌}
use Rattle.offers.specs.declared.pair.Pair.{Pair}
use Rattle.text.specs.Lines.{and_then}
use Rattle.day_text.specs.declared.keyword.Keyword.{Keyword}
use Rattle.day_text.specs.declared.keyword.Keyword.TheVariants as keyword
use Rattle.day_text.specs.declared.fault.WordFault.{WordFault}
use Rattle.day_text.specs.declared.fault.Fault.{Fault}
use Rattle.day_text.specs.declared.fault.Fault.TheVariants.{UnknownWord, Words as WrongWords}
use Rattle.day_text.specs.declared.line.DayLine.{DayLine}
use Rattle.day_text.specs.declared.line.DayLine.TheVariants.{Blank, Sheets, Limit, Journal, Register, Open, Lodge, Start, Reading, Position, Demand, Close, Settle, Adjust, PrintJournal, Statement}
use Rattle.day_text.specs.declared.arguments.Target.{Target}
use Rattle.day_text.specs.Keywords.{keyword_of}
use Rattle.day_text.specs.Signs.{all_text, spaced_from}
use Rattle.day_text.specs.Words.{Words, word_list, words, next_word, first, past, ended, natural, no_number, number, no_number_of_32, integer, no_integer, cents, no_cents, pairs_from, pairs_in}

-- a line, or what is wrong with the words after its keyword
abbrev pub Said : Type 0
Said = Result DayLine WordFault

-- ---- the next word as a figure, and the words after it
abbrev pub figure : Words → Result (ℕ × Words) WordFault
figure ws = first number no_number_of_32 ws

abbrev pub figure_within : ℕ → ℕ → Words → Result (ℕ × Words) WordFault
figure_within low high ws = first (natural low high) (no_number low high) ws

-- ---- each line by the words after its keyword
abbrev pub sheets_of : Words → Said
sheets_of ws = and_then (figure_within 1 48 ws) (λ n. ended (Sheets n.0) n.1)

abbrev pub limit_of : Words → Said
limit_of ws = and_then (figure ws) (λ a. and_then (first cents no_cents a.1) (λ c. ended (Limit a.0 c.0) c.1))

-- the ledger is a journal with memory for at most a million lines
abbrev pub journal_of : Words → Said
journal_of ws = and_then (past ws) (λ vs. and_then (figure_within 0 1000000 vs) (λ n. ended (Journal n.0) n.1))

-- the journal alone can be printed
abbrev pub print_of : Words → Said
print_of ws = and_then (past ws) (λ vs. ended PrintJournal vs)

abbrev pub register_of : Words → Said
register_of ws =
    and_then (figure ws) (λ a. and_then (figure a.1) (λ x. and_then (figure x.1) (λ c. and_then (figure c.1) (λ t.
    ended (Register a.0 x.0 c.0 t.0) t.1))))

abbrev pub open_of : Words → Said
open_of ws = and_then (first integer no_integer ws) (λ l. and_then (first integer no_integer l.1) (λ h. ended (Open l.0 h.0) h.1))

-- a facility, an interval and a figure, and no other word
abbrev pub targeted : Words → Result Target WordFault
targeted ws =
    and_then (figure ws) (λ f. and_then (figure f.1) (λ i. and_then (figure i.1) (λ k.
    ended record { facility = f.0; interval = i.0; figure = k.0 } k.1)))

abbrev pub start_of : Words → Said
start_of ws = and_then (targeted ws) (λ t. Ok (Start t.facility t.interval t.figure))

abbrev pub reading_of : Words → Said
reading_of ws = and_then (targeted ws) (λ t. Ok (Reading t.facility t.interval t.figure))

abbrev pub adjust_of : Words → Said
adjust_of ws = and_then (targeted ws) (λ t. Ok (Adjust t.facility t.interval t.figure))

abbrev pub position_of : Words → Said
position_of ws =
    and_then (figure ws) (λ a. and_then (figure a.1) (λ i. and_then (first integer no_integer i.1) (λ c. and_then (figure c.1) (λ l.
    ended (Position a.0 i.0 c.0 l.0) l.1))))

abbrev pub demand_of : Words → Said
demand_of ws = and_then (figure ws) (λ i. and_then (figure i.1) (λ k. ended (Demand i.0 k.0) k.1))

-- an interval, and no other word
abbrev pub interval_of : Words → Result ℕ WordFault
interval_of ws = and_then (figure ws) (λ i. ended i.0 i.1)

abbrev pub close_of : Words → Said
close_of ws = and_then (interval_of ws) (λ i. Ok (Close i))

abbrev pub settle_of : Words → Said
settle_of ws = and_then (interval_of ws) (λ i. Ok (Settle i))

-- behind the ramps of a lodge stand pairs, any number of them, and no other word
abbrev pub lodge_of : Words → Said
lodge_of ws =
    and_then (figure ws) (λ f. and_then (figure f.1) (λ i. and_then (figure i.1) (λ u. and_then (figure u.1) (λ d.
    and_then (pairs_from d.1.passed d.1.left) (λ _. Ok (Lodge f.0 i.0 u.0 d.0))))))

-- an account and the number of a page, and no other word
abbrev pub statement_of : Words → Said
statement_of ws = and_then (figure ws) (λ a. and_then (figure a.1) (λ p. ended (Statement a.0 p.0) p.1))

-- ---- any line
abbrev pub arguments_of : Keyword → Words → Said
arguments_of keyword.Sheets ws = sheets_of ws
arguments_of keyword.Limit ws = limit_of ws
arguments_of keyword.Ledger ws = journal_of ws
arguments_of keyword.Register ws = register_of ws
arguments_of keyword.Open ws = open_of ws
arguments_of keyword.Lodge ws = lodge_of ws
arguments_of keyword.Start ws = start_of ws
arguments_of keyword.Reading ws = reading_of ws
arguments_of keyword.Position ws = position_of ws
arguments_of keyword.Demand ws = demand_of ws
arguments_of keyword.Close ws = close_of ws
arguments_of keyword.Settle ws = settle_of ws
arguments_of keyword.Adjust ws = adjust_of ws
arguments_of keyword.Print ws = print_of ws
arguments_of keyword.Statement ws = statement_of ws

abbrev pub of_words : Keyword → Said → Result DayLine Fault
of_words k (Ok l) = Ok l
of_words k (Err e) = Err (WrongWords k e)

abbrev pub keyed : Option Keyword → Words → Result DayLine Fault
keyed None ws = Err UnknownWord
keyed (Some k) ws = of_words k (arguments_of k ws)

-- a line by its words, the keyword first
abbrev pub worded : Option (List ℕ × Words) → Result DayLine Fault
worded None = Err UnknownWord
worded (Some n) = keyed (keyword_of n.0) n.1

-- an empty line, or one that begins with `#`
abbrev pub blank : List ℕ → Bool
blank [] = true
blank (c ∷ cs) = c == 35

-- the bytes of a line are told first, then its spaces, then its words
abbrev pub line_of : List ℕ → Result DayLine Fault
line_of s =
    if blank s then Ok Blank
    else and_then (all_text s) (λ _. and_then (spaced_from 0 (word_list s)) (λ _. worded (next_word (words s))))

-- the pairs of a lodge: they stand behind its ramps, that is behind five words
abbrev pub pairs_of : List ℕ → List Pair
pairs_of s = pairs_in (drop 5 (word_list s))
