-- The calls that the lines of a day file make, and on which lines they stand.
use Rattle.std.specs.Prelude.{ℕ, ◌+◌, List, [], ◌∷◌, ◌++◌, map, if◌then◌else◌, Some, None, Ok, Err, Option, Result, ◌==◌}
use Rattle.offers.specs.declared.pair.Pair.{Pair}
use Rattle.day_text.specs.declared.fault.Fault.{Fault}
use Rattle.day_text.specs.declared.line.DayLine.{DayLine}
use Rattle.day_text.specs.declared.line.DayLine.TheVariants.{Blank, Sheets, Limit, Journal, Register, Open, Lodge, Start, Reading, Position, Demand, Close, Settle, Adjust, PrintJournal, Statement}
use Rattle.day_text.specs.Lines.{line_of, pairs_of}
use Rattle.pool.specs.declared.call.Call.{Call}
use Rattle.pool.specs.declared.call.Call.TheVariants as calls

-- the line of a call, and its pairs; a close has all 96 working rungs, else no line says it
abbrev pub said : Call → DayLine × List Pair
said (calls.Register a x c t) = (Register a x c t, [])
said (calls.Open l h) = (Open l h, [])
said (calls.Lodge f i u w ps) = (Lodge f i u w, ps.now)
said (calls.Start f i k) = (Start f i k, [])
said (calls.Reading f i k) = (Reading f i k, [])
said (calls.Position a i c l) = (Position a i c l, [])
said (calls.Demand i k) = (Demand i k, [])
said (calls.Close i r) = (if r == 96 then Close i else Blank, [])
said (calls.Settle i) = (Settle i, [])
said (calls.Adjust f i k) = (Adjust f i k, [])

-- a line that is a call, a lodge with its pairs
abbrev pub calling : DayLine → List Pair → Option (DayLine × List Pair)
calling Blank ps = None
calling (Sheets n) ps = None
calling (Limit a c) ps = None
calling (Journal n) ps = None
calling (Register a x c t) ps = Some (Register a x c t, [])
calling (Open l h) ps = Some (Open l h, [])
calling (Lodge f i u w) ps = Some (Lodge f i u w, ps)
calling (Start f i k) ps = Some (Start f i k, [])
calling (Reading f i k) ps = Some (Reading f i k, [])
calling (Position a i c l) ps = Some (Position a i c l, [])
calling (Demand i k) ps = Some (Demand i k, [])
calling (Close i) ps = Some (Close i, [])
calling (Settle i) ps = Some (Settle i, [])
calling (Adjust f i k) ps = Some (Adjust f i k, [])
calling PrintJournal ps = None
calling (Statement a n) ps = None

abbrev pub listed : {X : Type 0} → Option X → List X
listed None = []
listed (Some x) = x ∷ []

abbrev pub brought : Result DayLine Fault → List Pair → List (DayLine × List Pair)
brought (Ok l) ps = listed (calling l ps)
brought (Err f) ps = []

-- the call of a line, or none
abbrev pub call_on : List ℕ → List (DayLine × List Pair)
call_on s = brought (line_of s) (pairs_of s)

-- the calls of lines, in their order
abbrev pub calls_on : List (List ℕ) → List (DayLine × List Pair)
calls_on [] = []
calls_on (s ∷ ss) = call_on s ++ calls_on ss

-- the numbers of those lines that are calls, from number n on
abbrev pub numbers_on : ℕ → List (List ℕ) → List ℕ
numbers_on n [] = []
numbers_on n (s ∷ ss) = map (λ _. n) (call_on s) ++ numbers_on (n + 1) ss
