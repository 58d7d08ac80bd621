-- What a journal shows of itself.
use Rattle.std.specs.Prelude.{ℕ, List, ℤ, take}
use Rattle.std.specs.Borrow.{GName}
use Rattle.journal.specs.declared.journal.Journal.{Journal}
use Rattle.journal.specs.declared.line.Line.{Line}

-- the memory that it was lent
abbrev pub memory_of : Journal → List Line
memory_of j = j.lines.now

-- by which name its lender knows that memory again
abbrev pub lender_of : Journal → GName
lender_of j = j.lines.ghost_name

-- how many of its lines are written
abbrev pub used_of : Journal → ℕ
used_of j = j.used

-- the lines written, oldest first
abbrev pub posted_of : Journal → List Line
posted_of j = take j.used j.lines.now

-- the balances that it keeps beside them
abbrev pub running_of : Journal → List ℤ
running_of j = j.balances
