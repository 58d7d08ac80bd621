-- what the output holds more is the front of the text, and the rest of it is still to be written
use Rattle.std.proofs.Common.{◌≡◌, ℕ, take, drop, length}
use Rattle.std.specs.Io.KnownBytes.{Appends}
use Rattle.streams.proofs.output.write_all.Given as goal

abbrev pub invariant-loop-rest : goal.invariant-loop-rest
invariant-loop-rest g l = (n : ℕ) × (l.rest ≡ drop n l.text)
    × Appends (g.W.Write.contents l.initial.output) (g.W.Write.contents l.output) (take n l.text)

abbrev pub decreases-loop-rest : goal.decreases-loop-rest
decreases-loop-rest g l = length l.rest
