-- what was taken of the input is the text, and what is left to take is what is wanting of the most
use Rattle.std.proofs.Common.{◌≡◌, ◌+◌, vec_len}
use Rattle.std.specs.Io.KnownBytes.{Consumes}
use Rattle.streams.proofs.input.read_front.Given as goal

abbrev pub invariant-loop-left : goal.invariant-loop-left
invariant-loop-left g l = (vec_len l.text + l.left ≡ l.most)
    × Consumes (g.R.Read.remaining l.initial.input) (g.R.Read.remaining l.input) l.text.items

abbrev pub decreases-loop-left : goal.decreases-loop-left
decreases-loop-left g l = l.left
