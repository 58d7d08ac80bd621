use Rattle.std.proofs.Common.{◌≡◌, ◌++◌, length}
use Rattle.day_text.specs.Words.{pairs_in}
use Rattle.day_text.specs.Lines.{pairs_of}
use Rattle.day_text.proofs.pairs.pairs_of.Given as goal

-- the pairs so far, and those among the words that are left
abbrev pub invariant-loop-word : goal.invariant-loop-word
invariant-loop-word l = l.pairs.items ++ pairs_in l.words.left ≡ pairs_of l.line

abbrev pub decreases-loop-word : goal.decreases-loop-word
decreases-loop-word l = length l.words.left
