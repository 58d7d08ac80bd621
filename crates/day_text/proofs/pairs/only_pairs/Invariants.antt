use Rattle.std.proofs.Common.{◌≡◌, length}
use Rattle.day_text.specs.Words.{pairs_from}
use Rattle.day_text.proofs.pairs.only_pairs.Given as goal

-- the words so far are pairs
abbrev pub invariant-loop-word : goal.invariant-loop-word
invariant-loop-word l = pairs_from l.words.passed l.words.left ≡ pairs_from l.initial.words.passed l.initial.words.left

abbrev pub decreases-loop-word : goal.decreases-loop-word
decreases-loop-word l = length l.words.left
