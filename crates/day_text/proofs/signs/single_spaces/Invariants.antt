use Rattle.std.proofs.Common.{◌≡◌, length}
use Rattle.day_text.specs.Signs.{spaced_from}
use Rattle.day_text.specs.Words.{word_list}
use Rattle.day_text.proofs.signs.single_spaces.Given as goal

-- the words so far are not empty
abbrev pub invariant-loop-word : goal.invariant-loop-word
invariant-loop-word l = spaced_from l.words.passed l.words.left ≡ spaced_from 0 (word_list l.line)

abbrev pub decreases-loop-word : goal.decreases-loop-word
decreases-loop-word l = length l.words.left
