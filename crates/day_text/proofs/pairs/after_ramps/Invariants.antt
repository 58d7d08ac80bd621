use Rattle.std.proofs.Common.{◌≡◌, drop}
use Rattle.day_text.specs.Words.{word_list}
use Rattle.day_text.proofs.pairs.after_ramps.Given as goal

abbrev pub invariant-loop : goal.invariant-loop
invariant-loop l = l.words.left ≡ drop l.counter (word_list l.line)
