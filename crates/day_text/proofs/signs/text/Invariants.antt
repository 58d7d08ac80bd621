use Rattle.std.proofs.Common.{◌≡◌, ◌+◌, drop}
use Rattle.day_text.specs.Signs.{text_from}
use Rattle.day_text.proofs.signs.text.Given as goal

-- the bytes so far are text
abbrev pub invariant-loop-before : goal.invariant-loop-before
invariant-loop-before l = text_from (l.before + 1) (drop l.before l.line) ≡ text_from 1 l.line
