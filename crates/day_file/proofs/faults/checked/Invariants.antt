use Rattle.std.proofs.Common.{◌≡◌, ◌+◌, ◌++◌, length}
use Rattle.day_file.specs.Faults.{terms_after, faults_from, terms_of, faults_text}
use Rattle.day_file.proofs.faults.checked.Given as goal

-- the lines so far are read, and the others go on from the terms
abbrev pub invariant-loop-number : goal.invariant-loop-number
invariant-loop-number l =
    (terms_after l.terms l.lines.left ≡ terms_of l.file)
    × (l.faults.items ++ faults_from l.terms (l.lines.passed + 1) l.lines.left ≡ faults_text l.file)

abbrev pub decreases-loop-number : goal.decreases-loop-number
decreases-loop-number l = length l.lines.left
