use Rattle.std.proofs.Common.{◌≡◌, take}
use Rattle.journal.specs.Lines.{room, entered}
use Rattle.journal.proofs.Entering.{Holding}
use Rattle.journal.proofs.entry.enter_all.Given as goal

abbrev pub invariant-loop-line : goal.invariant-loop-line
invariant-loop-line l =
    Holding l.initial.journal.lines.now (entered (room l.initial.journal.lines.now) (take l.line-index l.posts)) l.journal.used l.journal.lines.now
    × (l.journal.lines.ghost_name ≡ l.initial.journal.lines.ghost_name)
