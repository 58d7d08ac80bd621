use Rattle.std.proofs.Common.{◌≡◌, ◌+◌}
use Rattle.submission_text.proofs.Listing.{Listed}
use Rattle.submission_text.proofs.read.read_pairs.Given as goal

abbrev pub invariant-loop-slot : goal.invariant-loop-slot
invariant-loop-slot l =
    record { read : Listed l.fn.lines.rest.now l.count l.slot-index-end l.slot-index l.room l.pairs l.lines.rest.now; at : l.lines.number ≡ 6 + l.slot-index }
