use Rattle.std.proofs.Common.{◌≡◌, ◌+◌, ◌++◌, length}
use Rattle.day_file.specs.Reports.{lines_from}
use Rattle.day_file.proofs.report.push_journal.Given as goal

abbrev pub invariant-loop-number : goal.invariant-loop-number
invariant-loop-number l =
    let number = l.number-iterator.a.start in
    let left = l.number-iterator.b.rest.now in
    record {
      count : number + length left ≡ 1 + length l.lines;
      out : l.out.items ++ lines_from number left ≡ l.initial.out.items ++ lines_from 1 l.lines;
    }
