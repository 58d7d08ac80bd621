use Rattle.std.proofs.Common.{◌+◌, ◌≤◌, ◌<◌, ◌^◌, length, arith, rules}
use Rattle.day_file.specs.Lines.{lines}
use Rattle.day_file.proofs.Lined.{lines_few}
use Rattle.day_file.proofs.lines.Lines.of.Goals as goal

pub invariant_of-result : goal.invariant_of-result
invariant_of-result c =
    let s = c.args.file.now in
    let room : length s < 2 ^ 63 = search rules in
    let few : 0 + length (lines s) ≤ 2 ^ 63 = omega (arith, lines_few s) in
    (few, tt)
