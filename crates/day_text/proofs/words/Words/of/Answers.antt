use Rattle.std.proofs.Common.{◌+◌, ◌≤◌, ◌<◌, ◌^◌, length, arith, rules}
use Rattle.day_text.specs.Words.{word_list}
use Rattle.day_text.proofs.Wording.{words_few}
use Rattle.day_text.proofs.words.Words.of.Goals as goal

pub invariant_of-result : goal.invariant_of-result
invariant_of-result c =
    let s = c.args.line.now in
    let room : length s < 2 ^ 63 = search rules in
    let few : 0 + length (word_list s) ≤ 2 ^ 63 = omega (arith, words_few s) in
    (few, tt)
