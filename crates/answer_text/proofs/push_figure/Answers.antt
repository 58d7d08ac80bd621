use Rattle.std.proofs.Common.{decimal, arith}
use Rattle.std.proofs.lemmas.List.{length-append}
use Rattle.answer_text.proofs.Joining.{two, short_natural}
use Rattle.answer_text.proofs.push_figure.Goals as goal

pub returns : goal.returns
returns c =
    let key = c.args.key.now in let n = c.args.n in
    record {
      after = two (c.args.draft.now) (c.push.new.self) (c.push_natural.new.self) key (decimal n) c.push.ensures c.push_natural.ensures;
      short = omega (arith, length-append key (decimal n), short_natural n c.ranges.n);
    }
