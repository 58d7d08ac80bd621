use Rattle.std.proofs.Common.{◌^◌, ◌<◌, w32, SFits, rules}
use Rattle.submission_text.proofs.Writing.{paired, length_pair}
use Rattle.submission_text.proofs.write.push_pair.Goals as goal

pub returns : goal.returns
returns c =
    let p = c.args.p in
    let f : SFits w32 p.price = search rules in
    let k : p.kw < 2 ^ 32 = search rules in
    record {
      after = paired c.args.draft.now c.push.new.self c.push_signed.new.self c.push-2.new.self c.push_natural.new.self c.push-3.new.self
          p c.from.result f c.from.ensures c.push.ensures c.push_signed.ensures c.push-2.ensures c.push_natural.ensures c.push-3.ensures;
      short = length_pair p f k;
    }
