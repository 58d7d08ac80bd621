use Rattle.std.proofs.Common.{◌^◌, ◌<◌, rules}
use Rattle.submission_text.specs.Write.{head}
use Rattle.submission_text.proofs.Writing.{headed, length_head}
use Rattle.submission_text.proofs.write.push_head.Goals as goal

pub returns : goal.returns
returns c =
    let x = c.args.file.now in
    let a : x.facility < 2 ^ 32 = search rules in
    let b : x.interval < 2 ^ 32 = search rules in
    let u : x.submission.ramp_up < 2 ^ 32 = search rules in
    let d : x.submission.ramp_down < 2 ^ 32 = search rules in
    record {
      after = headed c.args.draft.now c.push_line.new.self c.push_line-2.new.self c.push_line-3.new.self c.push_line-4.new.self
          (head x) c.push_line.ensures c.push_line-2.ensures c.push_line-3.ensures c.push_line-4.ensures;
      short = length_head (head x) a b u d;
    }
