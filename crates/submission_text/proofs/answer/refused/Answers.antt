use Rattle.std.proofs.Common.{rules}
use Rattle.submission_text.proofs.Writing.{refused_text}
use Rattle.submission_text.proofs.answer.refused.Goals as goal

pub returns : goal.returns
returns c =
    refused_text c.new-draft.result c.push_line.new.self c.push_line-2.new.self c.args.refusal c.number.result c.place.result
    c.new-draft.ensures (search rules) (search rules) c.number.ensures c.place.ensures c.push_line.ensures c.push_line-2.ensures
