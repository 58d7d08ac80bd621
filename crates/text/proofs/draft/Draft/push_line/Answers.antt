use Rattle.std.proofs.Common.{decimal}
use Rattle.text.specs.Lines.{line_text}
use Rattle.text.proofs.Drafting.{kept_line}
use Rattle.text.proofs.draft.Draft.push_line.Goals as goal

pub returns : goal.returns
unfolding line_text
returns c = kept_line _ _ _ _ c.args.key.now (decimal c.args.n) c.push_key.ensures c.push_natural.ensures c.push.ensures
