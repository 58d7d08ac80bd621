use Rattle.std.proofs.Common.{codes}
use Rattle.text.proofs.Drafting.{kept_more}
use Rattle.text.proofs.draft.Draft.push_key.Goals as goal

pub returns : goal.returns
returns c = kept_more _ _ _ c.args.key.now (codes "=") c.push.ensures c.push-2.ensures
