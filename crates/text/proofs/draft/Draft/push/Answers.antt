use Rattle.std.proofs.Common.{◌≡◌, ◌++◌, take, ap, ◌∙◌, rules}
use Rattle.text.specs.Drafts.{kept}
use Rattle.text.proofs.Drafting.{filled}
use Rattle.text.proofs.draft.Draft.push.Goals as goal

pub returns : goal.returns
returns c =
    let told : c.try_extend_from_slice.new.self.items ≡ c.self.inside.text.items ++ take c.min-n.result c.args.piece.now = search rules in
    told
    ∙ filled c.self.inside.text.items c.args.piece.now c.min-n.result c.remaining_capacity.result c.remaining_capacity.ensures c.min-n.ensures
    ∙ ap (λ text. kept (text ++ c.args.piece.now)) c.self.view_is
