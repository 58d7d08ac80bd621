use Rattle.std.proofs.Common.{◌≡◌, min, length, sym, ap, ◌∙◌, rules}
use Rattle.ladder.proofs.Slots.{take_least}
use Rattle.schedule.proofs.block.Blocks.listed.Goals as goal

pub returns : goal.returns
returns c =
    let ts = c.args.self.now.taken in
    let l : length ts ≡ 8 = search rules in
    take_least c.args.self.now.count c.min-n.result ts (c.min-n.ensures ∙ ap (min c.args.self.now.count) (sym l))
