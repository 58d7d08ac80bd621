use Rattle.std.proofs.Common.{rules, w32, SFits, refl}
use Rattle.std.proofs.lemmas.Int.{to_z-of_z}
use Rattle.worked_figures.proofs.rules.AdjustingWorked.work.Goals as goal

pub returns : goal.returns
returns c =
    let f : SFits w32 c.args.self.now.price = search rules in
    let what = simp to_z-of_z at c.in_ok-what.ensures.ok in
    let computed = simp to_z-of_z at c.adjusted_at.ensures in
    rw (c.in_ok-push.ensures.items, c.new.ensures, what, c.signed-expected.ensures, c.signed-computed.ensures, computed) refl
