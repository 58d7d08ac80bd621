use Rattle.std.proofs.Common.{◌≡◌, Bool, [], reverse, filter, refl, ap, ◌∙◌, rules}
use lib.Signed.{lt_z}
use Rattle.schedule.specs.Blocks.{divided, stored, blocks_from}
use Rattle.schedule.specs.Stations.{energy_out, energy_of, blocks_for}
use Rattle.schedule.specs.Held.{operation}
use Rattle.schedule.specs.declared.block.Block.{Block}
use Rattle.schedule.proofs.Dividing.{filter-reverse}
use Rattle.schedule.proofs.station.Station.blocks.Goals as goal

pub returns-in-Upward : goal.returns-in-Upward
returns-in-Upward c =
    let o = operation c.args.self.now in
    let P = c.args.price.cents in
    let p : Block → Bool = λ b. lt_z P b.price in
    c.divide.ensures (λ a. lt_z P a) (λ a b q. search rules) ∙ ap (λ bs. divided c.in-Upward.x (filter p bs)) c.lay-n.ensures.front
    ∙ ap (λ m. divided (energy_out m) (blocks_for o P m)) c.in-Upward.ensures

pub returns-in-Downward : goal.returns-in-Downward
returns-in-Downward c =
    let o = operation c.args.self.now in
    let P = c.args.price.cents in
    let p : Block → Bool = λ b. lt_z b.price P in
    c.divide-in-Downward.ensures (λ a. lt_z a P) (λ a b q. search rules) ∙ ap (λ bs. divided c.in-Downward.x (filter p bs)) (c.reverse.ensures.after ∙ ap reverse c.lay-n-in-Downward.ensures.front)
    ∙ ap (λ bs. divided c.in-Downward.x bs) (filter-reverse p (blocks_from (energy_of o) o.factor 0 o.curve)) ∙ ap (λ m. divided (energy_out m) (blocks_for o P m)) c.in-Downward.ensures

pub returns-in-Neither : goal.returns-in-Neither
unfolding divided
returns-in-Neither c =
    let none : stored [] 0 ≡ divided 0 [] = refl in
    c.untaken.ensures ∙ none ∙ ap (λ m. divided (energy_out m) (blocks_for (operation c.args.self.now) c.args.price.cents m)) c.in-Neither.ensures
