use Rattle.std.proofs.Common.{◌≡◌, Bool, true, false, get_or, filter, sym, ap, ◌∙◌, subst, arith, rules}
use Rattle.std.proofs.lemmas.List.{at_drop_all}
use Rattle.schedule.specs.Blocks.{no_block}
use Rattle.schedule.specs.declared.block.Block.{Block}
use Rattle.schedule.proofs.Dividing.{Dividing, dividing_none, dividing_all, turn_takes, turn_skips, kept_few, kept_first}
use Rattle.schedule.proofs.block.divide.Goals as goal
use Rattle.schedule.proofs.block.divide.Goals.{then-counts, else-counts}

pub loop-b-init : goal.loop-b-init
loop-b-init g c = record {
  few = omega (arith, ap (λ s. s.count) c.untaken-t.ensures);
  divided = λ test answers. dividing_none c.args.amount (filter (λ b. test b.price) c.args.blocks.now) c.untaken-t.result c.untaken-t.ensures (kept_few (λ b. test b.price) c.args.blocks.now c.requires.few);
}

pub loop-b-preserved : goal.loop-b-preserved
loop-b-preserved g c =
    let bs = c.args.blocks.now in
    let i = c.loop-b.b-index in
    elim c.if-counts.branch [
      | then-counts w ↦
          let took = w.t-is ∙ w.take-t.ensures in
          record {
            few = omega (arith, c.loop-b.invariant.few, ap (λ s. s.count) took);
            divided = λ test answers.
                let kept : test (get_or bs i no_block).price ≡ true = ap test (search rules) ∙ sym (answers _ _ c.counts.ensures) ∙ w.if-counts.true in
                turn_takes _ _ _ _ _ _ _ (kept_first (λ b. test b.price) bs i no_block c.loop-b-test.true) (c.loop-b.invariant.divided test answers) kept c.if-counts.t took;
          }
      | else-counts w ↦
          record {
            few = omega (arith, c.loop-b.invariant.few, ap (λ s. s.count) w.t-is);
            divided = λ test answers.
                let left : test (get_or bs i no_block).price ≡ false = ap test (search rules) ∙ sym (answers _ _ c.counts.ensures) ∙ w.if-counts.false in
                rw w.t-is (turn_skips _ _ _ _ _ _ _ (kept_first (λ b. test b.price) bs i no_block c.loop-b-test.true) (c.loop-b.invariant.divided test answers) left);
          }
    ]

pub returns : goal.returns
returns g c = λ test answers.
    let p : Block → Bool = λ b. test b.price in
    let bs = c.args.blocks.now in
    dividing_all c.args.amount (filter p bs) c.loop-b.t
    (subst (Dividing c.args.amount (filter p bs) c.loop-b.t) (at_drop_all (filter p) bs c.loop-b.b-index c.loop-b-test.false) (c.loop-b.invariant.divided test answers))
