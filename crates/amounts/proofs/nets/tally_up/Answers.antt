use Rattle.std.proofs.Common.{subst, arith}
use Rattle.std.proofs.lemmas.Int.{ints}
use Rattle.amounts.specs.Held.{held}
use Rattle.amounts.specs.Tallies.{Tallied}
use Rattle.amounts.proofs.Tallies.{tallied_more}
use Rattle.amounts.proofs.nets.tally_up.Goals as goal

pub loop-number-preserved : goal.loop-number-preserved
loop-number-preserved c =
    let h = held c.args.at in
    let l = c.loop-number in
    let r = c.amounts-amounts in
    let t = subst (λ y. Tallied h l.number l.each y l.total) l.pool-is l.invariant in
    tallied_more h l.number l.each l.pool l.total r.result _ l.auto.number (omega (arith, c.loop-number-test.true)) t
    (λ i. record { energy = r.ensures.energy i; compensation = r.ensures.compensation i }) (r.ensures.least, r.ensures.most)
    (omega (arith, ints, c.loop-number.invariant.pooled, c.amounts-amounts.ensures.least))
