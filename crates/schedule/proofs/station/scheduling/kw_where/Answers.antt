use Rattle.std.proofs.Common.{◌≡◌, ◌+◌, ◌≤◌, sum_by, subst, sym, refl, arith, rules}
use borrow.Author.Tests.{tests}
use Rattle.std.proofs.lemmas.Fn.{fold_over, slice_gives, fronts}
use Rattle.std.proofs.lemmas.Iterator.{YieldsList-from_slice}
use Rattle.std.proofs.lemmas.Iterator.Adapters.{serves_from_total}
use Rattle.offers.specs.Curves.{total}
use Rattle.offers.proofs.Sums.{summed_is}
use Rattle.schedule.specs.Blocks.{kw_where}
use Rattle.schedule.proofs.Kilowatts.{kw_push}
use Rattle.schedule.proofs.station.scheduling.kw_where.Goals as goal

pub fold-requires-clause-callable : goal.fold-requires-clause-callable
fold-requires-clause-callable g c = serves_from_total (YieldsList-from_slice c.args.curve.now cc) (λ p. p.kw) (λ n x q k. search (rules, tests)) (λ n x le.
    let same : sum_by (λ p. p.kw) c.args.curve.now ≡ total c.args.curve.now = sym (summed_is (λ p. p.kw) c.args.curve.now) in
    let few : n + x.now.kw ≤ 1000000 = omega (arith, le, same, c.requires.few) in
    search (rules, tests, few, c.requires.callable))

pub returns : goal.returns
returns g c = λ test answers. subst (λ ps. c.fold.result ≡ kw_where test c.args.factor.value ps) c.iter.ensures.rest
    (fold_over fronts (λ y. y.now) _ (λ ps kw. kw ≡ kw_where test c.args.factor.value ps) _
    (λ ps a x b f' j k. let more = kw_push test c.args.factor.value ps x.now in search (rules, tests, answers))
    _ _ _ _ (slice_gives c.iter.result) refl c.fold.ensures.ran)
