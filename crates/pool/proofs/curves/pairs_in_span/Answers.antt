use Rattle.std.proofs.Common.{◌≡◌, ◌+◌, ◌*◌, leb, get_or, drop, sym, ap, ◌∙◌, arith}
use Rattle.std.proofs.lemmas.List.{at_drop_more}
use Rattle.std.proofs.lemmas.Result.{err_from_is_err_and}
use Rattle.pool.specs.Checks.{figures}
use Rattle.sheets.specs.Tests.{within_int}
use Rattle.pool.specs.Day.{pair_figures}
use Rattle.offers.specs.Curves.{no_pair}
use Rattle.pool.proofs.Passing.{figures_two, figures_stop}
use Rattle.pool.proofs.curves.pairs_in_span.Goals as goal

pub loop-place-preserved : goal.loop-place-preserved
loop-place-preserved c =
    let z = c.args.prices in
    let ps = c.args.pairs.now in
    let i = c.loop-place.place in
    let k = 3 + 2 * i in
    let p = get_or ps i no_pair in
    let next : 3 + 2 * (i + 1) ≡ k + 2 = omega arith in
    let s = at_drop_more (λ xs. figures k (pair_figures z xs)) ps i no_pair c.loop-place-test.true in
    let t = figures_two k (within_int z.low p.price z.high) (leb p.kw 1000000) (pair_figures z (drop (i + 1) ps)) c.in_ok-pair_in_span.ensures in
    ap (λ j. figures j (pair_figures z (drop (i + 1) ps))) next ∙ sym t ∙ sym s ∙ c.loop-place.invariant

pub returns-in_err-pair_in_span : goal.returns-in_err-pair_in_span
returns-in_err-pair_in_span c =
    let z = c.args.prices in
    let ps = c.args.pairs.now in
    let i = c.loop-place.place in
    let k = 3 + 2 * i in
    let p = get_or ps i no_pair in
    let s = at_drop_more (λ xs. figures k (pair_figures z xs)) ps i no_pair c.loop-place-test.true in
    let e = err_from_is_err_and c.from_residual.result c.from_residual.ensures.1 in
    rw (e.1, e.2) (figures_stop k (within_int z.low p.price z.high) (leb p.kw 1000000) (pair_figures z (drop (i + 1) ps)) _ c.in_err-pair_in_span.ensures ∙ sym s ∙ c.loop-place.invariant)
