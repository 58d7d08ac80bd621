use Rattle.std.proofs.Common.{◌+◌, drop, sym, ap, ◌∙◌}
use Rattle.std.proofs.lemmas.List.{at_drop_more}
use Rattle.std.proofs.lemmas.Result.{err_from_is_err_and}
use Rattle.sheets.specs.Sheets.{no_figures}
use Rattle.pool.specs.Checks.{◌then◌}
use Rattle.pool.specs.Day.{figures_complete}
use Rattle.settlement.proofs.settling.all_complete.Goals as goal

pub loop-place-preserved : goal.loop-place-preserved
loop-place-preserved c =
    let gs = c.args.table.now in
    let i = c.loop-place.place in
    let s = at_drop_more (figures_complete (i + 1)) gs i no_figures c.loop-place-test.true in
    ap (λ x. x then figures_complete (i + 1 + 1) (drop (i + 1) gs)) c.in_ok-is_complete.ensures ∙ sym s ∙ c.loop-place.invariant

pub returns-in_err-is_complete : goal.returns-in_err-is_complete
returns-in_err-is_complete c =
    let gs = c.args.table.now in
    let i = c.loop-place.place in
    let s = at_drop_more (figures_complete (i + 1)) gs i no_figures c.loop-place-test.true in
    let e = err_from_is_err_and c.from_residual.result c.from_residual.ensures.1 in
    rw (e.1, e.2) (ap (λ x. x then figures_complete (i + 1 + 1) (drop (i + 1) gs)) c.in_err-is_complete.ensures ∙ sym s ∙ c.loop-place.invariant)
