use Rattle.std.proofs.Common.{◌≡◌, true, sym, refl, ap, ◌∙◌, rules}
use Rattle.offers.specs.Tests.{all}
use Rattle.offers.proofs.Tests.{and_both}
use Rattle.sheets.specs.declared.row.Event.TheVariants as event
use Rattle.sheets.specs.Sheets.{complete, has_load}
use Rattle.sheets.specs.Changes.{comes, table}
use Rattle.pool.proofs.Passing.{unless_pass, complete_pass, becomes}
use Rattle.settlement.proofs.settling.settle.Goals as goal

pub unwrap-settled-requires : goal.unwrap-settled-requires
unwrap-settled-requires g c =
    let s = c.in_ok-sheet.sheet in
    let e = c.in_ok-sheet.ensures in
    let came : comes s.row event.Settle ≡ true = ap (λ r. comes r event.Settle) e.1.1.0 ∙ e.1.0 in
    let whole : all complete (table s.register.now s.row) ≡ true = ap (all complete) (sym c.figures.ensures.value) ∙ complete_pass 1 c.figures.result.now c.in_ok-all_complete.ensures in
    let load : has_load s.row.positions ≡ true = unless_pass _ _ c.in_ok-has_load.ensures in
    becomes _ _ _ c.settled.result c.settled.ensures (and_both (comes s.row event.Settle) _ came (and_both (all complete (table s.register.now s.row)) _ whole load))

pub returns-in_err-sheet : goal.returns-in_err-sheet
returns-in_err-sheet g c = let n = g.L.Ledger.none c.args.ledger.now in record { does = search rules; took = search rules; kept = λ e. refl }
