use Rattle.std.proofs.Common.{◌≡◌, ◌<◌, true, [], ◌∷◌, length, is_some, refl, ap, ◌∙◌, rules}
use Rattle.std.proofs.lemmas.Bool.{lt-ltb}
use Rattle.offers.proofs.Tests.{and_both, and_first}
use Rattle.sheets.specs.declared.register.Register.{Register}
use Rattle.sheets.specs.declared.row.Row.{Row}
use Rattle.sheets.specs.declared.row.Event.TheVariants as event
use Rattle.sheets.specs.Held.{known}
use Rattle.sheets.specs.Sheets.{next, reading_fits}
use Rattle.sheets.specs.Shown.{register_of}
use Rattle.sheets.specs.Changes.{registered, takes_reading}
use Rattle.amounts.specs.Sheets.{has_price}
use Rattle.pool.specs.Day.{adjustment}
use Rattle.pool.specs.Held.{held}
use Rattle.pool.proofs.Passing.{figures_pass}
use Rattle.settlement.proofs.Prices.{adjusts_priced, adjustment_is, corrects}
use Rattle.settlement.proofs.adjusting.adjust.Goals as goal

pub unwrap-requires : goal.unwrap-requires
unwrap-requires g c =
    let sheet = c.in_ok-sheet.sheet in
    let s = c.in_ok-sheet.ensures in
    let i = c.in_ok-place.place in
    let n = c.args.kwmin in
    let came : is_some (next sheet.row.state event.Adjust) ≡ true = ap (λ (r : Row). is_some (next r.state event.Adjust)) s.1.1.0 ∙ s.1.0 in
    let here : i < length (known c.args.register.now) = c.in_ok-place.ensures.1.1 in
    let known_here : registered (register_of sheet) i ≡ true = ap (λ (r : Register). registered r i) s.1.1.1 ∙ lt-ltb i (length (known c.args.register.now)) here in
    let fits : reading_fits n ≡ true = and_first (reading_fits n) true (figures_pass 1 (reading_fits n ∷ []) c.in_ok-reading_in_span.ensures) in
    corrects sheet i n c.correction.result c.correction.ensures
    (and_both (takes_reading (register_of sheet) i n) (has_price sheet) (and_both (registered (register_of sheet) i) (reading_fits n) known_here fits) (adjusts_priced sheet came))

pub returns-in_err-posts : goal.returns-in_err-posts
returns-in_err-posts g c =
    let s = c.in_ok-sheet.ensures in
    let t = rw c.unwrap.ensures at c.correction.ensures in
    let e : c.unwrap.result.1 ≡ adjustment (held c.args.register.now c.args.rows.now) c.args.facility c.args.interval c.args.kwmin =
    t.1.1.1
    ∙ adjustment_is c.args.register.now c.args.rows.now c.args.facility c.args.interval c.args.kwmin c.in_ok-at.at c.in_ok-place.place _ _ _ _
    c.in_ok-at.ensures.1.0 c.in_ok-place.ensures.1.0 s.1.1.1 s.1.1.0 t.1.1.0 t.1.0 in
    let k = rw e at c.in_err-posts.ensures in
    search rules

pub returns : goal.returns
returns g c =
    let s = c.in_ok-sheet.ensures in
    let t = rw c.unwrap.ensures at c.correction.ensures in
    let e : c.unwrap.result.1 ≡ adjustment (held c.args.register.now c.args.rows.now) c.args.facility c.args.interval c.args.kwmin =
    t.1.1.1
    ∙ adjustment_is c.args.register.now c.args.rows.now c.args.facility c.args.interval c.args.kwmin c.in_ok-at.at c.in_ok-place.place _ _ _ _
    c.in_ok-at.ensures.1.0 c.in_ok-place.ensures.1.0 s.1.1.1 s.1.1.0 t.1.1.0 t.1.0 in
    let k = rw e at c.in_ok-posts.ensures in
    search rules

pub returns-in_err-sheet : goal.returns-in_err-sheet
returns-in_err-sheet g c = let n = g.L.Ledger.none c.args.ledger.now in record { does = search rules; took = search rules; kept = λ e. refl }

pub returns-in_err-reading_in_span : goal.returns-in_err-reading_in_span
returns-in_err-reading_in_span g c = let n = g.L.Ledger.none c.args.ledger.now in record { does = search rules; took = search rules; kept = λ e. refl }
