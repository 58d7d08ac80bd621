use Rattle.std.proofs.Common.{◌≡◌, ◌<◌, ◌≤◌, true, ◌&&◌, leb, length, get_or, is_some, Some, sym, ap, ◌∙◌, arith, leb-true}
use Rattle.std.proofs.lemmas.Bool.Decides.{nat_tests}
use Rattle.offers.specs.Curves.{curve, total}
use Rattle.offers.proofs.Tests.{and_second, and_both}
use Rattle.sheets.specs.declared.row.Event.TheVariants as event
use Rattle.sheets.specs.declared.register.Register.{Register}
use Rattle.sheets.specs.Spans.{facility_sound}
use Rattle.sheets.specs.Sheets.{no_facility, ramp_fits, submission_sound}
use Rattle.sheets.specs.Tests.{if_some}
use Rattle.sheets.specs.Held.{known, prices_of}
use Rattle.sheets.specs.Changes.{comes, registered, submission_fits, takes_submission}
use Rattle.sheets.proofs.Lists.{all_at}
use Rattle.pool.specs.Day.{lodge_figures}
use Rattle.pool.proofs.Passing.{unless_pass, figures_pass, becomes}
use Rattle.pool.proofs.Laying.{pairs_total, submitted_sound}
use Rattle.pool.proofs.lodging.lodge.Goals as goal

pub submission_of-requires : goal.submission_of-requires
submission_of-requires c =
    let z = c.in_ok-prices.prices in
    let ps = c.args.pairs.now in
    let few : length ps ≤ 8 = leb-true (length ps) 8 (unless_pass _ _ c.in_ok-not_too_many.ensures) in
    let h = figures_pass 1 (lodge_figures z c.args.ramp_up c.args.ramp_down ps) c.in_ok-lodge_in_span.ensures in
    let pairs = and_second (ramp_fits c.args.ramp_down) _ (and_second (ramp_fits c.args.ramp_up) _ h) in
    record { few = few; small = omega (arith, pairs_total z ps pairs) }

pub unwrap-sheet-requires : goal.unwrap-sheet-requires
unwrap-sheet-requires c =
    let g = c.args.register.now in
    let z = c.in_ok-prices.prices in
    let i = c.in_ok-place.place in
    let ps = c.args.pairs.now in
    let up = c.args.ramp_up in
    let down = c.args.ramp_down in
    let t = c.in_ok-submission.submission in
    let sheet = c.in_ok-sheet.sheet in
    let s = c.in_ok-sheet.ensures in
    let few : length ps ≤ 8 = leb-true (length ps) 8 (unless_pass _ _ c.in_ok-not_too_many.ensures) in
    let here : i < length (known g) = c.in_ok-place.ensures.1.1 in
    let f = get_or (known g) i no_facility in
    let at : get_or c.facilities.result.now i no_facility ≡ f = ap (λ xs. get_or xs i no_facility) c.facilities.ensures.value in
    let sound : facility_sound f ≡ true = all_at facility_sound (known g) i no_facility here g.spans in
    let cap : total (curve ps) ≤ f.capacity = leb-true (total (curve ps)) f.capacity (ap (λ x. leb (total (curve ps)) x.capacity) (sym at) ∙ unless_pass _ _ (sym c.in_ok-submission.ensures.0)) in
    let fits : submission_sound z f t ≡ true = ap (submission_sound z f) c.in_ok-submission.ensures.1 ∙ submitted_sound z f up down ps few c.in_ok-lodge_in_span.ensures sound cap in
    let priced : prices_of g ≡ Some z = c.in_ok-prices.ensures.1 in
    let of : submission_fits g i t ≡ true = ap (λ o. is_some o && if_some (λ y. submission_sound y f t) o) priced ∙ fits in
    let came : comes sheet.row event.Lodge ≡ true = ap (λ r. comes r event.Lodge) s.1.1.0 ∙ s.1.0 in
    let taken : takes_submission g sheet.row i t ≡ true = and_both (comes sheet.row event.Lodge) _ came (and_both (registered g i) _ (grind (arith, nat_tests)) of) in
    let same : takes_submission sheet.register.now sheet.row i t ≡ true = ap (λ (x : Register). takes_submission x sheet.row i t) s.1.1.1 ∙ taken in
    becomes _ _ _ c.with_submission.result c.with_submission.ensures same
