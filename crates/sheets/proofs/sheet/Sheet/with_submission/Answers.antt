use Rattle.std.proofs.Common.{◌≡◌, ◌<◌, true, length, get_or, Some, Option, sym, ap, ◌∙◌, subst, length-set}
use Rattle.sheets.specs.declared.facility.Prices.{Prices}
use Rattle.sheets.specs.declared.row.Row.{Row}
use Rattle.sheets.specs.Held.{known}
use Rattle.sheets.specs.Sheets.{offer_as, figures_at, sheet_sound, submission_sound, with_submission, no_facility}
use Rattle.sheets.proofs.Sheets.{sheet_lodge}
use Rattle.sheets.proofs.sheet.Sheet.with_submission.Goals as goal

pub invariant_of-result : goal.invariant_of-result
invariant_of-result c =
    let s = c.args.self in
    let g = s.register.now in
    let i = c.args.at in
    let t = c.args.submission in
    let z = c.in_ok-prices.prices in
    let priced : Some z ≡ g.prices = c.in_ok-prices.ensures in
    let fs = c.facilities.ensures.value in
    let there = c.in_ok-facility.ensures.lookup.3 in
    let Sound : Row → Option Prices → Type 0 = λ r o. sheet_sound (known g) o r ≡ true in
    let within : i < length (known g) = subst (λ xs. i < length xs) fs there.0 in
    let fits : submission_sound z (get_or (known g) i no_facility) t ≡ true = ap (λ f. submission_sound z f t) (ap (λ xs. get_or xs i no_facility) (sym fs) ∙ sym (there.1 no_facility)) ∙ sym c.if-not-submission_sound.ensures in
    let before : Sound s.row (Some z) = subst (Sound s.row) (sym priced) s.sound in
    record {
      sound = subst (Sound (with_submission s.row i t)) priced (sheet_lodge (known g) z s.row i t within (sym c.if-not-comes.ensures) fits before);
      slots = length-set s.row.figures i (offer_as (figures_at s.row i) t) ∙ s.slots;
    }
