-- A blank row is a sheet.
use Rattle.std.proofs.Common.{◌≡◌, ℕ, zero, suc, ◌≤◌, true, List, [], ◌∷◌, length, replicate, pos, Some, None, refl, ap, ◌∙◌, arith}
use Rattle.offers.proofs.Tests.{and_both}
use Rattle.sheets.specs.declared.facility.Facility.{Facility}
use Rattle.sheets.specs.declared.facility.Prices.{Prices}
use Rattle.sheets.specs.declared.row.Figures.{Figures}
use Rattle.sheets.specs.declared.row.Position.{Position}
use Rattle.sheets.specs.Tests.{all2}
use Rattle.sheets.specs.Sheets.{figures_sound, no_figures, no_position, sheet_sound, spans_sound, blank_row}

-- a value whose fields are all blank is the blank one
pub figures_blank : (x : Figures) → x.submission ≡ None → x.start ≡ None → x.reading ≡ None → x ≡ no_figures
figures_blank x s t r =
    ap (λ o. record { submission = o; start = x.start; reading = x.reading }) s
    ∙ ap (λ o. record { submission = None; start = o; reading = x.reading }) t
    ∙ ap (λ o. record { submission = None; start = None; reading = o }) r

pub position_blank : (p : Position) → p.contract ≡ pos 0 → p.load ≡ 0 → p ≡ no_position
position_blank p c l = ap (λ z. record { contract = z; load = p.load }) c ∙ ap (λ n. record { contract = pos 0; load = n }) l

blank_table : (z : Prices) (fs : List Facility) (n : ℕ) → length fs ≤ n → all2 (figures_sound z) fs (replicate n no_figures) ≡ true
blank_table z [] n h = refl
blank_table z (f ∷ fs) zero h = absurd (omega arith)
blank_table z (f ∷ fs) (suc n) h = blank_table z fs n (omega arith)

pub blank_sheet : (fs : List Facility) (z : Prices) → length fs ≤ 12 → sheet_sound fs (Some z) blank_row ≡ true
blank_sheet fs z h = and_both (spans_sound fs z blank_row) true (and_both (all2 (figures_sound z) fs (replicate 12 no_figures)) true (blank_table z fs 12 h) refl) refl
