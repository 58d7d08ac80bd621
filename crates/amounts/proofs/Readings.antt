-- No reading moves a sheet's offers, and so none moves its price.
use Rattle.std.proofs.Common.{◌≡◌, ℕ, zero, suc, ◌+◌, List, [], ◌∷◌, ◌++◌, length, get_or, set, take, ℤ, pos, Some, None, Option, unwrap_or, sym, refl, ap, ◌∙◌, subst}
use Rattle.sheets.specs.declared.facility.Facility.{Facility}
use Rattle.sheets.specs.declared.row.Figures.{Figures}
use Rattle.sheets.specs.declared.row.Row.{Row}
use Rattle.sheets.specs.declared.register.Register.{Register}
use Rattle.sheets.specs.declared.sheet.Sheet.{Sheet}
use Rattle.sheets.specs.Held.{known}
use Rattle.sheets.specs.Shown.{row_of, register_of}
use Rattle.sheets.specs.Sheets.{no_figures, read_as, with_reading}
use Rattle.merit.specs.Rungs.{rungs_from, curve, offers_from}
use Rattle.merit.specs.Prices.{priced, priced_at}
use Rattle.amounts.specs.Amounts.{nets}
use Rattle.amounts.specs.Sheets.{figures_of, balancing_price, held_at, nets_in, changed}

offers_read : (n k : ℕ) (fs : List Facility) (gs : List Figures) (i m : ℕ) → offers_from n fs (take k (set gs i (read_as (get_or gs i no_figures) m))) ≡ offers_from n fs (take k gs)
offers_read n k [] gs i m = refl
offers_read n zero (f ∷ fs) gs i m = refl
offers_read n (suc k) (f ∷ fs) [] i m = refl
offers_read n (suc k) (f ∷ fs) (g ∷ gs) zero m = refl
offers_read n (suc k) (f ∷ fs) (g ∷ gs) (suc i) m = ap (λ os. rungs_from f n 1 (curve g.submission) ++ os) (offers_read (n + 1) k fs gs i m)

priced_read : (k : ℕ) (fs : List Facility) (gs : List Figures) (i m : ℕ) (d : Option ℕ) → priced_at fs (take k (set gs i (read_as (get_or gs i no_figures) m))) d ≡ priced_at fs (take k gs) d
priced_read k fs gs i m None = refl
priced_read k fs gs i m (Some d) = ap (λ os. priced os d) (offers_read 1 k fs gs i m)

pub price_kept : (fs : List Facility) (r : Row) (i m : ℕ) → priced_at fs (figures_of fs (with_reading r i m)) r.demand ≡ priced_at fs (figures_of fs r) r.demand
price_kept fs r i m = priced_read (length fs) fs r.figures i m r.demand

-- the price that a register and a row give
price_under : Register → Row → ℤ
price_under g r = balancing_price (known g) (figures_of (known g) r) r.demand

-- at the old sheet's price, the corrected sheet stands at its own
pub changed_at : (new old : Sheet) (i m : ℕ) (P : ℤ) → row_of new ≡ with_reading (row_of old) i m → register_of new ≡ register_of old
    → P ≡ balancing_price (known (register_of old)) (figures_of (known (register_of old)) (row_of old)) (row_of old).demand
    → changed (nets (held_at new P)) (nets (held_at old P)) ≡ changed (nets_in new) (nets_in old)
unfolding price_under
changed_at new old i m P row register was =
    let g = register_of old in
    let r = row_of old in
    let kept : P ≡ price_under g (with_reading r i m) = was ∙ sym (ap (λ (o : Option (ℤ × ℕ)). (unwrap_or o (pos 0, 0)).0) (price_kept (known g) r i m)) in
    let at_row : P ≡ price_under g (row_of new) = subst (λ t. P ≡ price_under g t) (sym row) kept in
    let is : P ≡ price_under (register_of new) (row_of new) = subst (λ h. P ≡ price_under h (row_of new)) (sym register) at_row in
    λ t. changed (nets (held_at new (is t))) (nets (held_at old (was t)))
