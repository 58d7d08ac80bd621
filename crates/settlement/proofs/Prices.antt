-- What an adjustment finds: a sheet past close with its price, and the change of its nets.
use Rattle.std.proofs.Common.{◌≡◌, ℕ, ◌-◌, true, List, ℤ, Some, None, Option, get_or, is_some, sym, refl, ap, ◌∙◌, true≢false, arith}
use Rattle.sheets.specs.declared.register.Register.{Register}
use Rattle.sheets.specs.declared.row.Row.{Row}
use Rattle.sheets.specs.declared.row.State.{State}
use Rattle.sheets.specs.declared.row.State.TheVariants.{Open, Closed, Settled}
use Rattle.sheets.specs.declared.row.Event.TheVariants as event
use Rattle.sheets.specs.declared.sheet.Sheet.{Sheet}
use Rattle.sheets.specs.Held.{known}
use Rattle.sheets.specs.Sheets.{next, with_reading}
use Rattle.merit.proofs.Sound.{past_close}
use Rattle.amounts.specs.Sheets.{has_price, row_nets, changed, corrigible, Corrects}
use Rattle.pool.specs.Day.{no_row, adjustment}
use Rattle.pool.specs.Held.{held}

adjusts_past : (s : State) → is_some (next s event.Adjust) ≡ true → s ≡ Open → ⊥
adjusts_past Open h e = let z : ◌≡◌ {A = ℕ} 0 1 = cc in omega arith
adjusts_past Closed h e = let z : ◌≡◌ {A = ℕ} 0 1 = cc in omega arith
adjusts_past Settled h e = let z : ◌≡◌ {A = ℕ} 0 1 = cc in omega arith

-- a sheet that may be adjusted has a price
pub adjusts_priced : (s : Sheet) → is_some (next s.row.state event.Adjust) ≡ true → has_price s ≡ true
adjusts_priced s h = past_close (known s.register.now) s.register.now.prices s.row (adjusts_past s.row.state h) s.sound

-- a correction is answered where the sheet takes the reading and has a price
pub corrects : (s : Sheet) (i n : ℕ) (o : Option (Sheet × List ℤ)) → Corrects s i n o → corrigible s i n ≡ true → is_some o ≡ true
corrects s i n None h t = absurd (true≢false (sym t ∙ h))
corrects s i n (Some x) h t = refl

pub adjustment_is : (g : Register) (rows : List Row) (f i n at place : ℕ) (h k : Register) (r s : Row) → at ≡ i - 1 → place ≡ f - 1 → h ≡ g → r ≡ get_or rows at no_row → k ≡ h → s ≡ with_reading r place n →
    changed (row_nets (known k) s) (row_nets (known h) r) ≡ adjustment (held g rows) f i n
adjustment_is g rows f i n at place h k r s ea ep eh er ek es =
    let pr : r ≡ get_or rows (i - 1) no_row = er ∙ ap (λ j. get_or rows j no_row) ea in
    let ps : s ≡ with_reading (get_or rows (i - 1) no_row) (f - 1) n = es ∙ (λ t. with_reading (pr t) (ep t) n) in
    let pk : k ≡ g = ek ∙ eh in
    λ t. changed (row_nets (known (pk t)) (ps t)) (row_nets (known (eh t)) (pr t))
