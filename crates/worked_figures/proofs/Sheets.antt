-- The sheet of two stations, made of its row.
use Rattle.std.proofs.Common.{◌≡◌, ℕ, Bool, true, false, ◌&&◌, List, ℤ, Some, None, Option, length, take, sym, refl, ap, ◌∙◌, nat_lt, rules}
use Rattle.sheets.specs.declared.register.Register.{Register}
use Rattle.sheets.specs.declared.row.State.{State}
use Rattle.sheets.specs.declared.sheet.Sheet.{Sheet}
use Rattle.sheets.specs.Held.{known}
use Rattle.sheets.specs.Sheets.{reaches, reading_fits, sheet_sound, with_reading}
use Rattle.sheets.specs.declared.facility.Facility.{Facility}
use Rattle.sheets.specs.declared.row.Row.{Row}
use Rattle.sheets.specs.Shown.{register_of}
use Rattle.sheets.specs.Changes.{Becomes, registered}
use Rattle.amounts.specs.Sheets.{Nets, corrigible, Corrects}
use Rattle.amounts.specs.Figures.{facilities}
use Rattle.worked_figures.specs.Nets.{prices, row, closed, Stands, nets_at, change_of}

reached : (state : State) (reading : ℕ) → reaches (take (length facilities) (row state reading).figures) (row state reading).demand ≡ true
unfolding row
reached state reading = refl

pub stands : (g : Register) (reading : ℕ) (o : Option Sheet) → known g ≡ facilities → g.prices ≡ Some prices
    → Becomes (sheet_sound (known g) g.prices (closed reading)) g (closed reading) o → Stands reading o
stands g reading None k p b = rw (k, p) at b
stands g reading (Some s) k p b =
    let sound = rw (k, p) at b.0 in
    let known_here = ap known b.1.1 ∙ k in
    (sound, (known_here, (b.1.0, rw (b.1.0, known_here) (reached _ reading))))

-- a sheet that stands has a price
no_price : {b : Bool} → b ≡ true → b ≡ false → ⊥
no_price t f = search rules

pub found : (reading : ℕ) (s : Sheet) (o : Option (List ℤ)) → Stands reading (Some s) → Nets s o → o ≡ nets_at reading
found reading s None h n = absurd (no_price h.1.1.1 n)
found reading s (Some ns) h n = rw (h.0, n.1.0, h.1.1.0, h.1.0) refl

-- whether the sheet takes another reading of the first station
takes : (from to : ℕ) (s : Sheet) → Stands from (Some s) → corrigible s 0 to ≡ reading_fits to
takes from to s h =
    let price = h.1.1.1 in
    let here = h.1.0 in
    ap (λ b. (registered (register_of s) 0 && reading_fits to) && b) price
    ∙ ap (λ (fs : List Facility). (nat_lt 0 (length fs) && reading_fits to) && true) here
    ∙ elim (reading_fits to) as (λ b. (b && true) ≡ b) [ true ↦ refl | false ↦ refl ]

read_is : (from to : ℕ) → with_reading (closed from) 0 to ≡ closed to
unfolding row
read_is from to = refl

pub differs : (from to : ℕ) (s t : Sheet) (xs : List ℤ) → Stands from (Some s) → Corrects s 0 to (Some (t, xs)) → Some xs ≡ change_of from to
differs from to s t xs h n =
    let fits = sym (takes from to s h) ∙ n.0 in
    let r : t.row ≡ closed to = n.1.0 ∙ ap (λ (q : Row). with_reading q 0 to) h.1.1.0 ∙ read_is from to in
    let k : known t.register.now ≡ facilities = ap known n.1.1.0 ∙ h.1.0 in
    rw (h.0, fits, n.1.1.1, h.1.1.0, r, h.1.0, k) refl
