-- What a taken call posts is what the book's accounts gain by it.
use Rattle.std.proofs.Common.{◌≡◌, ℕ, zero, suc, ◌-◌, ◌<◌, ◌≤◌, true, false, cond, ltb, List, [], ◌∷◌, map, length, get_or, set, ℤ, pos, ◌+ℤ◌, ◌-ℤ◌, is_some, Some, None, Ok, Option, sym, refl, ap, ◌∙◌, ⊎_elim, arith}
use Rattle.std.specs.List.{range_with_len, AllByRecursion as All}
use Rattle.std.proofs.lemmas.List.FromFn.{get_or-map-range_with_len, length-map-range_with_len}
use Rattle.std.proofs.lemmas.List.{get_or_past}
use Rattle.std.proofs.lemmas.Int.{ints}
use Rattle.std.proofs.lemmas.Bool.{both_ways, cases_lt, cond-false, le-ltb}
use Rattle.ledger.specs.View.{View}
use Rattle.ledger.specs.Rows.{amount}
use Rattle.sheets.specs.declared.facility.Facility.{Facility}
use Rattle.sheets.specs.declared.facility.Prices.{Prices}
use Rattle.sheets.specs.declared.row.Row.{Row}
use Rattle.sheets.specs.declared.row.State.{State}
use Rattle.sheets.specs.declared.row.State.TheVariants as state
use Rattle.sheets.specs.declared.row.Event.{Event}
use Rattle.sheets.specs.declared.row.Event.TheVariants as event
use Rattle.sheets.specs.Sheets.{next, with_reading}
use Rattle.amounts.specs.Amounts.{PricedSheet, net, nets}
use Rattle.amounts.specs.Sheets.{row_nets, changed}
use Rattle.pool.specs.declared.call.Call.{Call}
use Rattle.pool.specs.declared.call.Call.TheVariants.{Register, Open, Lodge, Start, Reading, Position, Demand, Close, Settle, Adjust}
use Rattle.pool.specs.Day.{sheet, at_sheet, interval_known, checks, table, posted, adjustment, nets_on}
use Rattle.day.specs.Book.{Page, Book, no_page, page, keep, read, marked, noted, told_page, told}
use Rattle.day.specs.Law.{is_settled, priced_page, gain, gains}
use Rattle.day.proofs.Pages.{page_told, read_told}
use Rattle.day.proofs.Passed.{passed, shut_passed, interval_within, state_passed}
use Rattle.day.proofs.Standing.{Standing, Stands}

-- ---- nets by account
beyond : (h : PricedSheet) (a : ℕ) → 12 ≤ a → net h a ≡ pos 0
unfolding net
beyond h zero l = absurd (omega arith)
beyond h (suc a) l = cond-false (ltb a 11) _ (pos 0) (le-ltb a 11 (omega arith))

pub nets_at : (h : PricedSheet) (a : ℕ) → amount (nets h) a ≡ net h a
unfolding nets
nets_at h a =
    ⊎_elim
    (λ (l : a < 12). get_or-map-range_with_len (net h) 0 12 a a (pos 0) l (omega arith))
    (λ (l : 12 ≤ a). get_or_past (map (net h) (range_with_len 0 12)) a (pos 0) (omega (arith, length-map-range_with_len (net h) 0 12)) ∙ sym (beyond h a l))
    (cases_lt a 12)

pub changed_at : (h k : PricedSheet) (a : ℕ) → amount (changed (nets h) (nets k)) a ≡ net h a -ℤ net k a
changed_at h k a =
    let less : ℕ → ℤ = λ j. amount (nets h) j -ℤ amount (nets k) j in
    ⊎_elim
    (λ (l : a < 12). get_or-map-range_with_len less 0 12 a a (pos 0) l (omega arith) ∙ (λ j. nets_at h a j -ℤ nets_at k a j))
    (λ (l : 12 ≤ a). get_or_past (map less (range_with_len 0 12)) a (pos 0) (omega (arith, length-map-range_with_len less 0 12)) ∙ sym (λ j. beyond h a l j -ℤ beyond k a l j))
    (cases_lt a 12)

-- ---- one page changed
gains_set : (fs : List Facility) (a : ℕ) (ps : List Page) (k : ℕ) (p : Page) → k < length ps →
    gains fs a (set ps k p) +ℤ gain fs a (get_or ps k no_page) ≡ gains fs a ps +ℤ gain fs a p
gains_set fs a [] k p h = absurd (omega arith)
gains_set fs a (q ∷ ps) zero p h = omega (arith, ints)
gains_set fs a (q ∷ ps) (suc k) p h = let r = gains_set fs a ps k p (omega arith) in omega (arith, ints)

gains_keep : (a : ℕ) (b : Book) (i : ℕ) (p : Page) (x : ℤ) → i - 1 < length b.pages → gain b.facilities a p ≡ gain b.facilities a (page b i) +ℤ x →
    gains b.facilities a (keep b i p).pages ≡ gains b.facilities a b.pages +ℤ x
gains_keep a b i p x h e = let r = gains_set b.facilities a b.pages (i - 1) p h in omega (arith, ints)

-- ---- an event that has no place on a settled sheet
unsettled : (s : State) (e : Event) → is_some (next state.Settled e) ≡ false → is_some (next s e) ≡ true → is_settled s ≡ false
unsettled state.Open e n h = refl
unsettled state.Closed e n h = refl
unsettled state.Settled e n h = absurd (both_ways (is_some (next state.Settled e)) n h)

adjusts_settled : (s : State) → is_some (next s event.Adjust) ≡ true → is_settled s ≡ true
adjusts_settled state.Open h = h
adjusts_settled state.Closed h = h
adjusts_settled state.Settled h = refl

idle : (fs : List Facility) (a : ℕ) (p : Page) → is_settled p.state ≡ false → gain fs a p ≡ pos 0
idle fs a p e = ap (λ s. cond s (net (priced_page fs p) a) (pos 0)) e

none : (fs gs : List Facility) (a : ℕ) (p q : Page) → is_settled p.state ≡ false → is_settled q.state ≡ false → gain fs a q ≡ gain gs a p +ℤ pos 0
none fs gs a p q e f = idle fs a q f ∙ sym (ap (λ x. x +ℤ pos 0) (idle gs a p e))

-- before the day is open nothing is settled
pub blank_gains : (fs gs : List Facility) (a : ℕ) (ps : List Page) → All (Stands gs None) ps → gains fs a ps ≡ pos 0
blank_gains fs gs a [] h = refl
blank_gains fs gs a (p ∷ ps) h =
    let e : gain fs a p ≡ pos 0 = ap (gain fs a) h.0.1 in
    let r = blank_gains fs gs a ps h.1 in
    omega (arith, ints)

module _ (b : Book) (v : View) (a : ℕ) where
  -- the state that the table asks for, of the page in the book
  in_book : (e : Event) (i : ℕ) → at_sheet (told b) e i ≡ Ok tt → is_some (next (page b i).state e) ≡ true
  in_book e i h = ap (λ (r : Row). is_some (next r.state e)) (sym (page_told b i)) ∙ (state_passed b.facilities b.prices (sheet (told b) i) e i h).1

  -- a call that leaves its sheet unsettled
  keeps : (e : Event) (i : ℕ) (p : Page) → is_some (next state.Settled e) ≡ false → is_settled p.state ≡ is_settled (page b i).state →
      interval_known (map told_page b.pages) i ≡ Ok tt → at_sheet (told b) e i ≡ Ok tt →
      gains b.facilities a (keep b i p).pages ≡ gains b.facilities a b.pages +ℤ pos 0
  keeps e i p n same known h =
      let q = unsettled (page b i).state e n (in_book e i h) in
      gains_keep a b i p (pos 0) (interval_within b i known) (none b.facilities b.facilities a (page b i) p q (same ∙ q))

  settles : (i : ℕ) → interval_known (map told_page b.pages) i ≡ Ok tt → at_sheet (told b) event.Settle i ≡ Ok tt →
      gains b.facilities a (keep b i (marked (page b i) state.Settled)).pages ≡ gains b.facilities a b.pages +ℤ amount (nets_on (told b) i) a
  settles i known h =
      let fs = b.facilities in
      let q = idle fs a (page b i) (unsettled (page b i).state event.Settle refl (in_book event.Settle i h)) in
      let x : amount (nets_on (told b) i) a ≡ net (priced_page fs (page b i)) a = ap (λ r. amount (row_nets fs r) a) (page_told b i) ∙ nets_at (priced_page fs (page b i)) a in
      gains_keep a b i (marked (page b i) state.Settled) (amount (nets_on (told b) i) a) (interval_within b i known) (omega (arith, ints))

  adjusts : (f i n : ℕ) → interval_known (map told_page b.pages) i ≡ Ok tt → at_sheet (told b) event.Adjust i ≡ Ok tt →
      gains b.facilities a (keep b i (read (page b i) f n)).pages ≡ gains b.facilities a b.pages +ℤ amount (adjustment (told b) f i n) a
  adjusts f i n known h =
      let fs = b.facilities in
      let p = page b i in
      let s = adjusts_settled p.state (in_book event.Adjust i h) in
      let old : gain fs a p ≡ net (priced_page fs p) a = ap (λ t. cond t (net (priced_page fs p) a) (pos 0)) s in
      let new : gain fs a (read p f n) ≡ net (priced_page fs (read p f n)) a = ap (λ t. cond t (net (priced_page fs (read p f n)) a) (pos 0)) s in
      let x : amount (adjustment (told b) f i n) a ≡ net (priced_page fs (read p f n)) a -ℤ net (priced_page fs p) a =
      ap (λ r. amount (changed (row_nets fs (with_reading r (f - 1) n)) (row_nets fs r)) a) (page_told b i)
      ∙ ap (λ r. amount (changed (row_nets fs r) (row_nets fs (told_page p))) a) (read_told p f n)
      ∙ changed_at (priced_page fs (read p f n)) (priced_page fs p) a in
      gains_keep a b i (read p f n) (amount (adjustment (told b) f i n) a) (interval_within b i known) (omega (arith, ints))

  before_open : (fs : List Facility) → b.prices ≡ None → Standing b → gains fs a b.pages ≡ pos 0
  before_open fs e s = blank_gains fs b.facilities a b.pages (shut_pages b.prices e s.pages)
    where
      shut_pages : (o : Option Prices) → o ≡ None → All (Stands b.facilities o) b.pages → All (Stands b.facilities None) b.pages
      shut_pages None h k = k
      shut_pages (Some z) h k = absurd (let y : ◌≡◌ {A = ℕ} 0 1 = cc in omega arith)

  -- what an account gains by a taken call is what the call posts to it
  pub gains_noted : (c : Call) → Standing b → table (told b) v c ≡ Ok tt →
      gains (noted b c).facilities a (noted b c).pages ≡ gains b.facilities a b.pages +ℤ amount (posted (told b) c) a
  gains_noted (Register k x c t) s h =
      let shut = shut_passed b.prices (passed (checks (told b) v (Register k x c t)) h).0 in
      before_open (noted b (Register k x c t)).facilities shut s ∙ sym (ap (λ y. y +ℤ pos 0) (before_open b.facilities shut s))
  gains_noted (Open lo hi) s h = omega (arith, ints)
  gains_noted (Lodge f i u w ps) s h = let k = passed (checks (told b) v (Lodge f i u w ps)) h in keeps event.Lodge i _ refl refl k.1.0 k.1.1.1.0
  gains_noted (Start f i n) s h = let k = passed (checks (told b) v (Start f i n)) h in keeps event.Figure i _ refl refl k.1.0 k.1.1.1.0
  gains_noted (Reading f i n) s h = let k = passed (checks (told b) v (Reading f i n)) h in keeps event.Figure i _ refl refl k.1.0 k.1.1.1.0
  gains_noted (Position r i c l) s h = let k = passed (checks (told b) v (Position r i c l)) h in keeps event.Figure i _ refl refl k.1.0 k.1.1.1.0
  gains_noted (Demand i n) s h = let k = passed (checks (told b) v (Demand i n)) h in keeps event.Demand i _ refl refl k.1.0 k.1.1.0
  gains_noted (Close i m) s h =
      let k = passed (checks (told b) v (Close i m)) h in
      keeps event.Close i (marked (page b i) state.Closed) refl (sym (unsettled (page b i).state event.Close refl (in_book event.Close i k.1.1.0))) k.1.0 k.1.1.0
  gains_noted (Settle i) s h = let k = passed (checks (told b) v (Settle i)) h in settles i k.1.0 k.1.1.0
  gains_noted (Adjust f i n) s h = let k = passed (checks (told b) v (Adjust f i n)) h in adjusts f i n k.1.0 k.1.1.1.0
