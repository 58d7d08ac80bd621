-- What a settled sheet of a standing book has, and that what is posted sums to zero.
use Rattle.std.proofs.Common.{◌≡◌, ℕ, ◌-◌, ◌<◌, true, ◌&&◌, leb, List, length, get_or, ℤ, pos, ◌+ℤ◌, ◌-ℤ◌, is_some, Some, None, Ok, Option, sym, refl, ap, ◌∙◌, arith}
use Rattle.std.proofs.lemmas.List.FromFn.{length-map-range_with_len, get_or-map-range_with_len}
use Rattle.std.proofs.ByRecursion.{All-weaker}
use Rattle.std.proofs.lemmas.List.{length-take-le}
use Rattle.std.proofs.lemmas.Int.{ints}
use Rattle.std.proofs.lemmas.Bool.{leb-true}
use Rattle.std.specs.Option.{option_map}
use Rattle.std.specs.List.{AllByRecursion as All}
use Rattle.ledger.specs.View.{View}
use Rattle.ledger.specs.Rows.{amount}
use Rattle.ledger.specs.Sums.{row_sum, sum_below}
use Rattle.ledger.proofs.Totals.{sum_add, row_sum_amounts}
use Rattle.refusals.specs.declared.Refusal.TheVariants as refusal
use Rattle.offers.specs.declared.submission.Submission.{Submission}
use Rattle.offers.specs.Curves.{curve_in_form, in_form, listed}
use Rattle.offers.specs.Tests.{all}
use Rattle.offers.proofs.Tests.{and_first, and_second}
use Rattle.schedule.proofs.Nearest.{least_compensation}
use Rattle.sheets.specs.declared.facility.Facility.{Facility}
use Rattle.sheets.specs.declared.facility.Prices.{Prices}
use Rattle.sheets.specs.declared.row.Figures.{Figures}
use Rattle.sheets.specs.declared.row.Row.{Row}
use Rattle.sheets.specs.declared.row.State.{State}
use Rattle.sheets.specs.declared.row.State.TheVariants as state
use Rattle.sheets.specs.declared.row.Event.TheVariants as event
use Rattle.sheets.specs.Tests.{if_some, all2}
use Rattle.sheets.specs.Spans.{account_fits, factor_fits, facility_sound}
use Rattle.sheets.specs.Sheets.{sheet_sound, spans_sound, stage, figures_sound, submission_sound, ramp_fits, demand_fits, position_fits, complete, reaches, has_load, next, no_facility, no_figures, with_reading}
use Rattle.sheets.proofs.Lists.{all_at, all2_at}
use Rattle.merit.specs.Prices.{priced_at}
use Rattle.merit.proofs.Sound.{priced_reaches, table_long}
use Rattle.amounts.specs.Amounts.{PricedSheet, net, nets}
use Rattle.amounts.specs.Claims.{NetsBalance}
use Rattle.amounts.specs.Sheets.{figures_of, priced_sheet, changed}
use Rattle.amounts.specs.Sums.{operation_of}
use Rattle.pool.specs.declared.call.Call.{Call}
use Rattle.pool.specs.declared.call.Call.TheVariants.{Register, Open, Lodge, Start, Reading, Position, Demand, Close, Settle, Adjust}
use Rattle.pool.specs.Day.{table, checks, sheet, posted}
use Rattle.day.specs.Book.{Page, Book, absent, told_offer, told_entry, told_page, told}
use Rattle.day.specs.Law.{Whole, Least, priced_page}
use Rattle.day.proofs.Pages.{figures_told}
use Rattle.day.proofs.Passed.{passed, test_passed, state_passed}
use Rattle.day.proofs.Standing.{Stated, Stands, Standing, eleven}

-- ---- a sheet with a state
record Settled (fs : List Facility) (r : Row) : Type 0 where
  price : is_some (priced_at fs (figures_of fs r) r.demand) ≡ true
  figures : all complete (figures_of fs r) ≡ true
  load : has_load r.positions ≡ true
  forms : (k : ℕ) (t : Submission) → k < length fs → (get_or r.figures k no_figures).submission ≡ Some t → in_form (listed t.curve) ≡ true

submitted_form : (z : Prices) (f : Facility) (t : Submission) → submission_sound z f t ≡ true → in_form (listed t.curve) ≡ true
submitted_form z f t h =
    and_second (leb t.curve.count 8) (in_form (listed t.curve))
    (and_first (curve_in_form t.curve) _ (and_second (ramp_fits t.ramp_down) _ (and_second (ramp_fits t.ramp_up) _ h)))

settled_sheet : (fs : List Facility) (o : Option Prices) (r : Row) → sheet_sound fs o r ≡ true → r.state ≡ state.Settled → Settled fs r
settled_sheet fs None r h e = absurd (let y : ◌≡◌ {A = ℕ} 0 1 = cc in omega arith)
settled_sheet fs (Some z) r h e =
    let spans = and_first (spans_sound fs z r) _ h in
    let rows = and_first (all2 (figures_sound z) fs r.figures) _ spans in
    let demand = and_first (if_some demand_fits r.demand) (all position_fits r.positions) (and_second (all2 (figures_sound z) fs r.figures) _ spans) in
    let gs = figures_of fs r in
    let c = reaches gs r.demand in
    let q = all complete gs && has_load r.positions in
    let asked : (c && q) ≡ true = ap (λ s. stage s c q) (sym e) ∙ and_second (spans_sound fs z r) _ h in
    let held = and_second c q asked in
    record {
      price = priced_reaches fs gs r.demand (sym (length-take-le (length fs) r.figures (table_long z fs r.figures rows))) demand ∙ and_first c q asked;
      figures = and_first (all complete gs) _ held;
      load = and_second (all complete gs) _ held;
      forms = λ k t at is.
          let f = get_or fs k no_facility in
          let x = get_or r.figures k no_figures in
          submitted_form z f t (ap (if_some (submission_sound z f)) (sym is) ∙ and_first (if_some (submission_sound z f) x.submission) _ (all2_at (figures_sound z) fs r.figures k no_facility no_figures at rows));
    }

-- only a sheet with a state is settled
settled_page : (fs : List Facility) (o : Option Prices) (p : Page) → Stated fs o p → p.state ≡ state.Settled → Settled fs (told_page p)
settled_page fs None p h e = absurd (let k : state.Open ≡ state.Settled = sym (ap (λ (q : Page). q.state) h) ∙ e in let y : ◌≡◌ {A = ℕ} 0 1 = cc in omega arith)
settled_page fs (Some z) p h e = settled_sheet fs (Some z) (told_page p) h e

pub standing_whole : (b : Book) → Standing b → All (Whole b.facilities) b.pages
standing_whole b s =
    All-weaker (Stands b.facilities b.prices) (Whole b.facilities)
    (λ p h e. let w = settled_page b.facilities b.prices p h.1 e in (w.price, (w.figures, w.load)))
    b.pages s.pages

-- ---- the least compensation
factor_there : (f : Facility) → facility_sound f ≡ true → 0 < f.loss_factor
factor_there f h =
    let t = and_first (factor_fits f.loss_factor) _ (and_second (account_fits f.account) _ h) in
    let n = leb-true 8000 f.loss_factor (and_first (leb 8000 f.loss_factor) _ t) in
    omega arith

pub standing_least : (b : Book) → Standing b → All (Least b.facilities) b.pages
standing_least b s =
    All-weaker (Stands b.facilities b.prices) (Least b.facilities)
    (λ p h e k o at is.
    let f = get_or b.facilities k no_facility in
    let submits = ap (λ (x : Figures). x.submission) (figures_told p k) ∙ ap (option_map told_offer) is in
    least_compensation (operation_of f (told_entry (get_or p.entries k absent)) (told_offer o)) (priced_page b.facilities p).price
    (factor_there f (all_at facility_sound b.facilities k no_facility at s.facilities))
    ((settled_page b.facilities b.prices p h.1 e).forms k (told_offer o) at submits))
    b.pages s.pages

-- ---- what is posted
changed_sum : (xs ys : List ℤ) → length xs ≡ 12 → length ys ≡ 12 → row_sum xs ≡ row_sum (changed xs ys) +ℤ row_sum ys
changed_sum xs ys m n =
    let by : (zs : List ℤ) → length zs ≡ 12 → row_sum zs ≡ sum_below 12 (amount zs) = λ zs e. row_sum_amounts zs ∙ ap (λ k. sum_below k (amount zs)) e in
    let step : ℕ → ℤ = λ a. get_or xs a (pos 0) -ℤ get_or ys a (pos 0) in
    by xs m
    ∙ sum_add 12 (amount xs) (amount (changed xs ys)) (amount ys)
    (λ k l. let e : amount (changed xs ys) k ≡ amount xs k -ℤ amount ys k = get_or-map-range_with_len step 0 12 k k (pos 0) l (omega arith) in omega (arith, ints))
    ∙ ap (λ x. x +ℤ sum_below 12 (amount ys)) (sym (by (changed xs ys) (length-map-range_with_len step 0 12)))
    ∙ ap (λ y. row_sum (changed xs ys) +ℤ y) (sym (by ys n))

twelve : (h : PricedSheet) → length (nets h) ≡ 12
unfolding nets
twelve h = length-map-range_with_len (net h) 0 12

adjusts_settled : (s : State) → is_some (next s event.Adjust) ≡ true → s ≡ state.Settled
adjusts_settled state.Open e = cc
adjusts_settled state.Closed e = cc
adjusts_settled state.Settled e = refl

pub posted_sum : NetsBalance → (b : Book) (v : View) (c : Call) → Standing b → table (told b) v c ≡ Ok tt → row_sum (posted (told b) c) ≡ pos 0
posted_sum balance b v (Register a x c t) s e = refl
posted_sum balance b v (Open lo hi) s e = refl
posted_sum balance b v (Lodge f i u w ps) s e = refl
posted_sum balance b v (Start f i n) s e = refl
posted_sum balance b v (Reading f i n) s e = refl
posted_sum balance b v (Position a i c l) s e = refl
posted_sum balance b v (Demand i n) s e = refl
posted_sum balance b v (Close i k) s e = refl
posted_sum balance b v (Settle i) s e =
    let p = (passed (checks (told b) v (Settle i)) e).1 in
    let r = sheet (told b) i in
    let count = eleven b s i p.0 in
    balance (priced_sheet b.facilities r) (omega arith) (test_passed (has_load r.positions) (refusal.NoLoad i) p.1.1.1.0)
posted_sum balance b v (Adjust f i n) s e =
    let p = (passed (checks (told b) v (Adjust f i n)) e).1 in
    let r = sheet (told b) i in
    let count = eleven b s i p.0 in
    let at = state_passed b.facilities b.prices r event.Adjust i p.1.1.0 in
    let load = (settled_sheet b.facilities b.prices r at.0 (adjusts_settled r.state at.1)).load in
    let old = priced_sheet b.facilities r in
    let new = priced_sheet b.facilities (with_reading r (f - 1) n) in
    let all_new = balance new (omega arith) load in
    let all_old = balance old (omega arith) load in
    let both = changed_sum (nets new) (nets old) (twelve new) (twelve old) in
    omega (arith, ints)
