-- What every book holds that a day can come to: facilities in span, and each sheet with a state.
use Rattle.std.proofs.Common.{◌≡◌, ℕ, zero, suc, ◌-◌, ◌<◌, ◌≤◌, Bool, true, ltb, leb, List, [], ◌∷◌, length, replicate, is_some, Some, None, Ok, Option, sym, refl, ap, ◌∙◌, subst, arith, length-append, length-set}
use lib.ListN.{length-map}
use Rattle.std.proofs.ByRecursion.{All-get_or, All-set, All-weaker}
use Rattle.std.proofs.lemmas.List.{get_or-set_same}
use Rattle.std.proofs.lemmas.Bool.{ltb-true, leb-true}
use Rattle.std.specs.List.{AllByRecursion as All}
use Rattle.ledger.specs.View.{View}
use Rattle.refusals.specs.declared.Refusal.TheVariants as refusal
use Rattle.offers.specs.declared.pair.Pair.{Pair}
use Rattle.offers.specs.Curves.{curve, total}
use Rattle.offers.specs.Tests.{all}
use Rattle.offers.proofs.Tests.{and_first, and_second, and_both}
use Rattle.sheets.specs.declared.facility.Facility.{Facility}
use Rattle.sheets.specs.declared.facility.Prices.{Prices}
use Rattle.sheets.specs.declared.row.Row.{Row}
use Rattle.sheets.specs.declared.row.Event.{Event}
use Rattle.sheets.specs.declared.row.Event.TheVariants as event
use Rattle.sheets.specs.Tests.{if_some, every}
use Rattle.sheets.specs.Spans.{account_fits, facility_figures, facility_sound, price_figures, prices_sound}
use Rattle.sheets.specs.declared.row.State.{State}
use Rattle.sheets.specs.Sheets.{with_state, sheet_sound, next, reaches, has_load, no_facility, demand_fits, contract_fits, load_fits, with_submission}
use Rattle.sheets.proofs.Lists.{all_push, all_at}
use Rattle.sheets.proofs.Blank.{blank_sheet}
use Rattle.sheets.proofs.Sheets.{sheet_read, sheet_lodge, sheet_start, sheet_demand, sheet_position, sheet_close, sheet_settle}
use Rattle.pool.specs.declared.call.Call.{Call}
use Rattle.pool.specs.declared.call.Call.TheVariants.{Register, Open, Lodge, Start, Reading, Position, Demand, Close, Settle, Adjust}
use Rattle.pool.specs.Checks.{figures}
use Rattle.pool.specs.Day.{table, checks, sheet, put, no_row, at_sheet, interval_known, few_pairs, span, lodge_figures, facility_at, in_capacity, submitted, figures_on}
use Rattle.pool.proofs.Passing.{figures_pass, complete_pass}
use Rattle.pool.proofs.Laying.{submitted_sound}
use Rattle.day.specs.Book.{Page, Book, blank_page, blank, no_page, keep, noted, told_page, told}
use Rattle.day.proofs.Pages.{page_told, told_after}
use Rattle.day.proofs.Passed.{closes, settles, passed, shut_passed, test_passed, interval_within, facility_within, state_passed}

-- blank before the day is open, and a sheet with a state from then on
abbrev pub Stated : List Facility → Option Prices → Page → Type 0
Stated fs None p = p ≡ blank_page
Stated fs (Some z) p = sheet_sound fs (Some z) (told_page p) ≡ true

abbrev pub Stands : List Facility → Option Prices → Page → Type 0
Stands fs o p = (length p.positions ≡ 11) × Stated fs o p

pub record Standing (b : Book) : Type 0 where
  pub facilities : all facility_sound b.facilities ≡ true
  pub few : length b.facilities ≤ 12
  pub prices : if_some prices_sound b.prices ≡ true
  pub pages : All (Stands b.facilities b.prices) b.pages

-- ---- the blank book
blank_stands : (n : ℕ) → All (Stands [] None) (replicate n blank_page)
blank_stands zero = tt
blank_stands (suc n) = ((refl, refl), blank_stands n)

pub standing_blank : (n : ℕ) → Standing (blank n)
standing_blank n = record { facilities = refl; few = omega arith; prices = refl; pages = blank_stands n }

-- ---- before the day is open: another facility, then the prices
registered_stands : (fs gs : List Facility) (o : Option Prices) (p : Page) → o ≡ None → Stands fs o p → Stands gs o p
registered_stands fs gs o p e s = subst (λ x. Stands gs x p) (sym e) (subst (λ x. Stands fs x p) e s)

opened_stands : (fs : List Facility) (o : Option Prices) (z : Prices) (p : Page) → length fs ≤ 12 → o ≡ None → Stands fs o p → Stands fs (Some z) p
opened_stands fs o z p few e s = (s.0, ap (λ q. sheet_sound fs (Some z) (told_page q)) (subst (λ x. Stated fs x p) e s.1) ∙ blank_sheet fs z few)

-- ---- what each check that passed tells of the figures
lodge_sound : (fs : List Facility) (o : Option Prices) (r : Row) (f u w : ℕ) (ps : List Pair) → all facility_sound fs ≡ true → f - 1 < length fs → few_pairs ps ≡ Ok tt → figures 1 (lodge_figures (span o) u w ps) ≡ Ok tt → in_capacity (facility_at fs f) f ps ≡ Ok tt → is_some (next r.state event.Lodge) ≡ true → sheet_sound fs o r ≡ true → sheet_sound fs o (with_submission r (f - 1) (submitted u w ps)) ≡ true
lodge_sound fs None r f u w ps sound at few spans cap n h = h
lodge_sound fs (Some z) r f u w ps sound at few spans cap n h =
    let x = facility_at fs f in
    sheet_lodge fs z r (f - 1) (submitted u w ps) at n
    (submitted_sound z x u w ps (leb-true (length ps) 8 (test_passed (leb (length ps) 8) (refusal.TooManyPairs (length ps)) few)) (sym spans) (all_at facility_sound fs (f - 1) no_facility at sound)
    (leb-true (total (curve ps)) x.capacity (test_passed (leb (total (curve ps)) x.capacity) (refusal.Capacity f) cap)))
    h

fits : (b : Bool) → figures 1 (b ∷ []) ≡ Ok tt → b ≡ true
fits b e = and_first b true (figures_pass 1 (b ∷ []) (sym e))

under : (n m : ℕ) → figures 1 (leb n m ∷ []) ≡ Ok tt → n ≤ m
under n m e = leb-true n m (fits (leb n m) e)

-- ---- from then on: one page after an event
module _ (b : Book) (s : Standing b) where
  abbrev sound : Row → Type 0
  sound r = sheet_sound b.facilities b.prices r ≡ true

  stated : (o : Option Prices) (p : Page) → sheet_sound b.facilities o (told_page p) ≡ true → Stated b.facilities o p
  stated None p h = cc
  stated (Some z) p h = h

  pub eleven : (i : ℕ) → interval_known (told b).rows i ≡ Ok tt → length (sheet (told b) i).positions ≡ 11
  eleven i known =
      ap (λ (x : Row). length x.positions) (page_told b i)
      ∙ (All-get_or (Stands b.facilities b.prices) b.pages (i - 1) no_page (interval_within b i known) s.pages).0

  turned : (i : ℕ) (e : Event) (r : Row) (q : Page) → interval_known (told b).rows i ≡ Ok tt → at_sheet (told b) e i ≡ Ok tt → put (told b) i r ≡ told (keep b i q) → length r.positions ≡ length (sheet (told b) i).positions → (sound (sheet (told b) i) → is_some (next (sheet (told b) i).state e) ≡ true → sound r) → Standing (keep b i q)
  turned i e r q known at is long change =
      let in_pages = interval_within b i known in
      let in_rows : i - 1 < length (told b).rows = let n = length-map b.pages told_page in omega arith in
      let same : r ≡ told_page q =
      sym (get_or-set_same (told b).rows (i - 1) r no_row in_rows) ∙ ap (λ d. sheet d i) is ∙ page_told (keep b i q) i ∙ ap told_page (get_or-set_same b.pages (i - 1) q no_page in_pages) in
      let was = state_passed b.facilities b.prices (sheet (told b) i) e i at in
      record {
        facilities = s.facilities;
        few = s.few;
        prices = s.prices;
        pages = All-set (Stands b.facilities b.prices) b.pages (i - 1) q (
          ap (λ (x : Row). length x.positions) (sym same) ∙ long ∙ eleven i known,
          stated b.prices q (ap (sheet_sound b.facilities b.prices) (sym same) ∙ change was.0 was.1),
        )
            s.pages;
      }

pub standing_noted : (b : Book) (v : View) (c : Call) → Standing b → table (told b) v c ≡ Ok tt → Standing (noted b c)
standing_noted b v (Register a x c t) s e =
    let p = passed (checks (told b) v (Register a x c t)) e in
    let f : Facility = record { account = a; loss_factor = x; capacity = c; tolerance = t } in
    let fits_all = figures_pass 1 (facility_figures x c t) (sym p.1.1.1.0) in
    let room = ltb-true (length b.facilities) 12 (test_passed (ltb (length b.facilities) 12) refusal.RegisterFull p.1.0) in
    record {
      facilities = all_push facility_sound b.facilities f s.facilities (and_both (account_fits a) (every (facility_figures x c t)) (test_passed (account_fits a) (refusal.Account a) p.1.1.0) fits_all);
      few = let n = length-append b.facilities (f ∷ []) in omega arith;
      prices = s.prices;
      pages = All-weaker _ _ (λ q h. registered_stands b.facilities _ b.prices q (shut_passed b.prices p.0) h) b.pages s.pages;
    }
standing_noted b v (Open lo hi) s e =
    let p = passed (checks (told b) v (Open lo hi)) e in
    let z : Prices = record { low = lo; high = hi } in
    record {
      facilities = s.facilities;
      few = s.few;
      prices = figures_pass 1 (price_figures z) (sym p.1.0);
      pages = All-weaker _ _ (λ q h. opened_stands b.facilities b.prices z q s.few (shut_passed b.prices p.0) h) b.pages s.pages;
    }
standing_noted b v (Lodge f i u w ps) s e =
    let p = (passed (checks (told b) v (Lodge f i u w ps)) e).1 in
    let q = p.1.1.1 in
    turned b s i event.Lodge _ _ p.0 p.1.1.0 (told_after b v (Lodge f i u w ps) e) refl
    (λ h n. lodge_sound b.facilities b.prices (sheet (told b) i) f u w ps.now s.facilities (facility_within b.facilities f p.1.0) q.0 q.1.0 q.1.1.0 n h)
standing_noted b v (Start f i n) s e =
    let p = (passed (checks (told b) v (Start f i n)) e).1 in
    turned b s i event.Figure _ _ p.0 p.1.1.0 (told_after b v (Start f i n) e) refl
    (λ h k. sheet_start b.facilities b.prices (sheet (told b) i) (f - 1) n (facility_within b.facilities f p.1.0) (under n 1000000 p.1.1.1.0) h)
standing_noted b v (Reading f i n) s e =
    let p = (passed (checks (told b) v (Reading f i n)) e).1 in
    turned b s i event.Figure _ _ p.0 p.1.1.0 (told_after b v (Reading f i n) e) refl
    (λ h k. sheet_read b.facilities b.prices (sheet (told b) i) (f - 1) n (facility_within b.facilities f p.1.0) (under n 30000000 p.1.1.1.0) h)
standing_noted b v (Position a i c l) s e =
    let p = (passed (checks (told b) v (Position a i c l)) e).1 in
    let t = figures_pass 1 (contract_fits c ∷ (load_fits l ∷ [])) (sym p.1.1.1.0) in
    turned b s i event.Figure _ _ p.0 p.1.1.0 (told_after b v (Position a i c l) e) (length-set (sheet (told b) i).positions (a - 1) (record { contract = c; load = l }))
    (λ h k. sheet_position b.facilities b.prices (sheet (told b) i) (a - 1) (record { contract = c; load = l }) k
    (and_both (contract_fits c) (load_fits l) (and_first (contract_fits c) _ t) (and_first (load_fits l) true (and_second (contract_fits c) _ t))) h)
standing_noted b v (Demand i n) s e =
    let p = (passed (checks (told b) v (Demand i n)) e).1 in
    turned b s i event.Demand _ _ p.0 p.1.0 (told_after b v (Demand i n) e) refl
    (λ h k. sheet_demand b.facilities b.prices (sheet (told b) i) n k (fits (demand_fits n) p.1.1.0) h)
standing_noted b v (Close i k) s e =
    let p = (passed (checks (told b) v (Close i k)) e).1 in
    let r = sheet (told b) i in
    let t = test_passed (reaches (figures_on (told b) i) r.demand) (refusal.Short i) p.1.1.1.1.0 in
    turned b s i event.Close _ _ p.0 p.1.0 (told_after b v (Close i k) e) refl
    (λ h n. subst (λ (x : State). sheet_sound b.facilities b.prices (with_state r x) ≡ true) (sym (closes r.state n)) (sheet_close b.facilities b.prices r t h))
standing_noted b v (Settle i) s e =
    let p = (passed (checks (told b) v (Settle i)) e).1 in
    let r = sheet (told b) i in
    turned b s i event.Settle _ _ p.0 p.1.0 (told_after b v (Settle i) e) refl
    (λ h n. subst (λ (x : State). sheet_sound b.facilities b.prices (with_state r x) ≡ true) (sym (settles r.state n)) (sheet_settle b.facilities b.prices r n (complete_pass 1 (figures_on (told b) i) (sym p.1.1.0)) (test_passed (has_load r.positions) (refusal.NoLoad i) p.1.1.1.0) h))
standing_noted b v (Adjust f i n) s e =
    let p = (passed (checks (told b) v (Adjust f i n)) e).1 in
    turned b s i event.Adjust _ _ p.0 p.1.1.0 (told_after b v (Adjust f i n) e) refl
    (λ h k. sheet_read b.facilities b.prices (sheet (told b) i) (f - 1) n (facility_within b.facilities f p.1.0) (under n 30000000 p.1.1.1.0) h)
