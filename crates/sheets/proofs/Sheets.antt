-- A sheet with one thing changed is a sheet.
use Rattle.std.proofs.Common.{◌≡◌, ℕ, zero, suc, ◌+◌, ◌<◌, ◌≤◌, Bool, true, false, cond, ◌&&◌, leb, List, [], ◌∷◌, length, get_or, take, set, is_some, Some, None, Option, refl, ap, ◌∙◌, arith}
use Rattle.sheets.specs.declared.facility.Facility.{Facility}
use Rattle.sheets.specs.declared.facility.Prices.{Prices}
use Rattle.sheets.specs.declared.row.Figures.{Figures}
use Rattle.sheets.specs.declared.row.Row.{Row}
use Rattle.sheets.specs.declared.row.State.{State}
use Rattle.sheets.specs.declared.row.State.TheVariants.{Open, Closed, Settled}
use Rattle.offers.specs.declared.submission.Submission.{Submission}
use Rattle.offers.specs.Tests.{all}
use Rattle.sheets.specs.Tests.{all2, if_some}
use Rattle.sheets.specs.Sheets.{figures_sound, submission_sound, start_fits, reading_fits, demand_fits, position_fits, complete, offer, offers, reaches, stage, stage_sound, spans_sound, sheet_sound, has_load, no_facility, no_figures, figures_at, read_as, with_figures, with_reading, offer_as, with_submission, start_as, with_start, with_demand, with_position, with_state, next}
use Rattle.sheets.specs.declared.row.Event.TheVariants.{Lodge, Demand, Figure, Settle}
use Rattle.sheets.specs.declared.row.Position.{Position}
use Rattle.offers.proofs.Tests.{and_first, and_second, and_both}
use Rattle.sheets.proofs.Lists.{all2_set, all2_at}
use Rattle.std.proofs.lemmas.Bool.Decides.{nat_tests}

-- what the state asks, where each part still holds
pub stage_keeps : (s : State) (c q c' q' : Bool) → (c ≡ true → c' ≡ true) → (q ≡ true → q' ≡ true) → stage s c q ≡ true → stage s c' q' ≡ true
stage_keeps Open c q c' q' f g h = refl
stage_keeps Closed c q c' q' f g h = f h
stage_keeps Settled c q c' q' f g h = and_both c' q' (f (and_first c q h)) (g (and_second c q h))

pub reaches_same : (xs ys : List Figures) (d : Option ℕ) → offers xs ≡ offers ys → reaches xs d ≡ reaches ys d
reaches_same xs ys None e = refl
reaches_same xs ys (Some d) e = ap (leb d) e

-- the offers are as they were where the element's offer is
pub offers_set : (n i : ℕ) (xs : List Figures) (y : Figures) → offer y.submission ≡ offer (get_or xs i no_figures).submission → offers (take n (set xs i y)) ≡ offers (take n xs)
offers_set zero i xs y e = refl
offers_set (suc n) i [] y e = refl
offers_set (suc n) zero (x ∷ xs) y e = ap (λ k. k + offers (take n xs)) e
offers_set (suc n) (suc i) (x ∷ xs) y e = ap (λ k. offer x.submission + k) (offers_set n i xs y e)

pub complete_set : (n i : ℕ) (xs : List Figures) (y : Figures) → (complete (get_or xs i no_figures) ≡ true → complete y ≡ true) → all complete (take n xs) ≡ true → all complete (take n (set xs i y)) ≡ true
complete_set zero i xs y e h = refl
complete_set (suc n) i [] y e h = refl
complete_set (suc n) zero (x ∷ xs) y e h = and_both (complete y) _ (e (and_first (complete x) _ h)) (and_second (complete x) _ h)
complete_set (suc n) (suc i) (x ∷ xs) y e h = and_both (complete x) _ (and_first (complete x) _ h) (complete_set n i xs y e (and_second (complete x) _ h))

-- the table with one element changed, where that element is sound and the state still has what it asks
pub sheet_set : (fs : List Facility) (z : Prices) (r : Row) (i : ℕ) (y : Figures) → figures_sound z (get_or fs i no_facility) y ≡ true → stage_sound (length fs) (with_figures r i y) ≡ true → sheet_sound fs (Some z) r ≡ true → sheet_sound fs (Some z) (with_figures r i y) ≡ true
sheet_set fs z r i y t s h =
    let spans = and_first (spans_sound fs z r) _ h in
    let rest = if_some demand_fits r.demand && all position_fits r.positions in
    and_both (spans_sound fs z (with_figures r i y)) _
    (and_both (all2 (figures_sound z) fs (set r.figures i y)) rest
    (all2_set (figures_sound z) fs r.figures i no_facility y t (and_first (all2 (figures_sound z) fs r.figures) rest spans))
    (and_second (all2 (figures_sound z) fs r.figures) rest spans))
    s

-- a reading leaves the offers as they were, and takes no reading away
complete_read : (x : Figures) (n : ℕ) → complete x ≡ true → complete (read_as x n) ≡ true
complete_read x n h = and_second _ _ h

figures_read : (z : Prices) (f : Facility) (x : Figures) (n : ℕ) → n ≤ 30000000 → figures_sound z f x ≡ true → figures_sound z f (read_as x n) ≡ true
figures_read z f x n b h =
    let a = if_some (submission_sound z f) x.submission in
    let s = if_some start_fits x.start in
    and_both a (s && reading_fits n) (and_first a _ h) (and_both s (reading_fits n) (and_first s _ (and_second a _ h)) (grind (arith, nat_tests)))

pub sheet_read : (fs : List Facility) (o : Option Prices) (r : Row) (i n : ℕ) → i < length fs → n ≤ 30000000 → sheet_sound fs o r ≡ true → sheet_sound fs o (with_reading r i n) ≡ true
sheet_read fs None r i n w b h = h
sheet_read fs (Some z) r i n w b h =
    let x = figures_at r i in
    let spans = and_first (spans_sound fs z r) _ h in
    let table = and_first (all2 (figures_sound z) fs r.figures) _ spans in
    let k = length fs in
    sheet_set fs z r i (read_as x n) (figures_read z (get_or fs i no_facility) x n b (all2_at (figures_sound z) fs r.figures i no_facility no_figures w table))
    (stage_keeps r.state _ _ _ _
    (λ e. reaches_same _ _ r.demand (offers_set k i r.figures (read_as x n) refl) ∙ e)
    (λ e. and_both (all complete (take k (set r.figures i (read_as x n)))) (has_load r.positions)
    (complete_set k i r.figures (read_as x n) (complete_read x n) (and_first (all complete (take k r.figures)) _ e))
    (and_second (all complete (take k r.figures)) _ e))
    (and_second (spans_sound fs z r) _ h))
    h

lodge_stage : (s : State) (c q : Bool) → is_some (next s Lodge) ≡ true → stage s c q ≡ true
lodge_stage Open c q h = refl
lodge_stage Closed c q h = cc
lodge_stage Settled c q h = cc

-- an open sheet takes any sound submission
pub sheet_lodge : (fs : List Facility) (z : Prices) (r : Row) (i : ℕ) (s : Submission) → i < length fs → is_some (next r.state Lodge) ≡ true → submission_sound z (get_or fs i no_facility) s ≡ true → sheet_sound fs (Some z) r ≡ true → sheet_sound fs (Some z) (with_submission r i s) ≡ true
sheet_lodge fs z r i s w e t h =
    let x = figures_at r i in
    let f = get_or fs i no_facility in
    let table = and_first (all2 (figures_sound z) fs r.figures) _ (and_first (spans_sound fs z r) _ h) in
    let old = all2_at (figures_sound z) fs r.figures i no_facility no_figures w table in
    sheet_set fs z r i (offer_as x s)
    (and_both (submission_sound z f s) _ t (and_second (if_some (submission_sound z f) x.submission) _ old))
    (lodge_stage r.state _ _ e)
    h

-- ---- the other changes
complete_start : (x : Figures) (n : ℕ) → complete x ≡ true → complete (start_as x n) ≡ true
complete_start x n h = and_both (is_some x.reading) _ (and_first (is_some x.reading) _ h) (elim (is_some x.submission) as (λ b. cond b true true ≡ true) [ true ↦ refl | false ↦ refl ])

figures_start : (z : Prices) (f : Facility) (x : Figures) (n : ℕ) → n ≤ 1000000 → figures_sound z f x ≡ true → figures_sound z f (start_as x n) ≡ true
figures_start z f x n b h =
    let a = if_some (submission_sound z f) x.submission in
    let r = if_some reading_fits x.reading in
    and_both a (start_fits n && r) (and_first a _ h) (and_both (start_fits n) r (grind (arith, nat_tests)) (and_second (if_some start_fits x.start) r (and_second a _ h)))

pub sheet_start : (fs : List Facility) (o : Option Prices) (r : Row) (i n : ℕ) → i < length fs → n ≤ 1000000 → sheet_sound fs o r ≡ true → sheet_sound fs o (with_start r i n) ≡ true
sheet_start fs None r i n w b h = h
sheet_start fs (Some z) r i n w b h =
    let x = figures_at r i in
    let spans = and_first (spans_sound fs z r) _ h in
    let table = and_first (all2 (figures_sound z) fs r.figures) _ spans in
    let k = length fs in
    sheet_set fs z r i (start_as x n) (figures_start z (get_or fs i no_facility) x n b (all2_at (figures_sound z) fs r.figures i no_facility no_figures w table))
    (stage_keeps r.state _ _ _ _
    (λ e. reaches_same _ _ r.demand (offers_set k i r.figures (start_as x n) refl) ∙ e)
    (λ e. and_both (all complete (take k (set r.figures i (start_as x n)))) (has_load r.positions)
    (complete_set k i r.figures (start_as x n) (complete_start x n) (and_first (all complete (take k r.figures)) _ e))
    (and_second (all complete (take k r.figures)) _ e))
    (and_second (spans_sound fs z r) _ h))
    h

open_stage : (s : State) (c q : Bool) → is_some (next s Demand) ≡ true → stage s c q ≡ true
open_stage Open c q h = refl
open_stage Closed c q h = cc
open_stage Settled c q h = cc

pub sheet_demand : (fs : List Facility) (o : Option Prices) (r : Row) (n : ℕ) → is_some (next r.state Demand) ≡ true → demand_fits n ≡ true → sheet_sound fs o r ≡ true → sheet_sound fs o (with_demand r n) ≡ true
sheet_demand fs None r n e t h = h
sheet_demand fs (Some z) r n e t h =
    let table = all2 (figures_sound z) fs r.figures in
    let spans = and_first (spans_sound fs z r) _ h in
    and_both (spans_sound fs z (with_demand r n)) _
    (and_both table _ (and_first table _ spans) (and_both (demand_fits n) _ t (and_second (if_some demand_fits r.demand) _ (and_second table _ spans))))
    (open_stage r.state _ _ e)

unsettled_stage : (s : State) (c q q' : Bool) → is_some (next s Figure) ≡ true → stage s c q ≡ true → stage s c q' ≡ true
unsettled_stage Open c q q' e h = refl
unsettled_stage Closed c q q' e h = h
unsettled_stage Settled c q q' e h = cc

all_set : {X : Type 0} (p : X → Bool) (xs : List X) (i : ℕ) (y : X) → p y ≡ true → all p xs ≡ true → all p (set xs i y) ≡ true
all_set p [] i y t h = h
all_set p (x ∷ xs) zero y t h = and_both (p y) _ t (and_second (p x) _ h)
all_set p (x ∷ xs) (suc i) y t h = and_both (p x) _ (and_first (p x) _ h) (all_set p xs i y t (and_second (p x) _ h))

pub sheet_position : (fs : List Facility) (o : Option Prices) (r : Row) (k : ℕ) (p : Position) → is_some (next r.state Figure) ≡ true → position_fits p ≡ true → sheet_sound fs o r ≡ true → sheet_sound fs o (with_position r k p) ≡ true
sheet_position fs None r k p e t h = h
sheet_position fs (Some z) r k p e t h =
    let table = all2 (figures_sound z) fs r.figures in
    let d = if_some demand_fits r.demand in
    let spans = and_first (spans_sound fs z r) _ h in
    let rest = and_second table _ spans in
    and_both (spans_sound fs z (with_position r k p)) _
    (and_both table _ (and_first table _ spans) (and_both d _ (and_first d _ rest) (all_set position_fits r.positions k p t (and_second d _ rest))))
    (unsettled_stage r.state _ _ _ e (and_second (spans_sound fs z r) _ h))

pub sheet_close : (fs : List Facility) (o : Option Prices) (r : Row) → reaches (take (length fs) r.figures) r.demand ≡ true → sheet_sound fs o r ≡ true → sheet_sound fs o (with_state r Closed) ≡ true
sheet_close fs None r e h = h
sheet_close fs (Some z) r e h = and_both (spans_sound fs z r) _ (and_first (spans_sound fs z r) _ h) e

closed_reaches : (s : State) (c q : Bool) → is_some (next s Settle) ≡ true → stage s c q ≡ true → c ≡ true
closed_reaches Open c q e h = cc
closed_reaches Closed c q e h = h
closed_reaches Settled c q e h = cc

pub sheet_settle : (fs : List Facility) (o : Option Prices) (r : Row) → is_some (next r.state Settle) ≡ true → all complete (take (length fs) r.figures) ≡ true → has_load r.positions ≡ true → sheet_sound fs o r ≡ true → sheet_sound fs o (with_state r Settled) ≡ true
sheet_settle fs None r e a l h = h
sheet_settle fs (Some z) r e a l h =
    let c = reaches (take (length fs) r.figures) r.demand in
    and_both (spans_sound fs z r) _ (and_first (spans_sound fs z r) _ h)
    (and_both c _ (closed_reaches r.state c _ e (and_second (spans_sound fs z r) _ h)) (and_both (all complete (take (length fs) r.figures)) _ a l))
