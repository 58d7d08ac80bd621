-- What the soundness of a sheet says of one facility's figures, and of one account's position.
use Rattle.std.proofs.Common.{◌≡◌, ℕ, zero, suc, ◌<◌, ◌≤◌, true, ◌&&◌, leb, List, [], ◌∷◌, length, get_or, take, ℤ, nat_abs, Some, None, Option, sym, refl, ap, ◌∙◌, subst, arith}
use lib.Signed.{le_z}
use Rattle.std.proofs.lemmas.Nat.{mul-le}
use Rattle.std.proofs.lemmas.List.{get_or-take}
use Rattle.std.proofs.lemmas.Int.{ints}
use Rattle.std.proofs.lemmas.Bool.{leb-true, le-leb}
use Rattle.offers.specs.declared.pair.Pair.{Pair}
use Rattle.offers.specs.declared.submission.Submission.{Submission}
use Rattle.offers.specs.Curves.{listed, total, curve_in_form}
use Rattle.offers.specs.Tests.{all}
use Rattle.offers.proofs.Tests.{and_first, and_second, and_both}
use Rattle.schedule.specs.Spans as station
use Rattle.sheets.specs.declared.facility.Facility.{Facility}
use Rattle.sheets.specs.declared.facility.Prices.{Prices}
use Rattle.sheets.specs.declared.register.Register.{Register}
use Rattle.sheets.specs.declared.row.Figures.{Figures}
use Rattle.sheets.specs.declared.row.Position.{Position}
use Rattle.sheets.specs.declared.row.Row.{Row}
use Rattle.sheets.specs.declared.sheet.Sheet.{Sheet}
use Rattle.merit.specs.Held.{facilities_in, figures_in}
use Rattle.sheets.specs.Held.{known}
use Rattle.sheets.specs.Changes.{table}
use Rattle.sheets.specs.Spans.{facility_sound, prices_sound, price_fits, account_fits, factor_fits, capacity_fits, tolerance_fits}
use Rattle.sheets.specs.Sheets.{sheet_sound, spans_sound, figures_sound, submission_sound, pair_fits, ramp_fits, start_fits, reading_fits, demand_fits, contract_fits, load_fits, position_fits, no_facility, no_figures, no_position}
use Rattle.sheets.specs.Tests.{if_some, all2}
use Rattle.sheets.proofs.Lists.{all_at, all2_at}
use Rattle.amounts.specs.Sums.{or_zero, metered, works}

-- ---- one facility
pub record Fitting (f : Facility) (x : Figures) : Type 0 where
  pub metered : metered f x ≤ 375000000000
  pub works : works f x x.submission ≡ true

or_zero_fits : (o : Option ℕ) (B : ℕ) → if_some (λ n. leb n B) o ≡ true → leb (or_zero o) B ≡ true
or_zero_fits None B h = le-leb 0 B (omega arith)
or_zero_fits (Some n) B h = h

pair_near : (z : Prices) (p : Pair) → prices_sound z ≡ true → pair_fits z p ≡ true → station.price_fits p ≡ true
pair_near z p s h =
    let b = and_first (le_z z.low p.price && le_z p.price z.high) _ h in
    let low = and_first (le_z z.low p.price) (le_z p.price z.high) b in
    let high = and_second (le_z z.low p.price) (le_z p.price z.high) b in
    let least = and_first (price_fits z.low) _ s in
    let most = and_first (price_fits z.high) _ (and_first (price_fits z.high && le_z z.low z.high) true (and_second (price_fits z.low) _ s)) in
    let near : nat_abs p.price ≤ 100000 = grind (arith, ints) in
    fits p.price near
  where
    fits : (x : ℤ) → nat_abs x ≤ 100000 → station.within 100000 x ≡ true
    fits x near = grind (arith, ints)

pairs_near : (z : Prices) (ps : List Pair) → prices_sound z ≡ true → all (pair_fits z) ps ≡ true → all station.price_fits ps ≡ true
pairs_near z [] s h = refl
pairs_near z (p ∷ ps) s h =
    and_both (station.price_fits p) _ (pair_near z p s (and_first (pair_fits z p) _ h)) (pairs_near z ps s (and_second (pair_fits z p) (all (pair_fits z) ps) h))

submission_fits : (z : Prices) (f : Facility) (s : Submission) → prices_sound z ≡ true → f.capacity ≤ 1000000 → submission_sound z f s ≡ true → station.submission_fits s ≡ true
submission_fits z f s near most h =
    let ps = listed s.curve in
    let ramps = and_second (ramp_fits s.ramp_up) _ h in
    let curve = and_second (ramp_fits s.ramp_down) _ ramps in
    let pairs = and_second (curve_in_form s.curve) _ curve in
    let few : total ps ≤ 1000000 = omega (arith, leb-true (total ps) f.capacity (and_second (all (pair_fits z) ps) (leb (total ps) f.capacity) pairs)) in
    and_both (ramp_fits s.ramp_up) _ (and_first (ramp_fits s.ramp_up) _ h)
    (and_both (ramp_fits s.ramp_down) _ (and_first (ramp_fits s.ramp_down) _ ramps)
    (and_both (curve_in_form s.curve) _ (and_first (curve_in_form s.curve) _ curve)
    (and_both (all station.price_fits ps) _ (pairs_near z ps near (and_first (all (pair_fits z) ps) _ pairs)) (le-leb (total ps) 1000000 few))))

fitting : (z : Prices) (f : Facility) (x : Figures) → prices_sound z ≡ true → facility_sound f ≡ true → figures_sound z f x ≡ true → Fitting f x
fitting z f x near t h =
    let spans = and_second (account_fits f.account) _ t in
    let factor = and_first (factor_fits f.loss_factor) _ spans in
    let rest = and_second (factor_fits f.loss_factor) _ spans in
    let capacity = and_first (capacity_fits f.capacity) _ rest in
    let tolerance = and_first (tolerance_fits f.tolerance) true (and_second (capacity_fits f.capacity) _ rest) in
    let some = if_some (submission_sound z f) x.submission in
    let figures = and_second some _ h in
    let start = or_zero_fits x.start 1000000 (and_first (if_some start_fits x.start) _ figures) in
    let reading = or_zero_fits x.reading 30000000 (and_second (if_some start_fits x.start) (if_some reading_fits x.reading) figures) in
    let factor_most = leb-true f.loss_factor 12500 (and_second (leb 8000 f.loss_factor) (leb f.loss_factor 12500) factor) in
    let capacity_most = leb-true f.capacity 1000000 (and_second (leb 1 f.capacity) (leb f.capacity 1000000) capacity) in
    record {
      metered = mul-le (or_zero x.reading) f.loss_factor 30000000 12500 (leb-true (or_zero x.reading) 30000000 reading) factor_most;
      works = at_work x.submission (λ s is.
          and_both (factor_fits f.loss_factor) _ factor
          (and_both (station.figures_fit f.tolerance (or_zero x.start) (or_zero x.reading)) _
          (and_both (leb f.tolerance 30000000) _ (and_second (leb 0 f.tolerance) (leb f.tolerance 30000000) tolerance) (and_both (leb (or_zero x.start) 1000000) _ start reading))
          (submission_fits z f s near capacity_most (ap (if_some (submission_sound z f)) (sym is) ∙ and_first some _ h))));
    }
  where
    at_work : (o : Option Submission) → ((s : Submission) → o ≡ Some s → station.station_fits f.loss_factor f.tolerance (or_zero x.start) s (or_zero x.reading) ≡ true) → works f x o ≡ true
    at_work None k = refl
    at_work (Some s) k = k s refl

-- ---- a sheet
module _ (fs : List Facility) (r : Row) where
  facility_fitting : (o : Option Prices) (i : ℕ) → all facility_sound fs ≡ true → if_some prices_sound o ≡ true → sheet_sound fs o r ≡ true → i < length fs → Fitting (get_or fs i no_facility) (get_or (take (length fs) r.figures) i no_figures)
  facility_fitting None i t near h lt = absurd (let y : ◌≡◌ {A = ℕ} 0 1 = cc in omega arith)
  facility_fitting (Some z) i t near h lt =
      let rows = and_first (all2 (figures_sound z) fs r.figures) _ (and_first (spans_sound fs z r) _ h) in
      subst (Fitting (get_or fs i no_facility)) (sym (get_or-take (length fs) r.figures i no_figures lt))
      (fitting z (get_or fs i no_facility) (get_or r.figures i no_figures) near (all_at facility_sound fs i no_facility lt t) (all2_at (figures_sound z) fs r.figures i no_facility no_figures lt rows))

  positions_fit : (o : Option Prices) → sheet_sound fs o r ≡ true → all position_fits r.positions ≡ true
  positions_fit None h = cc
  positions_fit (Some z) h = and_second (if_some demand_fits r.demand) _ (and_second (all2 (figures_sound z) fs r.figures) _ (and_first (spans_sound fs z r) _ h))

-- no length is asked: what stands past the last is nothing, and fits
position_at : (ps : List Position) (k : ℕ) → all position_fits ps ≡ true → position_fits (get_or ps k no_position) ≡ true
position_at [] k h = refl
position_at (p ∷ ps) zero h = and_first (position_fits p) _ h
position_at (p ∷ ps) (suc k) h = position_at ps k (and_second (position_fits p) _ h)

pub record Placed (p : Position) : Type 0 where
  pub contract : nat_abs p.contract ≤ 60000000
  pub load : p.load ≤ 60000000

placed : (p : Position) → position_fits p ≡ true → Placed p
placed p h =
    record {
      contract = near p.contract (and_first (contract_fits p.contract) _ h);
      load = leb-true p.load 60000000 (and_second (contract_fits p.contract) (load_fits p.load) h);
    }
  where
    near : (x : ℤ) → contract_fits x ≡ true → nat_abs x ≤ 60000000
    near x t = grind (arith, ints)

module _ (g : Register) (r : Row) (sound : sheet_sound (known g) g.prices r ≡ true) where
  pub sheet_placed : (k : ℕ) → Placed (get_or r.positions k no_position)
  sheet_placed k = placed _ (position_at r.positions k (positions_fit (known g) r g.prices sound))

  -- a facility and its figures, as they are read in memory
  pub read_fitting : (fs : List Facility) (gs : List Figures) (i : ℕ) → fs ≡ known g → gs ≡ table g r → i < length (known g) → Fitting (get_or fs i no_facility) (get_or gs i no_figures)
  read_fitting fs gs i p q lt =
      subst (λ xs. Fitting (get_or fs i no_facility) (get_or xs i no_figures)) (sym q)
      (subst (λ xs. Fitting (get_or xs i no_facility) (get_or (table g r) i no_figures)) (sym p) (facility_fitting (known g) r g.prices i g.spans g.priced sound lt))

pub standing : (s : Sheet) (i : ℕ) (f : Facility) (x : Figures) → i < length (facilities_in s) → f ≡ get_or (facilities_in s) i no_facility → x ≡ get_or (figures_in s) i no_figures → Fitting f x
standing s i f x lt p q =
    subst (λ y. Fitting f y) (sym q) (subst (λ h. Fitting h (get_or (figures_in s) i no_figures)) (sym p) (read_fitting s.register.now s.row s.sound _ _ i refl refl lt))
