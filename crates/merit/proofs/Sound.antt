-- What a sheet gives its offers: few pairs, prices in their span, a demand above zero, and where it is past close a price.
use Rattle.std.proofs.Common.{◌≡◌, ℕ, ◌+◌, ◌-◌, ◌<◌, ◌≤◌, Bool, true, ◌&&◌, leb, List, [], ◌∷◌, length, take, ℤ, nat_abs, is_some as option_is_some, Some, None, Option, sym, refl, ap, ◌∙◌, subst, ⊎_elim, arith}
use lib.Signed.{le_z}
use Rattle.std.specs.List.{AllByRecursion as All}
use Rattle.std.proofs.ByRecursion.{All-append}
use Rattle.std.proofs.lemmas.List.{length-take, length-take-le}
use Rattle.std.proofs.lemmas.Int.{ints}
use Rattle.std.proofs.lemmas.Bool.{le-leb, lt-leb, leb-true, cases_lt}
use Rattle.offers.specs.declared.pair.Pair.{Pair}
use Rattle.offers.specs.declared.submission.Submission.{Submission}
use Rattle.offers.specs.Curves.{listed, curve_in_form, in_form}
use Rattle.offers.specs.Tests.{all}
use Rattle.offers.proofs.Tests.{and_first, and_second}
use Rattle.schedule.specs.Rounding.{adjusted}
use Rattle.schedule.proofs.Rising.{adjusted_span}
use Rattle.sheets.specs.declared.facility.Facility.{Facility}
use Rattle.sheets.specs.declared.facility.Prices.{Prices}
use Rattle.sheets.specs.declared.register.Register.{Register}
use Rattle.sheets.specs.declared.row.Figures.{Figures}
use Rattle.sheets.specs.declared.row.Row.{Row}
use Rattle.sheets.specs.declared.row.State.{State}
use Rattle.sheets.specs.declared.row.State.TheVariants.{Open, Closed, Settled}
use Rattle.sheets.specs.Held.{known}
use Rattle.sheets.specs.Changes.{table}
use Rattle.sheets.specs.Spans.{facility_sound, prices_sound, price_fits, account_fits}
use Rattle.sheets.specs.Sheets.{sheet_sound, spans_sound, stage, figures_sound, submission_sound, pair_fits, ramp_fits, demand_fits, offers, reaches}
use Rattle.sheets.specs.Tests.{if_some, all2}
use Rattle.merit.specs.declared.rung.Rung.{Rung}
use Rattle.merit.specs.Rungs.{rungs_from, curve, offers_from, offers_of, merit_order}
use Rattle.merit.specs.Prices.{total, marginal, priced_at}
use Rattle.merit.specs.Working.{factored, eight_at_most, laid}
use Rattle.merit.specs.Claims.{Asked, PastClose}
use Rattle.merit.proofs.Counting.{total_offers}
use Rattle.merit.proofs.Filling.{front_laid}
use Rattle.merit.proofs.Least.{priced_none, priced_some, priced_margin, priced_lacking, margin_of, margin_least}

-- ---- the facilities
factor_of : (f : Facility) → facility_sound f ≡ true → factored f ≡ true
factor_of f h = and_first (factored f) _ (and_second (account_fits f.account) _ h)

factors_of : (fs : List Facility) → all facility_sound fs ≡ true → all factored fs ≡ true
factors_of [] h = refl
factors_of (f ∷ fs) h =
    let a = factor_of f (and_first (facility_sound f) (all facility_sound fs) h) in
    ap (λ b. b && all factored fs) a ∙ factors_of fs (and_second (facility_sound f) (all facility_sound fs) h)

pub register_factors : (g : Register) → all factored (known g) ≡ true
register_factors g = factors_of (known g) g.spans

-- ---- their figures
curve_few : (z : Prices) (f : Facility) (o : Option Submission) → if_some (submission_sound z f) o ≡ true → leb (length (curve o)) 8 ≡ true
curve_few z f None h = refl
curve_few z f (Some s) h =
    let form = and_first (curve_in_form s.curve) _ (and_second (ramp_fits s.ramp_down) _ (and_second (ramp_fits s.ramp_up) _ h)) in
    let few : s.curve.count ≤ 8 = leb-true s.curve.count 8 (and_first (leb s.curve.count 8) (in_form (listed s.curve)) form) in
    le-leb (length (listed s.curve)) 8 (omega (arith, length-take s.curve.count s.curve.pairs))

curves_few : (z : Prices) (fs : List Facility) (gs : List Figures) → all2 (figures_sound z) fs gs ≡ true → all eight_at_most (take (length fs) gs) ≡ true
curves_few z [] gs h = refl
curves_few z (f ∷ fs) [] h = refl
curves_few z (f ∷ fs) (g ∷ gs) h =
    let own = and_first (figures_sound z f g) (all2 (figures_sound z) fs gs) h in
    let a : eight_at_most g ≡ true = curve_few z f g.submission (and_first (if_some (submission_sound z f) g.submission) _ own) in
    ap (λ b. b && all eight_at_most (take (length fs) gs)) a ∙ curves_few z fs gs (and_second (figures_sound z f g) (all2 (figures_sound z) fs gs) h)

pub table_long : (z : Prices) (fs : List Facility) (gs : List Figures) → all2 (figures_sound z) fs gs ≡ true → length fs ≤ length gs
table_long z [] gs h = omega arith
table_long z (f ∷ fs) [] h = absurd (let y : ◌≡◌ {A = ℕ} 0 1 = cc in omega arith)
table_long z (f ∷ fs) (g ∷ gs) h = omega (arith, table_long z fs gs (and_second (figures_sound z f g) (all2 (figures_sound z) fs gs) h))

-- ---- their prices
abbrev Small : Rung → Type 0
Small r = nat_abs r.price ≤ 125000

pair_small : (z : Prices) (f : Facility) (p : Pair) → prices_sound z ≡ true → factored f ≡ true → pair_fits z p ≡ true → nat_abs (adjusted p.price f.loss_factor) ≤ 125000
pair_small z f p s t h =
    let b = and_first (le_z z.low p.price && le_z p.price z.high) _ h in
    let low = and_first (le_z z.low p.price) (le_z p.price z.high) b in
    let high = and_second (le_z z.low p.price) (le_z p.price z.high) b in
    let least = and_first (price_fits z.low) _ s in
    let most = and_first (price_fits z.high) _ (and_first (price_fits z.high && le_z z.low z.high) true (and_second (price_fits z.low) _ s)) in
    let near : nat_abs p.price ≤ 100000 = grind (arith, ints) in
    adjusted_span p.price f.loss_factor near (leb-true 8000 f.loss_factor (and_first (leb 8000 f.loss_factor) (leb f.loss_factor 12500) t))

rungs_small : (z : Prices) (f : Facility) (n k : ℕ) (ps : List Pair) → prices_sound z ≡ true → factored f ≡ true → all (pair_fits z) ps ≡ true → All Small (rungs_from f n k ps)
rungs_small z f n k [] s t h = tt
rungs_small z f n k (p ∷ ps) s t h =
    (pair_small z f p s t (and_first (pair_fits z p) (all (pair_fits z) ps) h), rungs_small z f n (k + 1) ps s t (and_second (pair_fits z p) (all (pair_fits z) ps) h))

curve_fits : (z : Prices) (f : Facility) (o : Option Submission) → if_some (submission_sound z f) o ≡ true → all (pair_fits z) (curve o) ≡ true
curve_fits z f None h = refl
curve_fits z f (Some s) h =
    and_first (all (pair_fits z) (listed s.curve)) _
    (and_second (curve_in_form s.curve) _ (and_second (ramp_fits s.ramp_down) _ (and_second (ramp_fits s.ramp_up) _ h)))

offers_small : (z : Prices) (n : ℕ) (fs : List Facility) (gs : List Figures) → prices_sound z ≡ true → all facility_sound fs ≡ true → all2 (figures_sound z) fs gs ≡ true → All Small (offers_from n fs (take (length fs) gs))
offers_small z n [] gs s t h = tt
offers_small z n (f ∷ fs) [] s t h = tt
offers_small z n (f ∷ fs) (g ∷ gs) s t h =
    let own = and_first (figures_sound z f g) (all2 (figures_sound z) fs gs) h in
    let ps = curve_fits z f g.submission (and_first (if_some (submission_sound z f) g.submission) _ own) in
    All-append Small (rungs_from f n 1 (curve g.submission)) (offers_from (n + 1) fs (take (length fs) gs))
    (rungs_small z f n 1 (curve g.submission) s (factor_of f (and_first (facility_sound f) (all facility_sound fs) t)) ps)
    (offers_small z (n + 1) fs gs s (and_second (facility_sound f) (all facility_sound fs) t) (and_second (figures_sound z f g) (all2 (figures_sound z) fs gs) h))

asked_small : (p : ℤ) (os : List Rung) → All Small os → Asked p os → nat_abs p ≤ 125000
asked_small p [] a h = absurd h
asked_small p (r ∷ rs) a h = ⊎_elim (λ e. subst (λ q. nat_abs q ≤ 125000) e a.0) (λ k. asked_small p rs a.1 k) h

-- ---- a row that is a sheet of the register
pub record Offering (fs : List Facility) (o : Option Prices) (r : Row) : Type 0 where
  pub curves : all eight_at_most (take (length fs) r.figures) ≡ true
  pub each : length (take (length fs) r.figures) ≡ length fs
  pub demand : if_some demand_fits r.demand ≡ true
  pub near : (d : ℕ) (m : Rung) → 0 < d → marginal (merit_order (offers_of fs (take (length fs) r.figures))) d ≡ Some m → nat_abs m.price ≤ 125000

offering : (fs : List Facility) (o : Option Prices) (r : Row) → all facility_sound fs ≡ true → if_some prices_sound o ≡ true → sheet_sound fs o r ≡ true → Offering fs o r
offering fs None r t s h = absurd (let y : ◌≡◌ {A = ℕ} 0 1 = cc in omega arith)
offering fs (Some z) r t s h =
    let spans = and_first (spans_sound fs z r) _ h in
    let rows = and_first (all2 (figures_sound z) fs r.figures) _ spans in
    let os = offers_of fs (take (length fs) r.figures) in
    record {
      curves = curves_few z fs r.figures rows;
      each = length-take-le (length fs) r.figures (table_long z fs r.figures rows);
      demand = and_first (if_some demand_fits r.demand) _ (and_second (all2 (figures_sound z) fs r.figures) _ spans);
      near = λ d m some e. asked_small m.price os (offers_small z 1 fs r.figures s t rows) (margin_least os d m some e).asked;
    }

pub sheet_offering : (g : Register) (r : Row) → sheet_sound (known g) g.prices r ≡ true → Offering (known g) g.prices r
sheet_offering g r h = offering (known g) g.prices r g.spans g.priced h

-- ---- where the offers reach the demand there is a price, and nowhere else
pub some_demand : (d : ℕ) → demand_fits d ≡ true → 0 < d
some_demand d h = omega (arith, leb-true 1 d (and_first (leb 1 d) (leb d 12000000) h))

pub priced_reaches : (fs : List Facility) (gs : List Figures) (o : Option ℕ) → length fs ≡ length gs → if_some demand_fits o ≡ true → option_is_some (priced_at fs gs o) ≡ reaches gs o
priced_reaches fs gs None e h = refl
priced_reaches fs gs (Some d) e h =
    let os = offers_of fs gs in
    ⊎_elim (λ (lt : total os < d). ap option_is_some (priced_none os d lt) ∙ sym (lt-leb d (offers gs) (omega (arith, total_offers fs gs e))))
    (λ (le : d ≤ total os). ap option_is_some (priced_some os d (some_demand d h) le).1.1 ∙ sym (le-leb d (offers gs) (omega (arith, total_offers fs gs e))))
    (cases_lt (total os) d)

is_some : {X : Type 0} (o : Option X) → option_is_some o ≡ true → (x : X) × (o ≡ Some x)
is_some None h = absurd (let y : ◌≡◌ {A = ℕ} 0 1 = cc in omega arith)
is_some (Some x) h = (x, refl)

pub sheet_reaches : (g : Register) (r : Row) → sheet_sound (known g) g.prices r ≡ true → option_is_some (priced_at (known g) (table g r) r.demand) ≡ reaches (table g r) r.demand
sheet_reaches g r h = let k = sheet_offering g r h in priced_reaches (known g) (table g r) r.demand (sym k.each) k.demand

pub sheet_priced : (g : Register) (r : Row) → sheet_sound (known g) g.prices r ≡ true → reaches (table g r) r.demand ≡ true → (a : ℤ × ℕ) × (priced_at (known g) (table g r) r.demand ≡ Some a)
sheet_priced g r h t = is_some (priced_at (known g) (table g r) r.demand) (sheet_reaches g r h ∙ t)

past_stage : (s : State) (c q : Bool) → (s ≡ Open → ⊥) → stage s c q ≡ true → c ≡ true
past_stage Open c q past h = absurd (past refl)
past_stage Closed c q past h = h
past_stage Settled c q past h = and_first c q h

-- a sheet past close reaches its demand
pub past_close : (fs : List Facility) (o : Option Prices) (r : Row) → (r.state ≡ Open → ⊥) → sheet_sound fs o r ≡ true → reaches (take (length fs) r.figures) r.demand ≡ true
past_close fs None r past h = absurd (let y : ◌≡◌ {A = ℕ} 0 1 = cc in omega arith)
past_close fs (Some z) r past h = past_stage r.state (reaches (take (length fs) r.figures) r.demand) _ past (and_second (spans_sound fs z r) _ h)

pub closed_price : PastClose
closed_price g r h past = sheet_reaches g r h ∙ past_close (known g) g.prices r past h

-- ---- what the walk over the working rungs finds
pub walked : (os ws cur : List Rung) (n d : ℕ) (o : Option Rung) → n ≡ length os → cur ≡ laid os ws → o ≡ marginal (take (n - 0) cur) d → marginal (merit_order os) d ≡ o
walked os ws cur n d o len slots is =
    sym (is ∙ ap (λ xs. marginal (take (n - 0) xs) d) slots ∙ ap (λ xs. marginal xs d) (front_laid os ws n len))

-- a sheet with the demand d, and what the walk over its merit order finds
module _ (g : Register) (r : Row) (d : ℕ) (sound : sheet_sound (known g) g.prices r ≡ true) (asks : r.demand ≡ Some d) where
  pub demanded : 0 < d
  demanded = some_demand d (ap (if_some demand_fits) (sym asks) ∙ (sheet_offering g r sound).demand)

  pub found_price : (m : Rung) → marginal (merit_order (offers_of (known g) (table g r))) d ≡ Some m → priced_at (known g) (table g r) r.demand ≡ Some (m.price, m.facility)
  found_price m e = ap (priced_at (known g) (table g r)) asks ∙ priced_margin (offers_of (known g) (table g r)) d m demanded e

  pub found_near : (m : Rung) → marginal (merit_order (offers_of (known g) (table g r))) d ≡ Some m → nat_abs m.price ≤ 125000
  found_near m e = (sheet_offering g r sound).near d m demanded e

  pub found_none : marginal (merit_order (offers_of (known g) (table g r))) d ≡ None → priced_at (known g) (table g r) r.demand ≡ None
  found_none e = ap (priced_at (known g) (table g r)) asks ∙ priced_lacking (offers_of (known g) (table g r)) d e

  -- the walk ends at a rung where the offers reach the demand
  pub found_some : d ≤ offers (table g r) → marginal (merit_order (offers_of (known g) (table g r))) d ≡ None → ⊥
  found_some le e =
      let t = total_offers (known g) (table g r) (sym (sheet_offering g r sound).each) in
      let k = (margin_of (offers_of (known g) (table g r)) d demanded (omega arith)).1 in
      let z : ◌≡◌ {A = ℕ} 0 1 = cc in
      omega arith
