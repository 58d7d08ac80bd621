-- What is known of a station whose figures are within their spans.
use Rattle.std.proofs.Common.{◌≡◌, ℕ, ◌+◌, ◌-◌, ◌≤◌, Bool, true, false, cond, ◌&&◌, ltb, leb, List, [], ◌∷◌, ℤ, nat_abs, filter, arith}
use lib.Signed.{lt_z}
use Rattle.std.specs.List.{AllByRecursion as All}
use Rattle.std.proofs.lemmas.Int.{ints}
use Rattle.std.proofs.lemmas.Bool.{leb-true}
use Rattle.std.proofs.lemmas.Bool.Decides.{nat_tests}
use Rattle.std.proofs.ByRecursion.{all_kept_by}
use Rattle.offers.specs.Tests.{all}
use Rattle.offers.specs.Curves.{listed, total, in_form, curve_in_form}
use Rattle.offers.specs.declared.pair.Pair.{Pair}
use Rattle.offers.specs.declared.submission.Submission.{Submission}
use Rattle.offers.proofs.Tests.{and_first, and_second}
use Rattle.schedule.specs.Spans.{balancing_fits, factor_fits, figures_fit, submission_fits, station_fits, price_fits, curve_fits, ramp_fits}
use Rattle.schedule.specs.Blocks.{blocks_from, kw_where}
use Rattle.schedule.specs.Stations.{Operation, operates, energy_of, upper, lower, upward, downward, counted, out_of_merit, energy_out, energy_counted, blocks_for, blocks_of}
use Rattle.schedule.specs.declared.block.Block.{Block}
use Rattle.schedule.specs.declared.direction.OutOfMerit.{OutOfMerit}
use Rattle.schedule.specs.declared.direction.OutOfMerit.TheVariants.{Upward, Downward, Neither}
use Rattle.schedule.proofs.Rising.{adjusted_span, energy_bound}
use Rattle.schedule.proofs.Nearest.{all_reverse}
use Rattle.schedule.proofs.Kilowatts.{kw_le}

pub record Fits (o : Operation) : Type 0 where
  pub low : 8000 ≤ o.factor
  pub high : o.factor ≤ 12500
  pub start : o.start ≤ 1000000
  pub reading : o.reading ≤ 30000000
  pub form : in_form o.curve ≡ true
  pub prices : All (λ p. nat_abs p.price ≤ 100000) o.curve
  pub few : total o.curve ≤ 1000000

priced : (ps : List Pair) → all price_fits ps ≡ true → All (λ p. nat_abs p.price ≤ 100000) ps
priced [] h = tt
priced (p ∷ ps) h =
    let k = and_first (price_fits p) (all price_fits ps) h in
    (near p.price k, priced ps (and_second (price_fits p) (all price_fits ps) h))
  where
    near : (z : ℤ) → price_fits record { price = z; kw = 0 } ≡ true → nat_abs z ≤ 100000
    near z k = grind (arith, ints)

-- an adjusted price can be a balancing price
pub balancing_near : (z : ℤ) → nat_abs z ≤ 125000 → balancing_fits z ≡ true
balancing_near z h = grind (arith, ints)

module _ (factor tolerance start : ℕ) (s : Submission) (reading : ℕ) (h : station_fits factor tolerance start s reading ≡ true) where
  figures : figures_fit tolerance start reading ≡ true
  figures = and_first (figures_fit tolerance start reading) (submission_fits s) (and_second (factor_fits factor) (figures_fit tolerance start reading && submission_fits s) h)

  curve : curve_fits s.curve ≡ true
  curve =
      and_second (ramp_fits s.ramp_down) (curve_fits s.curve)
      (and_second (ramp_fits s.ramp_up) (ramp_fits s.ramp_down && curve_fits s.curve)
      (and_second (figures_fit tolerance start reading) (submission_fits s) (and_second (factor_fits factor) (figures_fit tolerance start reading && submission_fits s) h)))

  pub fitting : Fits (operates factor tolerance start s reading)
  fitting =
      let f = and_first (factor_fits factor) (figures_fit tolerance start reading && submission_fits s) h in
      let ps = listed s.curve in
      let inner = and_second (curve_in_form s.curve) (all price_fits ps && leb (total ps) 1000000) curve in
      let rest = and_second (leb tolerance 30000000) (leb start 1000000 && leb reading 30000000) figures in
      record {
        low = leb-true 8000 factor (and_first (leb 8000 factor) (leb factor 12500) f);
        high = leb-true factor 12500 (and_second (leb 8000 factor) (leb factor 12500) f);
        start = leb-true start 1000000 (and_first (leb start 1000000) (leb reading 30000000) rest);
        reading = leb-true reading 30000000 (and_second (leb start 1000000) (leb reading 30000000) rest);
        form = and_second (leb s.curve.count 8) (in_form ps) (and_first (curve_in_form s.curve) (all price_fits ps && leb (total ps) 1000000) curve);
        prices = priced ps (and_first (all price_fits ps) (leb (total ps) 1000000) inner);
        few = leb-true (total ps) 1000000 (and_second (all price_fits ps) (leb (total ps) 1000000) inner);
      }

-- ---- its energy out of merit
counted_le : (tolerance x : ℕ) → counted tolerance x ≤ x
counted_le tolerance x = grind (arith, nat_tests)

pub counted_bound : (o : Operation) (P : ℤ) → Fits o → energy_counted o P ≤ 30000000
unfolding out_of_merit
counted_bound o P f =
    let kw = kw_where (λ a. lt_z a P) o.factor o.curve in
    let few : kw ≤ 1000000 = omega (arith, kw_le (λ a. lt_z a P) o.factor o.curve, f.few) in
    let low : lower o P ≤ 30000000 = omega (arith, energy_bound o.start o.up o.down kw 1000000 f.start few) in
    let u : upward o P ≤ 30000000 = omega (arith, counted_le o.tolerance (o.reading - upper o P), f.reading) in
    let d : downward o P ≤ 30000000 = omega (arith, counted_le o.tolerance (lower o P - o.reading)) in
    either (ltb 0 (upward o P)) (ltb 0 (downward o P)) (upward o P) (downward o P) u d
  where
    either : (p q : Bool) (u d : ℕ) → u ≤ 30000000 → d ≤ 30000000 → energy_out (cond p (Upward u) (cond q (Downward d) Neither)) ≤ 30000000
    either true q u d k l = k
    either false true u d k l = l
    either false false u d k l = omega arith

-- ---- its blocks
abbrev pub Near : Block → Type 0
Near b = nat_abs b.price ≤ 125000

from_near : (E : ℕ → ℕ) (factor t : ℕ) (ps : List Pair) → 8000 ≤ factor → All (λ p. nat_abs p.price ≤ 100000) ps → All Near (blocks_from E factor t ps)
from_near E factor t [] l h = tt
from_near E factor t (p ∷ ps) l h = (adjusted_span p.price factor h.0 l, from_near E factor (t + p.kw) ps l h.1)

blocks_near : (o : Operation) (P : ℤ) (m : OutOfMerit) → Fits o → All Near (blocks_for o P m)
blocks_near o P (Upward x) f = all_kept_by (λ b. lt_z P b.price) Near (blocks_from (energy_of o) o.factor 0 o.curve) (from_near (energy_of o) o.factor 0 o.curve f.low f.prices)
blocks_near o P (Downward x) f =
    all_reverse Near (filter (λ b. lt_z b.price P) (blocks_from (energy_of o) o.factor 0 o.curve))
    (all_kept_by (λ b. lt_z b.price P) Near (blocks_from (energy_of o) o.factor 0 o.curve) (from_near (energy_of o) o.factor 0 o.curve f.low f.prices))
blocks_near o P Neither f = tt

pub blocks_of_near : (o : Operation) (P : ℤ) → Fits o → All Near (blocks_of o P)
blocks_of_near o P f = blocks_near o P (out_of_merit o P) f
