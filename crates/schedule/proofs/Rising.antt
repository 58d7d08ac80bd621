-- Energy never falls as the target rises, nor the adjusted price as the price rises.
use Rattle.std.proofs.Common.{◌≡◌, ℕ, zero, suc, ◌+◌, ◌-◌, ◌*◌, ◌/◌, ◌<◌, ◌≤◌, List, [], ◌∷◌, ℤ, pos, negsuc, ◌+ℤ◌, ◌*ℤ◌, neg_ℤ, nat_abs, ◌≤ℤ◌, ◌<ℤ◌, inl, inr, ⊎_elim, div-mul-le_self, arith}
use lib.Signed.{lt_z, le_z}
use Rattle.std.specs.Int.{int_div_euclid}
use Rattle.std.proofs.lemmas.Int.{ints}
use Rattle.std.proofs.lemmas.Bool.Decides.{nat_tests}
use Rattle.std.proofs.lemmas.Nat.{le-div, div_below}
use native.Mathlib.Nat.{div-zero}
use Rattle.std.proofs.lemmas.Bool.{cases_lt}
use Rattle.schedule.specs.Rounding.{rounded, adjusted}
use Rattle.schedule.specs.Ramps.{sum_to, level, energy}
use Rattle.schedule.specs.Blocks.{kw_where, block_of}
use Rattle.schedule.specs.Stations.{upper, lower, counted}
use Rattle.schedule.specs.Claims.{EnergyRises, PriceRises, LowerBelowUpper, OneDirection}
use Rattle.offers.specs.declared.pair.Pair.{Pair}

pub level_rises : (s up down k k' m : ℕ) → k ≤ k' → level s up down k m ≤ level s up down k' m
level_rises s up down k k' m h = grind (arith, nat_tests)

pub sum_to_le : (f g : ℕ → ℕ) → ((m : ℕ) → f m ≤ g m) → (n : ℕ) → sum_to f n ≤ sum_to g n
sum_to_le f g h zero = omega arith
sum_to_le f g h (suc n) = omega (arith, sum_to_le f g h n, h (suc n))

pub energy_rises : EnergyRises
unfolding energy
energy_rises s up down k k' h = sum_to_le (level s up down k) (level s up down k') (λ m. level_rises s up down k k' m h) 30

pub quotient_rises : (a b m : ℕ) → a ≤ b → a / m ≤ b / m
quotient_rises a b zero h = omega (arith, div-zero a)
quotient_rises a b (suc m) h = le-div (a / suc m) b (suc m) (omega arith) (omega (arith, div-mul-le_self a (suc m)))

pub euclid_rises : (x y : ℤ) (m : ℕ) → x ≤ℤ y → int_div_euclid x (pos m) ≤ℤ int_div_euclid y (pos m)
euclid_rises (pos a) (pos b) m h = let k : a ≤ b = omega (arith, ints) in omega (arith, ints, quotient_rises a b m k)
euclid_rises (pos a) (negsuc b) m h = absurd (omega (arith, ints))
euclid_rises (negsuc a) (pos b) m h = omega (arith, ints)
euclid_rises (negsuc a) (negsuc b) m h = let k : b ≤ a = omega (arith, ints) in omega (arith, ints, quotient_rises b a m k)

pub rounded_rises : (x y : ℤ) (m : ℕ) → x ≤ℤ y → rounded x m ≤ℤ rounded y m
unfolding rounded
rounded_rises x y m h = euclid_rises (pos 2 *ℤ x +ℤ pos m) (pos 2 *ℤ y +ℤ pos m) (2 * m) (omega (arith, ints))

pub price_rises : PriceRises
unfolding adjusted
price_rises x y m f h = rounded_rises (pos 10000 *ℤ x) (pos 10000 *ℤ y) m (omega (arith, ints))

kw_le : (P : ℤ) (factor : ℕ) (ps : List Pair) → kw_where (λ a. lt_z a P) factor ps ≤ kw_where (λ a. le_z a P) factor ps
kw_le P factor [] = omega arith
kw_le P factor (p ∷ ps) = let ih = kw_le P factor ps in grind (arith, ints)

pub lower_below_upper : LowerBelowUpper
lower_below_upper s P = energy_rises s.start s.up s.down (kw_where (λ a. lt_z a P) s.factor s.curve) (kw_where (λ a. le_z a P) s.factor s.curve) (kw_le P s.factor s.curve)

pub one_direction : OneDirection
one_direction o P =
    let h = lower_below_upper o P in
    ⊎_elim (λ (l : upper o P < o.reading). inr (nothing o.tolerance (lower o P) o.reading (omega arith)))
    (λ (l : o.reading ≤ upper o P). inl (nothing o.tolerance o.reading (upper o P) l)) (cases_lt (upper o P) o.reading)
  where
    nothing : (tolerance a b : ℕ) → a ≤ b → counted tolerance (a - b) ≡ 0
    nothing tolerance a b l = grind (arith, nat_tests)

-- bounds of a quotient
pub euclid_low : (z : ℤ) (k m : ℕ) → 0 < k → neg_ℤ (pos (m * k)) ≤ℤ z → neg_ℤ (pos m) ≤ℤ int_div_euclid z (pos k)
euclid_low (pos n) k m p h = omega (arith, ints)
euclid_low (negsuc n) k m p h = let l : n < m * k = omega (arith, ints) in omega (arith, ints, div_below n k m p l)

pub euclid_high : (z : ℤ) (k m : ℕ) → 0 < k → z <ℤ pos ((m + 1) * k) → int_div_euclid z (pos k) ≤ℤ pos m
euclid_high (pos n) k m p h = let l : n < (m + 1) * k = omega (arith, ints) in omega (arith, ints, div_below n k (m + 1) p l)
euclid_high (negsuc n) k m p h = omega (arith, ints)

-- prices within a span, adjusted by a loss factor that is not too small
pub adjusted_span : (x : ℤ) (factor : ℕ) → nat_abs x ≤ 100000 → 8000 ≤ factor → nat_abs (adjusted x factor) ≤ 125000
unfolding adjusted rounded
adjusted_span x factor h k =
    let z = pos 2 *ℤ (pos 10000 *ℤ x) +ℤ pos factor in
    let low = euclid_low z (2 * factor) 125000 (omega arith) (omega (arith, ints)) in
    let high = euclid_high z (2 * factor) 125000 (omega arith) (omega (arith, ints)) in
    omega (arith, ints)

-- the ramp stays between its ends
pub level_bound : (s up down k m B : ℕ) → s ≤ B → k ≤ B → level s up down k m ≤ B
level_bound s up down k m B p q = grind (arith, nat_tests)

sum_to_bound : (f : ℕ → ℕ) (B : ℕ) → ((m : ℕ) → f m ≤ B) → (n : ℕ) → sum_to f n ≤ n * B
sum_to_bound f B h zero = omega arith
sum_to_bound f B h (suc n) = omega (arith, sum_to_bound f B h n, h (suc n))

pub energy_bound : (s up down k B : ℕ) → s ≤ B → k ≤ B → energy s up down k ≤ 30 * B
unfolding energy
energy_bound s up down k B p q = sum_to_bound (level s up down k) B (λ m. level_bound s up down k m B p q) 30

-- a block's limit is exactly the energy that its pair adds, for every energy that rises with its target
pub limit_exact : (E : ℕ → ℕ) → ((k k' : ℕ) → k ≤ k' → E k ≤ E k') → (factor t : ℕ) (p : Pair) → (block_of E factor t p).limit + E t ≡ E (t + p.kw)
limit_exact E h factor t p = omega (arith, h t (t + p.kw) (omega arith))
