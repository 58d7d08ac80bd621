-- Bounds of the amounts, and of the products that they come from.
use Rattle.std.proofs.Common.{◌≡◌, ℕ, zero, suc, ◌*◌, ◌≤◌, ℤ, pos, negsuc, ◌+ℤ◌, ◌*ℤ◌, neg_ℤ, nat_abs, refl, arith, w64, SFits}
use Rattle.std.proofs.lemmas.Nat.{mul-le}
use Rattle.std.proofs.lemmas.Int.{ints}
use Rattle.schedule.specs.Rounding.{rounded, rounded_natural, M}
use Rattle.schedule.proofs.Rising.{euclid_low, euclid_high}

abs_neg : (n : ℕ) → nat_abs (neg_ℤ (pos n)) ≡ n
abs_neg zero = refl
abs_neg (suc n) = refl

nat_abs_mul : (a b : ℤ) → nat_abs (a *ℤ b) ≡ nat_abs a * nat_abs b
nat_abs_mul (pos a) (pos b) = refl
nat_abs_mul (pos a) (negsuc b) = abs_neg (a * suc b)
nat_abs_mul (negsuc a) (pos b) = abs_neg (suc a * b)
nat_abs_mul (negsuc a) (negsuc b) = refl

pub product_bound : (a b : ℤ) (A B : ℕ) → nat_abs a ≤ A → nat_abs b ≤ B → nat_abs (a *ℤ b) ≤ A * B
product_bound a b A B p q = omega (arith, nat_abs_mul a b, mul-le (nat_abs a) (nat_abs b) A B p q)

pub fits : (z : ℤ) → nat_abs z ≤ 750000000000000000 → SFits w64 z
fits z h = omega (arith, ints)

pub rounded_bound : (x : ℤ) → nat_abs x ≤ 750000000000000000 → nat_abs (rounded x M) ≤ 1250000000
unfolding rounded
rounded_bound x h =
    let z = pos 2 *ℤ x +ℤ pos 600000000 in
    let low = euclid_low z 1200000000 1250000000 (omega arith) (omega (arith, ints)) in
    let high = euclid_high z 1200000000 1250000000 (omega arith) (omega (arith, ints)) in
    omega (arith, ints)

pub rounded_natural_bound : (x : ℕ) → x ≤ 1125000000000000000 → rounded_natural x M ≤ 1875000000
unfolding rounded_natural
rounded_natural_bound x h = omega arith
