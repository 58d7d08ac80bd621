-- Bounds of the products that make a compensation.
use Rattle.std.proofs.Common.{ℕ, ◌*◌, ◌≤◌, mul-le-mul_left, arith}
use Rattle.std.proofs.lemmas.Nat.{mul-le}

pub weighed : (d f g : ℕ) → f ≤ 12500 → g ≤ 250000 → (d * f ≤ 12500 * d) × (d * f * g ≤ 3125000000 * d)
weighed d f g p q = (omega (arith, mul-le-mul_left d p), omega (arith, mul-le-mul_left d (mul-le f g 12500 250000 p q)))
