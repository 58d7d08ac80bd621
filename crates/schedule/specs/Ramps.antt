-- The ramp from a start level toward a target, and its energy in half an hour.
use Rattle.std.specs.Prelude.{ℕ, zero, suc, ◌+◌, ◌-◌, ◌*◌, min, max, cond, nat_le}

-- f 1 + .. + f n
abbrev pub sum_to : (ℕ → ℕ) → ℕ → ℕ
sum_to f zero = 0
sum_to f (suc n) = sum_to f n + f (suc n)

-- the level of minute m, from the start s toward k
abbrev pub level : ℕ → ℕ → ℕ → ℕ → ℕ → ℕ
level s up down k m = cond (nat_le s k) (min k (s + up * m)) (max k (s - down * m))

-- the sum of the thirty levels
unfoldable pub energy : ℕ → ℕ → ℕ → ℕ → ℕ
energy s up down k = sum_to (level s up down k) 30
