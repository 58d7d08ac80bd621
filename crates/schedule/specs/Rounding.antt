-- Rounded quotients, and a price as losses adjust it.
use Rattle.std.specs.Prelude.{ℕ, ◌+◌, ◌*◌, ◌/◌, ℤ, pos, ◌+ℤ◌, ◌*ℤ◌}
use Rattle.std.specs.Int.{int_div_euclid}

-- x over m, rounded: floor((2x + m) / 2m)
unfoldable pub rounded : ℤ → ℕ → ℤ
rounded x m = int_div_euclid (pos 2 *ℤ x +ℤ pos m) (pos (2 * m))

-- the same of what is never negative
unfoldable pub rounded_natural : ℕ → ℕ → ℕ
rounded_natural x m = (2 * x + m) / (2 * m)

-- the adjusted price: 10,000 × price over the loss factor, rounded
unfoldable pub adjusted : ℤ → ℕ → ℤ
adjusted price factor = rounded (pos 10000 *ℤ price) factor

-- kWmin × ten-thousandths × cents per MWh in one cent
abbrev pub M : ℕ
M = 600000000
