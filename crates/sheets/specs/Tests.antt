-- Tests of figures, and of figures in lists.
use Rattle.std.specs.Prelude.{ℕ, Bool, true, false, ◌&&◌, List, [], ◌∷◌, ℤ, Some, None, Option, int_le, nat_le}
use Rattle.offers.specs.Tests.{all}

abbrev pub within : ℕ → ℕ → ℕ → Bool
within lo x hi = nat_le lo x && nat_le x hi

abbrev pub within_int : ℤ → ℤ → ℤ → Bool
within_int lo x hi = int_le lo x && int_le x hi

-- absent, or present and passing
abbrev pub if_some : {X : Type 0} → (X → Bool) → Option X → Bool
if_some p None = true
if_some p (Some x) = p x

abbrev pub every : List Bool → Bool
every = all (λ b. b)

-- of each of the first list with what stands at its place in the second
abbrev pub all2 : {X Y : Type 0} → (X → Y → Bool) → List X → List Y → Bool
all2 p [] ys = true
all2 p (x ∷ xs) [] = false
all2 p (x ∷ xs) (y ∷ ys) = p x y && all2 p xs ys
