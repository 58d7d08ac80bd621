-- The levy: a total shared out over the loads of accounts 1..11 by telescoping floors.
use Rattle.std.specs.Prelude.{ℕ, ◌-◌, ◌*◌, ◌/◌, cond, ◌&&◌, List, take, Some, None, sum, Option, nat_le, nat_lt}

-- the loads of accounts 1..a
abbrev pub loads_to : List ℕ → ℕ → ℕ
loads_to ls a = sum (take a ls)

-- what of the total they bear
unfoldable pub share_to : ℕ → List ℕ → ℕ → ℕ
share_to T ls a = T * loads_to ls a / loads_to ls 11

-- what account a bears
abbrev pub levy : ℕ → List ℕ → ℕ → ℕ
levy T ls a = share_to T ls a - share_to T ls (a - 1)

-- nothing for an account past the eleven, or where nobody has a load
abbrev pub levy_of : ℕ → List ℕ → ℕ → Option ℕ
levy_of T ls a = cond (nat_le 1 a && (nat_le a 11 && nat_lt 0 (loads_to ls 11))) (Some (levy T ls a)) None
