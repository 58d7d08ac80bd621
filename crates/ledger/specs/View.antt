-- The ledger as seen: its accounts, numbered from 0, and its places.
use Rattle.std.specs.Prelude.{ℕ, ◌<◌, ◌≤◌, cond, ℤ, pos, neg_ℤ, ◌≤ℤ◌, Some, None, Option, nat_lt}

-- a place is room for one post; an account's balance may move between its lowest and its highest
pub record View : Type 0 where
  pub count : ℕ
  pub places : ℕ
  pub balance : ℕ → ℤ
  pub lowest : ℕ → ℤ
  pub highest : ℕ → ℤ

-- the end of the span of money, in cents
abbrev pub most : ℤ
most = pos 1000000000000000

abbrev pub InSpan : ℤ → Type 0
InSpan z = (neg_ℤ most ≤ℤ z) × (z ≤ℤ most)

-- the spans that every ledger keeps
pub record Sound (v : View) : Type 0 where
  pub some : 1 ≤ v.count
  pub few : v.count ≤ 64
  pub room : v.places ≤ 65535
  pub balances : (a : ℕ) → a < v.count → InSpan (v.balance a)
  pub lows : (a : ℕ) → a < v.count → InSpan (v.lowest a)
  pub highs : (a : ℕ) → a < v.count → InSpan (v.highest a)

-- an account's figure, nothing for an account that is not there
abbrev pub told : View → (ℕ → ℤ) → ℕ → Option ℤ
told v f a = cond (nat_lt a v.count) (Some (f a)) None
