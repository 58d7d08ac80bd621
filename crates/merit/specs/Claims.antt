-- What is claimed of the merit order and the balancing price, for all offers.
use Rattle.std.specs.Prelude.{◌≡◌, ℕ, ◌+◌, ◌<◌, ◌≤◌, Bool, true, ◌⊎◌, List, [], ◌∷◌, ◌++◌, length, ℤ, ◌≤ℤ◌, is_some, Some, None, filter, ◌==◌, ◌≢◌, slice_index_or}
use Rattle.std.specs.List.Sorted.{IsPermutation}
use Rattle.ladder.specs.Orders.{InOrder}
use Rattle.sheets.specs.declared.facility.Facility.{Facility}
use Rattle.sheets.specs.declared.row.Figures.{Figures}
use Rattle.sheets.specs.declared.register.Register.{Register}
use Rattle.sheets.specs.declared.row.Row.{Row}
use Rattle.sheets.specs.declared.row.State.TheVariants.{Open}
use Rattle.sheets.specs.Held.{known}
use Rattle.sheets.specs.Changes.{table}
use Rattle.sheets.specs.Sheets.{sheet_sound, offers, no_facility, no_figures}
use Rattle.merit.specs.declared.rung.Rung.{Rung}
use Rattle.merit.specs.Rungs.{before, curve, rungs_from, offers_of, merit_order}
use Rattle.merit.specs.Prices.{total, offered, balancing, marginal, priced, priced_at}

-- some rung has the price p
abbrev pub Asked : ℤ → List Rung → Type 0
Asked p [] = ⊥
Asked p (r ∷ rs) = (r.price ≡ p) ⊎ Asked p rs

-- p is the price of some offer, the offers at or below p reach d, and no lower price does it
pub record Balances (os : List Rung) (d : ℕ) (p : ℤ) : Type 0 where
  pub asked : Asked p os
  pub enough : d ≤ offered p os
  pub least : (q : ℤ) → d ≤ offered q os → p ≤ℤ q

-- the rungs ahead of m are short of d, and with m they reach it
pub record Marginal (rs : List Rung) (d : ℕ) (m : Rung) : Type 0 where
  pub ahead : List Rung
  pub behind : List Rung
  pub place : rs ≡ ahead ++ (m ∷ behind)
  pub short : total ahead < d
  pub reached : d ≤ total ahead + m.kw

-- each of the two facts gives the other
abbrev pub Exactly : Type 0 → Type 0 → Type 0
Exactly P Q = (P → Q) × (Q → P)

abbrev pub LeastPrice : Type 0
LeastPrice = (os : List Rung) (d : ℕ) (p : ℤ) → 0 < d → Exactly (balancing os d ≡ Some p) (Balances os d p)

-- there is a price exactly where the offers total at least the demand
abbrev pub ReachedExactly : Type 0
ReachedExactly = (os : List Rung) (d : ℕ) → 0 < d → Exactly (balancing os d ≡ None) (total os < d)

abbrev pub MarginalFirst : Type 0
MarginalFirst = (rs : List Rung) (d : ℕ) (m : Rung) → 0 < d → Exactly (marginal rs d ≡ Some m) (Marginal rs d m)

-- the marginal rung of the merit order is offered at the balancing price
abbrev pub MarginalPrice : Type 0
MarginalPrice = (os : List Rung) (d : ℕ) (m : Rung) → 0 < d → marginal (merit_order os) d ≡ Some m → balancing os d ≡ Some m.price

-- price and facility are answered together, or neither is
abbrev pub PricedExactly : Type 0
PricedExactly = (os : List Rung) (d : ℕ) → 0 < d →
    Exactly (priced os d ≡ None) (total os < d)
    × ((p : ℤ) (f : ℕ) → priced os d ≡ Some (p, f) → Balances os d p × ((m : Rung) × (Marginal (merit_order os) d m × (m.facility ≡ f))))

-- the merit order stands in rank order, and has each offer as often as it was made
abbrev pub MeritOrder : Type 0
MeritOrder = (os : List Rung) → InOrder before (merit_order os) × IsPermutation os (merit_order os)

-- the pairs of all curves, counted
abbrev pub pairs_in : List Figures → ℕ
pairs_in [] = 0
pairs_in (g ∷ gs) = length (curve g.submission) + pairs_in gs

abbrev pub owned_by : ℕ → Rung → Bool
owned_by n r = r.facility == n

-- the rungs with one facility's number are those of its curve, pair by pair; there are as many as all curves have pairs,
-- with the kW of all offers
abbrev pub EachPairOnce : Type 0
EachPairOnce = (fs : List Facility) (gs : List Figures) → length fs ≡ length gs →
    ((i : ℕ) → i < length fs → filter (owned_by (i + 1)) (offers_of fs gs) ≡ rungs_from (slice_index_or fs i no_facility) (i + 1) 1 (curve (slice_index_or gs i no_figures).submission))
    × ((length (offers_of fs gs) ≡ pairs_in gs) × (total (offers_of fs gs) ≡ offers gs))

-- a sheet past close has a price
abbrev pub PastClose : Type 0
PastClose = (g : Register) (r : Row) → sheet_sound (known g) g.prices r ≡ true → (r.state ≢ Open) → is_some (priced_at (known g) (table g r) r.demand) ≡ true
