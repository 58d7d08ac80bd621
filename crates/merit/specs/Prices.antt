-- The balancing price and the marginal facility.
use Rattle.std.specs.Prelude.{ℕ, ◌+◌, ◌-◌, Bool, cond, List, [], ◌∷◌, map, ℤ, Some, None, Option, int_le, int_lt, nat_le}
use Rattle.sheets.specs.declared.facility.Facility.{Facility}
use Rattle.sheets.specs.declared.row.Figures.{Figures}
use Rattle.merit.specs.declared.rung.Rung.{Rung}
use Rattle.merit.specs.Rungs.{merit_order, offers_of}

-- the kW of all rungs
abbrev pub total : List Rung → ℕ
total [] = 0
total (r ∷ rs) = r.kw + total rs

-- the kW on offer at or below a price
abbrev pub offered : ℤ → List Rung → ℕ
offered p [] = 0
offered p (r ∷ rs) = cond (int_le r.price p) r.kw 0 + offered p rs

-- the lower of a price and one that there may be
abbrev pub lesser : ℤ → Option ℤ → Option ℤ
lesser p None = Some p
lesser p (Some q) = cond (int_lt q p) (Some q) (Some p)

-- the least of the prices that pass a test
abbrev pub least_of : (ℤ → Bool) → List ℤ → Option ℤ
least_of test [] = None
least_of test (p ∷ ps) = cond (test p) (lesser p (least_of test ps)) (least_of test ps)

-- the balancing price: the least adjusted price at or below which the offers reach the demand
unfoldable pub balancing : List Rung → ℕ → Option ℤ
balancing os d = least_of (λ p. nat_le d (offered p os)) (map (λ r. r.price) os)

-- the first of some rungs at which the running total reaches the demand
abbrev pub marginal : List Rung → ℕ → Option Rung
marginal [] d = None
marginal (r ∷ rs) d = cond (nat_le d r.kw) (Some r) (marginal rs (d - r.kw))

-- a price, and the facility that owns a rung
abbrev pub owned : Option ℤ → Option Rung → Option (ℤ × ℕ)
owned None o = None
owned (Some p) None = None
owned (Some p) (Some m) = Some (p, m.facility)

-- balancing price and marginal facility of some offers at a demand; nothing where they do not reach it
unfoldable pub priced : List Rung → ℕ → Option (ℤ × ℕ)
priced os d = owned (balancing os d) (marginal (merit_order os) d)

-- the same of a sheet: nothing without a demand
abbrev pub priced_at : List Facility → List Figures → Option ℕ → Option (ℤ × ℕ)
priced_at fs gs None = None
priced_at fs gs (Some d) = priced (offers_of fs gs) d
