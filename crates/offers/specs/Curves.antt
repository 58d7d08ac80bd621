-- The curve of some pairs: pairs of 0 kW dropped, equal prices merged, by rising price.
use Rattle.std.specs.Prelude.{filter, ℕ, ◌+◌, Bool, true, cond, ◌&&◌, List, [], ◌∷◌, ◌++◌, length, take, drop, replicate, ℤ, pos, Some, None, Option, ◌==◌, int_le, nat_le, nat_lt}
use Rattle.std.specs.Ordering.{int_eq, on, eq_of_both}
use Rattle.std.specs.Cmp.Lexicographic.{pointwise}
use Rattle.ladder.specs.Orders.{ranked, lower_int}
use Rattle.offers.specs.Tests.{all}
use Rattle.offers.specs.declared.pair.Pair.{Pair}
use Rattle.offers.specs.declared.curve.Curve.{Curve}

-- the order of pairs: the lower price ranks first
abbrev pub cheaper : Pair → Pair → Bool
cheaper = lower_int (λ p. p.price)

abbrev pub same_price : Pair → Pair → Bool
same_price p q = int_le p.price q.price && int_le q.price p.price

abbrev pub no_pair : Pair
no_pair = record { price = pos 0; kw = 0 }

-- a figure of each pair, summed
abbrev pub summed : (Pair → ℕ) → List Pair → ℕ
summed f [] = 0
summed f (p ∷ ps) = f p + summed f ps

-- the kW of all pairs
abbrev pub total : List Pair → ℕ
total = summed (λ p. p.kw)

-- what a pair offers at the price z
abbrev pub offered : ℤ → Pair → ℕ
offered z p = cond (int_le z p.price && int_le p.price z) p.kw 0

-- the kW that some pairs offer at the price z
abbrev pub kw_at : ℤ → List Pair → ℕ
kw_at z = summed (offered z)

-- the pairs that offer something
abbrev pub some_kw : Pair → Bool
some_kw p = nat_lt 0 p.kw

abbrev pub offering : List Pair → List Pair
offering = filter some_kw

abbrev pub joined : Pair → Pair → Pair
joined p q = record { price = p.price; kw = p.kw + q.kw }

-- p before the others, and one with the first of them where their prices are equal
abbrev pub glue : Pair → List Pair → List Pair
glue p [] = p ∷ []
glue p (q ∷ qs) = cond (same_price p q) (joined p q ∷ qs) (p ∷ (q ∷ qs))

-- equal prices that stand together, merged
abbrev pub merged : List Pair → List Pair
merged [] = []
merged (p ∷ ps) = glue p (merged ps)

-- the curve of some pairs
abbrev pub curve : List Pair → List Pair
curve ps = merged (ranked cheaper [] (offering ps))

-- p is cheaper than the first of the others
abbrev pub below_next : Pair → List Pair → Bool
below_next p [] = true
below_next p (q ∷ qs) = cheaper p q

-- by rising price, no two equal
abbrev pub rises : List Pair → Bool
rises [] = true
rises (p ∷ ps) = below_next p ps && rises ps

-- pairs as a curve has them
abbrev pub in_form : List Pair → Bool
in_form ps = all some_kw ps && rises ps

-- ---- curves in memory for eight pairs
-- the pairs of a curve
abbrev pub listed : Curve → List Pair
listed c = take c.count c.pairs

abbrev pub padded : List Pair → List Pair
padded xs = xs ++ drop (length xs) (replicate 8 no_pair)

-- a curve with nothing past its pairs
abbrev pub stored : List Pair → Curve
stored xs = record { count = length xs; pairs = padded xs }

-- the curve of at most eight pairs, whose kW together fit 32 bits
abbrev pub curve_of : List Pair → Option Curve
curve_of ps = cond (nat_le (length ps) 8 && nat_le (total ps) 4294967295) (Some (stored (curve ps))) None

-- the curve has at most eight pairs, and they are in form
abbrev pub curve_in_form : Curve → Bool
curve_in_form c = nat_le c.count 8 && in_form (listed c)

-- ---- equality
-- price and kW are equal
abbrev pub same_pair : Pair → Pair → Bool
same_pair = eq_of_both (on (λ p. p.price) int_eq) (on (λ p. p.kw) ◌==◌)

-- pair for pair the same
abbrev pub same_pairs : List Pair → List Pair → Bool
same_pairs = pointwise same_pair

-- both list the same pairs
abbrev pub same_curve : Curve → Curve → Bool
same_curve = on listed same_pairs
