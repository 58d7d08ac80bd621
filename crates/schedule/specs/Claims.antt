-- What is claimed of these rules.
use Rattle.std.specs.Prelude.{◌≡◌, ℕ, ◌+◌, ◌-◌, ◌<◌, ◌≤◌, true, ◌⊎◌, List, ℤ, pos, ◌≤ℤ◌}
use Rattle.offers.specs.Curves.{in_form}
use Rattle.offers.specs.declared.pair.Pair.{Pair}
use Rattle.schedule.specs.Rounding.{rounded, rounded_natural, adjusted}
use Rattle.schedule.specs.Ramps.{energy, sum_to}
use Rattle.schedule.specs.Blocks.{Division, takes, qualified, cost, block_of, blocks_above, blocks_below}
use Rattle.schedule.specs.Stations.{Operation, energy_of, upper, lower, upward, downward, energy_counted, blocks_of, takes_of, part}
use Rattle.schedule.specs.Levies.{loads_to, share_to, levy}
use Rattle.schedule.specs.declared.block.Block.{Block}

-- Energy never falls as the target rises
abbrev pub EnergyRises : Type 0
EnergyRises = (s up down k k' : ℕ) → k ≤ k' → energy s up down k ≤ energy s up down k'

-- nor does the adjusted price as the price rises
abbrev pub PriceRises : Type 0
PriceRises = (x y : ℤ) (factor : ℕ) → 0 < factor → x ≤ℤ y → adjusted x factor ≤ℤ adjusted y factor

abbrev pub LowerBelowUpper : Type 0
LowerBelowUpper = (o : Operation) (P : ℤ) → lower o P ≤ upper o P

-- so energy never counts in both directions
abbrev pub OneDirection : Type 0
OneDirection = (o : Operation) (P : ℤ) → (upward o P ≡ 0) ⊎ (downward o P ≡ 0)

-- a block's limit is exactly the energy that its pair adds
abbrev pub LimitsExact : Type 0
LimitsExact = (o : Operation) (t : ℕ) (p : Pair) → (block_of (energy_of o) o.factor t p).limit + energy_of o t ≡ energy_of o (t + p.kw)

-- both roundings are one
abbrev pub OneRounding : Type 0
OneRounding = (x m : ℕ) → rounded (pos x) m ≡ pos (rounded_natural x m)

-- The rule's takes of x are a division of it. No division qualifies more, and any that qualifies as much costs at least as much.
abbrev pub Least : ℕ → ℤ → ℕ → List Block → Type 0
Least factor P x bs =
    Division x bs (takes x bs)
    × ((ds : List ℕ) → Division x bs ds →
    (qualified ds ≤ qualified (takes x bs))
    × (qualified ds ≡ qualified (takes x bs) → cost factor P bs (takes x bs) ≤ cost factor P bs ds))

-- in either direction, however the energy of a target is counted
abbrev pub LeastAbove : Type 0
LeastAbove = (E : ℕ → ℕ) (factor : ℕ) (P : ℤ) (ps : List Pair) (x : ℕ) → 0 < factor → in_form ps ≡ true → Least factor P x (blocks_above E factor P ps)

abbrev pub LeastBelow : Type 0
LeastBelow = (E : ℕ → ℕ) (factor : ℕ) (P : ℤ) (ps : List Pair) (x : ℕ) → 0 < factor → in_form ps ≡ true → Least factor P x (blocks_below E factor P ps)

-- the same of what a station was out of merit: nothing compensates it for less
abbrev pub LeastPaid : Operation → ℤ → Type 0
LeastPaid o P =
    Division (energy_counted o P) (blocks_of o P) (takes_of o P)
    × ((ds : List ℕ) → Division (energy_counted o P) (blocks_of o P) ds →
    (qualified ds ≤ qualified (takes_of o P))
    × (qualified ds ≡ qualified (takes_of o P) → part o P ≤ cost o.factor P (blocks_of o P) ds))

abbrev pub LeastCompensation : Type 0
LeastCompensation = (o : Operation) (P : ℤ) → 0 < o.factor → in_form o.curve ≡ true → LeastPaid o P

-- no levy is less than nothing: what is borne up to an account never falls from one to the next
abbrev pub SharesRise : Type 0
SharesRise = (T : ℕ) (ls : List ℕ) (a : ℕ) → 0 < loads_to ls 11 → share_to T ls (a - 1) ≤ share_to T ls a

-- the levies share out the whole total
abbrev pub LeviesShareAll : Type 0
LeviesShareAll = (T : ℕ) (ls : List ℕ) → 0 < loads_to ls 11 → sum_to (levy T ls) 11 ≡ T
