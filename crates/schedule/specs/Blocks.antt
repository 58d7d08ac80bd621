-- Blocks and what they take, over any energy function E of the target.
use Rattle.std.specs.Prelude.{◌≡◌, ℕ, ◌+◌, ◌-◌, ◌*◌, ◌≤◌, min, Bool, cond, List, [], ◌∷◌, ◌++◌, reverse, length, drop, replicate, ℤ, pos, ◌-ℤ◌, filter, int_lt, slice_set, unsigned_abs}
use Rattle.offers.specs.declared.pair.Pair.{Pair}
use Rattle.schedule.specs.Rounding.{adjusted}
use Rattle.schedule.specs.declared.block.Block.{Block}
use Rattle.schedule.specs.declared.block.Taken.{Taken}
use Rattle.schedule.specs.declared.block.Blocks.{Blocks}

-- the kW of the pairs whose adjusted price passes a test
abbrev pub kw_where : (ℤ → Bool) → ℕ → List Pair → ℕ
kw_where test factor [] = 0
kw_where test factor (p ∷ ps) = cond (test (adjusted p.price factor)) p.kw 0 + kw_where test factor ps

-- each answer to a price is that of the test
abbrev pub Tests : (ℤ → Bool → Type 0) → (ℤ → Bool) → Type 0
Tests answers test = (a : ℤ) (b : Bool) → answers a b → b ≡ test a

-- the block of a pair above t kW of cheaper ones: its limit is the energy through it less that of the cheaper ones
abbrev pub block_of : (ℕ → ℕ) → ℕ → ℕ → Pair → Block
block_of E factor t p = record { price = adjusted p.price factor; limit = E (t + p.kw) - E t }

-- the blocks of pairs that stand above t kW of cheaper ones
abbrev pub blocks_from : (ℕ → ℕ) → ℕ → ℕ → List Pair → List Block
blocks_from E factor t [] = []
blocks_from E factor t (p ∷ ps) = block_of E factor t p ∷ blocks_from E factor (t + p.kw) ps

-- those above P, in the curve's order
abbrev pub blocks_above : (ℕ → ℕ) → ℕ → ℤ → List Pair → List Block
blocks_above E factor P ps = filter (λ b. int_lt P b.price) (blocks_from E factor 0 ps)

-- those below P, in reverse
abbrev pub blocks_below : (ℕ → ℕ) → ℕ → ℤ → List Pair → List Block
blocks_below E factor P ps = reverse (filter (λ b. int_lt b.price P) (blocks_from E factor 0 ps))

-- each block takes what is left of x, up to its limit
abbrev pub takes : ℕ → List Block → List ℕ
takes x [] = []
takes x (b ∷ bs) = min x b.limit ∷ takes (x - b.limit) bs

-- what a division qualifies
abbrev pub qualified : List ℕ → ℕ
qualified [] = 0
qualified (d ∷ ds) = d + qualified ds

-- what no block takes
abbrev pub rest : ℕ → List Block → ℕ
rest x bs = x - qualified (takes x bs)

-- block energy × loss factor × distance of the adjusted price from P, unrounded
abbrev pub cost_of : ℕ → ℤ → Block → ℕ → ℕ
cost_of factor P b d = d * factor * unsigned_abs (b.price -ℤ P)

abbrev pub cost : ℕ → ℤ → List Block → List ℕ → ℕ
cost factor P [] ds = 0
cost factor P (b ∷ bs) [] = 0
cost factor P (b ∷ bs) (d ∷ ds) = cost_of factor P b d + cost factor P bs ds

-- a whole figure from 0 to its limit for each block
abbrev pub Within : List Block → List ℕ → Type 0
Within [] [] = Unit {0}
Within [] (d ∷ ds) = ⊥
Within (b ∷ bs) [] = ⊥
Within (b ∷ bs) (d ∷ ds) = (d ≤ b.limit) × Within bs ds

-- a division of x over the blocks
abbrev pub Division : ℕ → List Block → List ℕ → Type 0
Division x bs ds = Within bs ds × (qualified ds ≤ x)

-- ---- blocks in memory for eight
-- each block with its figure
abbrev pub beside : List Block → List ℕ → List Taken
beside [] ds = []
beside (b ∷ bs) [] = []
beside (b ∷ bs) (d ∷ ds) = record { block = b; energy = d } ∷ beside bs ds

abbrev pub no_block : Block
no_block = record { price = pos 0; limit = 0 }

abbrev pub no_taken : Taken
no_taken = record { block = no_block; energy = 0 }

abbrev pub stored : List Taken → ℕ → Blocks
stored ts left = record { count = length ts; taken = ts ++ drop (length ts) (replicate 8 no_taken); rest = left }

-- one more block takes of what is left
abbrev pub took : Blocks → Block → Blocks
took t b = record { count = t.count + 1; taken = slice_set t.taken t.count record { block = b; energy = min t.rest b.limit }; rest = t.rest - b.limit }

-- what all figures cost
abbrev pub costs : ℕ → ℤ → List Taken → ℕ
costs factor P [] = 0
costs factor P (t ∷ ts) = cost_of factor P t.block t.energy + costs factor P ts

abbrev pub energies : List Taken → ℕ
energies [] = 0
energies (t ∷ ts) = t.energy + energies ts

-- the adjusted price of an offer within its span
abbrev pub Priced : Taken → Type 0
Priced t = unsigned_abs t.block.price ≤ 125000

-- x divided over the blocks by the rule
unfoldable pub divided : ℕ → List Block → Blocks
divided x bs = stored (beside bs (takes x bs)) (rest x bs)
