-- The greedy takes are a division, qualify most, and cost least.
use Rattle.std.proofs.Common.{◌≡◌, ℕ, ◌+◌, ◌-◌, ◌*◌, ◌≤◌, min, List, [], ◌∷◌, ℤ, ◌-ℤ◌, nat_abs, ap, mul-le-mul_left, arith}
use Rattle.schedule.specs.declared.block.Block.{Block}
use Rattle.std.specs.List.{AllByRecursion as All}
use Rattle.std.proofs.ByRecursion.{All-weaker}
use Rattle.schedule.specs.Blocks.{takes, qualified, cost, Within, Division}

pub takes_within : (x : ℕ) (bs : List Block) → Within bs (takes x bs)
takes_within x [] = tt
takes_within x (b ∷ bs) = (omega arith, takes_within (x - b.limit) bs)

pub takes_qualified : (x : ℕ) (bs : List Block) → qualified (takes x bs) ≤ x
takes_qualified x [] = omega arith
takes_qualified x (b ∷ bs) = omega (arith, takes_qualified (x - b.limit) bs)

pub takes_divide : (x : ℕ) (bs : List Block) → Division x bs (takes x bs)
takes_divide x bs = (takes_within x bs, takes_qualified x bs)

-- what the blocks can take in all
abbrev room : List Block → ℕ
room [] = 0
room (b ∷ bs) = b.limit + room bs

takes_room : (x : ℕ) (bs : List Block) → qualified (takes x bs) ≡ min x (room bs)
takes_room x [] = omega arith
takes_room x (b ∷ bs) = omega (arith, takes_room (x - b.limit) bs)

within_room : (bs : List Block) (ds : List ℕ) → Within bs ds → qualified ds ≤ room bs
within_room [] [] w = omega arith
within_room [] (d ∷ ds) w = absurd w
within_room (b ∷ bs) [] w = absurd w
within_room (b ∷ bs) (d ∷ ds) w = omega (arith, within_room bs ds w.1)

pub takes_most : (x : ℕ) (bs : List Block) (ds : List ℕ) → Division x bs ds → qualified ds ≤ qualified (takes x bs)
takes_most x bs ds v = omega (arith, takes_room x bs, within_room bs ds v.0)

-- the distance from P
abbrev pub far : ℤ → Block → ℕ
far P b = nat_abs (b.price -ℤ P)

-- nearest first
abbrev pub Outward : ℤ → List Block → Type 0
Outward P [] = Unit {0}
Outward P (b ∷ bs) = All (λ c. far P b ≤ far P c) bs × Outward P bs

-- A division of e more than the takes costs more by at least e at the distance v, which no block is nearer than.
costs_more : (factor : ℕ) (P : ℤ) (x : ℕ) (bs : List Block) (ds : List ℕ) (e v : ℕ) → Within bs ds → Outward P bs → All (λ c. v ≤ far P c) bs
    → qualified ds ≡ qualified (takes x bs) + e → cost factor P bs (takes x bs) + e * factor * v ≤ cost factor P bs ds
costs_more factor P x [] [] e v w o n h =
    let z : e ≡ 0 = omega arith in
    let k : e * factor * v ≡ 0 * factor * v = ap (λ i. i * factor * v) z in omega arith
costs_more factor P x [] (d ∷ ds) e v w o n h = absurd w
costs_more factor P x (b ∷ bs) [] e v w o n h = absurd w
costs_more factor P x (b ∷ bs) (d ∷ ds) e v w o n h =
    let few : qualified (takes (x - b.limit) bs) ≤ x - b.limit = takes_qualified (x - b.limit) bs in
    let more : qualified (takes (x - b.limit) bs) ≤ qualified ds = omega arith in
    let e' = qualified ds - qualified (takes (x - b.limit) bs) in
    let ih = costs_more factor P (x - b.limit) bs ds e' (far P b) w.1 o.1 o.0 (omega arith) in
    let same : d + e' ≡ min x b.limit + e = omega arith in
    let level : (d + e') * factor * far P b ≡ (min x b.limit + e) * factor * far P b = ap (λ i. i * factor * far P b) same in
    let near : e * factor * v ≤ e * factor * far P b = mul-le-mul_left (e * factor) n.0 in
    omega arith

pub costs_least : (factor : ℕ) (P : ℤ) (x : ℕ) (bs : List Block) (ds : List ℕ) → Within bs ds → Outward P bs
    → qualified ds ≡ qualified (takes x bs) → cost factor P bs (takes x bs) ≤ cost factor P bs ds
costs_least factor P x bs ds w o h =
    omega (arith, costs_more factor P x bs ds 0 0 w o (All-weaker (λ _. Unit {0}) (λ c. 0 ≤ far P c) (λ c _. omega arith) bs (everything bs)) (omega arith))
  where
    everything : (bs : List Block) → All (λ _. Unit {0}) bs
    everything [] = tt
    everything (b ∷ bs) = (tt, everything bs)
