-- Blocks that take one after another.
use Rattle.std.proofs.Common.{◌≡◌, ℕ, ◌+◌, ◌-◌, ◌<◌, ◌≤◌, min, Bool, true, false, cond, List, [], ◌∷◌, ◌++◌, reverse, length, get_or, take, drop, set, replicate, ℤ, filter, sym, refl, ap, ◌∙◌, subst, arith}
use Rattle.std.specs.List.{AllByRecursion as All}
use Rattle.std.proofs.lemmas.List.{append-nil, append_assoc, length-append, at_drop_more, take_at, reverse-append, length-replicate}
use Rattle.std.proofs.lemmas.List.Sums.{length-filter, count_by-le-length}
use Rattle.std.proofs.lemmas.List.Elements.{filter-append}
use Rattle.schedule.specs.Blocks as blocks
use Rattle.schedule.specs.Blocks.{takes, qualified, cost, costs, energies, beside, stored, took, divided, no_taken}
use Rattle.schedule.specs.declared.block.Block.{Block}
use Rattle.schedule.specs.declared.block.Taken.{Taken}
use Rattle.schedule.specs.declared.block.Blocks.{Blocks}
use Rattle.schedule.proofs.Laying.{push_laid}

took_stored : (front : List Taken) (x : ℕ) (b : Block) → length front < 8
    → took (stored front x) b ≡ stored (front ++ record { block = b; energy = min x b.limit } ∷ []) (x - b.limit)
took_stored front x b h =
    let e : Taken = record { block = b; energy = min x b.limit } in
    let n : length front + 1 ≡ length (front ++ e ∷ []) = sym (length-append front (e ∷ [])) in
    let s : set (front ++ drop (length front) (replicate 8 no_taken)) (length front) e ≡ (front ++ e ∷ []) ++ drop (length front + 1) (replicate 8 no_taken) =
    push_laid front (replicate 8 no_taken) (length front) e refl (omega (arith, length-replicate 8 no_taken)) in
    let s' = s ∙ ap (λ k. (front ++ e ∷ []) ++ drop k (replicate 8 no_taken)) n in
    (λ i. record { count = n i; taken = s' i; rest = x - b.limit })

-- t came from x at the blocks bs, of which those in later are to come
pub record Dividing (x : ℕ) (bs : List Block) (t : Blocks) (later : List Block) : Type 0 where
  pub front : List Taken
  pub over : ℕ
  pub held : t ≡ stored front over
  pub whole : front ++ beside later (takes over later) ≡ beside bs (takes x bs)
  pub left : over - qualified (takes over later) ≡ x - qualified (takes x bs)
  pub room : length front + length later ≤ 8

pub dividing_none : (x : ℕ) (bs : List Block) (t : Blocks) → t ≡ stored [] x → length bs ≤ 8 → Dividing x bs t bs
dividing_none x bs t e h = record { front = []; over = x; held = e; whole = refl; left = refl; room = omega arith }

pub dividing_all : (x : ℕ) (bs : List Block) (t : Blocks) → Dividing x bs t [] → t ≡ divided x bs
unfolding divided
dividing_all x bs t d =
    let w : d.front ≡ beside bs (takes x bs) = sym (append-nil d.front) ∙ d.whole in
    let l : d.over ≡ blocks.rest x bs = omega (arith, d.left) in
    d.held ∙ (λ i. stored (w i) (l i))

dividing_more : (x : ℕ) (bs : List Block) (t u : Blocks) (b : Block) (later : List Block) → Dividing x bs t (b ∷ later) → u ≡ took t b → Dividing x bs u later
dividing_more x bs t u b later d e =
    let taken : Taken = record { block = b; energy = min d.over b.limit } in
    let r = d.room in
    record {
      front = d.front ++ taken ∷ [];
      over = d.over - b.limit;
      held = e ∙ ap (λ s. took s b) d.held ∙ took_stored d.front d.over b (omega arith);
      whole = append_assoc d.front (taken ∷ []) (beside later (takes (d.over - b.limit) later)) ∙ d.whole;
      left = omega (arith, d.left);
      room = omega (arith, length-append d.front (taken ∷ []));
    }

-- a turn at the block b, by a test
module _ (x : ℕ) (bs : List Block) (t : Blocks) (b : Block) (test : Bool) (now later : List Block) (met : now ≡ cond test (b ∷ later) later) (came : Dividing x bs t now) where
  at_b : test ≡ true → Dividing x bs t (b ∷ later)
  at_b e = subst (Dividing x bs t) (met ∙ ap (λ q. cond q (b ∷ later) later) e) came

  pub turn_takes : test ≡ true → (u : Blocks) → u ≡ took t b → Dividing x bs u later
  turn_takes e u k = dividing_more x bs t u b later (at_b e) k

  pub turn_skips : test ≡ false → Dividing x bs t later
  turn_skips e = subst (Dividing x bs t) (met ∙ ap (λ q. cond q (b ∷ later) later) e) came

pub kept_few : (p : Block → Bool) (bs : List Block) → length bs ≤ 8 → length (filter p bs) ≤ 8
kept_few p bs h = omega (arith, length-filter p bs, count_by-le-length p bs)

-- the block at i, first of those that are left from the front
pub kept_first : (p : Block → Bool) (bs : List Block) (i : ℕ) (d : Block) → i < length bs
    → filter p (drop i bs) ≡ cond (p (get_or bs i d)) (get_or bs i d ∷ filter p (drop (i + 1) bs)) (filter p (drop (i + 1) bs))
kept_first p bs i d h = at_drop_more (filter p) bs i d h

one_first : (q : Bool) (b : Block) (bs : List Block) → reverse bs ++ cond q (b ∷ []) [] ≡ reverse (cond q (b ∷ bs) bs)
one_first true b bs = sym (reverse-append (b ∷ []) bs)
one_first false b bs = append-nil (reverse bs)

-- what a test keeps of blocks that are turned round
pub filter-reverse : (p : Block → Bool) (bs : List Block) → filter p (reverse bs) ≡ reverse (filter p bs)
filter-reverse p [] = refl
filter-reverse p (b ∷ bs) =
    ap (filter p) (reverse-append (b ∷ []) bs) ∙ filter-append p (reverse bs) (b ∷ []) ∙ ap (λ l. l ++ cond (p b) (b ∷ []) []) (filter-reverse p bs) ∙ one_first (p b) b (filter p bs)

-- ---- what is stored
pub listed_stored : (ts : List Taken) (x : ℕ) → take (stored ts x).count (stored ts x).taken ≡ ts
listed_stored ts x = take_at ts (drop (length ts) (replicate 8 no_taken)) (length ts) refl

pub costs_beside : (factor : ℕ) (P : ℤ) (bs : List Block) (ds : List ℕ) → costs factor P (beside bs ds) ≡ cost factor P bs ds
costs_beside factor P [] ds = refl
costs_beside factor P (b ∷ bs) [] = refl
costs_beside factor P (b ∷ bs) (d ∷ ds) = ap (λ n. blocks.cost_of factor P b d + n) (costs_beside factor P bs ds)

pub energies_beside : (bs : List Block) (ds : List ℕ) → energies (beside bs ds) ≤ qualified ds
energies_beside [] ds = omega arith
energies_beside (b ∷ bs) [] = omega arith
energies_beside (b ∷ bs) (d ∷ ds) = omega (arith, energies_beside bs ds)

pub all_beside : (Q : Block → Type 0) (bs : List Block) (ds : List ℕ) → All Q bs → All (λ t. Q t.block) (beside bs ds)
all_beside Q [] ds h = tt
all_beside Q (b ∷ bs) [] h = tt
all_beside Q (b ∷ bs) (d ∷ ds) h = (h.0, all_beside Q bs ds h.1)

pub listed_divided : (x : ℕ) (bs : List Block) (t : Blocks) → t ≡ divided x bs → take t.count t.taken ≡ beside bs (takes x bs)
unfolding divided
listed_divided x bs t e = ap (λ s. take s.count s.taken) e ∙ listed_stored (beside bs (takes x bs)) (blocks.rest x bs)
