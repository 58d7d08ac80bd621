-- Sums of the kW whose adjusted price passes a test.
use Rattle.std.proofs.Common.{◌≡◌, ℕ, ◌+◌, ◌≤◌, Bool, true, false, cond, List, [], ◌∷◌, ◌++◌, ℤ, refl, arith}
use Rattle.offers.specs.Curves.{total}
use Rattle.offers.specs.declared.pair.Pair.{Pair}
use Rattle.schedule.specs.Rounding.{adjusted}
use Rattle.schedule.specs.Blocks.{kw_where}

pub kw_le : (test : ℤ → Bool) (factor : ℕ) (ps : List Pair) → kw_where test factor ps ≤ total ps
kw_le test factor [] = omega arith
kw_le test factor (p ∷ ps) =
    let ih = kw_le test factor ps in
    let k : cond (test (adjusted p.price factor)) p.kw 0 ≤ p.kw = elim (test (adjusted p.price factor)) as (λ q. cond q p.kw 0 ≤ p.kw) [ true ↦ omega arith | false ↦ omega arith ] in
    omega arith

kw_more : (test : ℤ → Bool) (factor : ℕ) (p : Pair) (kw : ℕ) → kw + cond (test (adjusted p.price factor)) p.kw 0 ≡ cond (test (adjusted p.price factor)) (kw + p.kw) kw
kw_more test factor p kw = elim (test (adjusted p.price factor)) as (λ q. kw + cond q p.kw 0 ≡ cond q (kw + p.kw) kw) [ true ↦ refl | false ↦ omega arith ]

-- one more pair
pub kw_push : (test : ℤ → Bool) (factor : ℕ) (ps : List Pair) (p : Pair) → kw_where test factor (ps ++ p ∷ []) ≡ cond (test (adjusted p.price factor)) (kw_where test factor ps + p.kw) (kw_where test factor ps)
kw_push test factor [] p = omega (arith, kw_more test factor p 0)
kw_push test factor (q ∷ ps) p = omega (arith, kw_push test factor ps p, kw_more test factor p (kw_where test factor ps), kw_more test factor p (kw_where test factor (q ∷ ps)))
