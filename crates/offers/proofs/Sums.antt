-- A figure that joins and empties as kW do sums to the same over pairs and over their curve.
use Rattle.std.proofs.Common.{◌≡◌, ℕ, ◌+◌, Bool, true, false, cond, ◌&&◌, List, [], ◌∷◌, ℤ, sum_by, sym, refl, ap, ◌∙◌, arith}
use lib.Signed.{le_z}
use Rattle.std.proofs.lemmas.Bool.Decides.{nat_tests}
use Rattle.std.proofs.lemmas.List.Sums.{sum_by-cons}
use Rattle.std.proofs.lemmas.List.Sorted.{sum_by-IsPermutation}
use Rattle.std.specs.List.Sorted.{IsPermutation}
use Rattle.ladder.specs.Orders.{seated, ranked}
use Rattle.offers.specs.declared.pair.Pair.{Pair}
use Rattle.offers.specs.Curves.{cheaper, offering, same_price, joined, glue, merged, summed, curve, offered}
use Rattle.offers.proofs.Merging.{prices_equal}

module _ (f : Pair → ℕ) where
  summed_seated : (p : Pair) (ps : List Pair) → summed f (seated cheaper p ps) ≡ f p + summed f ps
  summed_seated p [] = refl
  summed_seated p (q ∷ qs) =
      elim (cheaper p q) as (λ b. summed f (cond b (p ∷ (q ∷ qs)) (q ∷ seated cheaper p qs)) ≡ f p + (f q + summed f qs))
      [ true ↦ refl | false ↦ omega (arith, summed_seated p qs) ]

  pub summed_ranked : (ys ps : List Pair) → summed f (ranked cheaper ys ps) ≡ summed f ys + summed f ps
  summed_ranked ys [] = omega arith
  summed_ranked ys (p ∷ ps) = omega (arith, summed_ranked (seated cheaper p ys) ps, summed_seated p ys)

  pub summed_offering : ((p : Pair) → p.kw ≡ 0 → f p ≡ 0) → (ps : List Pair) → summed f (offering ps) ≡ summed f ps
  summed_offering none [] = refl
  summed_offering none (p ∷ ps) = let e = summed_offering none ps in let z = none p in grind (arith, nat_tests)

  module _ (joins : (p q : Pair) → same_price p q ≡ true → f (joined p q) ≡ f p + f q) where
    summed_glue : (p : Pair) (zs : List Pair) → summed f (glue p zs) ≡ f p + summed f zs
    summed_glue p [] = refl
    summed_glue p (m ∷ ms) =
        let Goal : Bool → Type 0 = λ b. same_price p m ≡ b → summed f (cond b (joined p m ∷ ms) (p ∷ (m ∷ ms))) ≡ f p + (f m + summed f ms) in
        let go : Goal (same_price p m) = elim (same_price p m) as Goal [ true ↦ λ s. omega (arith, joins p m s) | false ↦ λ _. refl ] in
        go refl

    summed_merged : (ps : List Pair) → summed f (merged ps) ≡ summed f ps
    summed_merged [] = refl
    summed_merged (p ∷ ps) = omega (arith, summed_glue p (merged ps), summed_merged ps)

    pub summed_curve : ((p : Pair) → p.kw ≡ 0 → f p ≡ 0) → (ps : List Pair) → summed f (curve ps) ≡ summed f ps
    summed_curve none ps =
        summed_merged (ranked cheaper [] (offering ps)) ∙ omega (arith, summed_ranked [] (offering ps), summed_offering none ps)

  -- the sum, in std's word
  pub summed_is : (ps : List Pair) → summed f ps ≡ sum_by f ps
  summed_is [] = refl
  summed_is (p ∷ ps) = ap (λ n. f p + n) (summed_is ps) ∙ sym (sum_by-cons f p ps)

  pub summed_shuffled : (ps qs : List Pair) → IsPermutation ps qs → summed f ps ≡ summed f qs
  summed_shuffled ps qs h = summed_is ps ∙ sym (sum_by-IsPermutation f ps qs h) ∙ sym (summed_is qs)

-- ---- the kW at a price
pub offered_none : (z : ℤ) (p : Pair) → p.kw ≡ 0 → offered z p ≡ 0
offered_none z p h =
    elim (le_z z p.price && le_z p.price z) as (λ b. cond b p.kw 0 ≡ 0) [ true ↦ h | false ↦ refl ]

pub offered_joins : (z : ℤ) (p q : Pair) → same_price p q ≡ true → offered z (joined p q) ≡ offered z p + offered z q
offered_joins z p q s =
    let e = prices_equal p.price q.price s in
    (elim (le_z z p.price && le_z p.price z) as (λ b. cond b (p.kw + q.kw) 0 ≡ cond b p.kw 0 + cond b q.kw 0)
    [ true ↦ refl | false ↦ refl ])
    ∙ ap (λ x. offered z p + cond (le_z z x && le_z x z) q.kw 0) e
