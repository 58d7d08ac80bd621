-- A curve is in form.
use Rattle.std.proofs.Common.{◌≡◌, ℕ, ◌≤◌, Bool, true, false, cond, ◌&&◌, ltb, leb, List, [], ◌∷◌, length, refl, ap, ◌∙◌, arith}
use lib.Signed.{lt_z}
use Rattle.std.proofs.lemmas.Int.{ints}
use Rattle.std.proofs.lemmas.Bool.Decides.{nat_tests}
use Rattle.ladder.specs.Orders.{seated, ranked, InOrder, Upto}
use Rattle.ladder.proofs.Sorting.{ranked_in_order, length_ranked}
use Rattle.ladder.proofs.Totals.{lower_int_total}
use Rattle.offers.specs.declared.pair.Pair.{Pair}
use Rattle.offers.specs.Tests.{all}
use Rattle.offers.specs.Curves.{cheaper, offering, same_price, joined, glue, merged, total, curve, rises, below_next}
use Rattle.offers.proofs.Tests.{and_first, and_second, and_both}
use Rattle.offers.proofs.Merging.{prices_equal}
use Rattle.offers.proofs.Curving.{length_merged, length_offering}

-- ---- rising prices
-- the first of the merged pairs has the first price
price_kept : (p : Pair) (zs : List Pair) (q : Pair) → below_next q (glue p zs) ≡ cheaper q p
price_kept p [] q = refl
price_kept p (m ∷ ms) q = elim (same_price p m) as (λ b. below_next q (cond b (joined p m ∷ ms) (p ∷ (m ∷ ms))) ≡ cheaper q p) [ true ↦ refl | false ↦ refl ]

-- two prices in order are equal, or rise
in_order : (p q : Pair) → Upto cheaper p q → same_price p q ≡ false → cheaper p q ≡ true
in_order p q u s = grind (arith, ints)

below_same : (a b : Pair) (xs : List Pair) → a.price ≡ b.price → below_next a xs ≡ below_next b xs
below_same a b [] e = refl
below_same a b (y ∷ ys) e = ap (λ z. lt_z z y.price) e

rises_front : (p x : Pair) (xs : List Pair) → Upto cheaper p x → rises (x ∷ xs) ≡ true → rises (glue p (x ∷ xs)) ≡ true
rises_front p x xs u h =
    let Goal : Bool → Type 0 = λ b. same_price p x ≡ b → rises (cond b (joined p x ∷ xs) (p ∷ (x ∷ xs))) ≡ true in
    let go : Goal (same_price p x) = elim (same_price p x) as Goal [
      | true ↦ λ s. ap (λ b. b && rises xs) (below_same (joined p x) x xs (prices_equal p.price x.price s)) ∙ h
      | false ↦ λ s. and_both (cheaper p x) (rises (x ∷ xs)) (in_order p x u s) h
    ] in
    go refl

rises_glue : (p q : Pair) (zs : List Pair) → Upto cheaper p q → rises (glue q zs) ≡ true → rises (glue p (glue q zs)) ≡ true
rises_glue p q [] u h = rises_front p q [] u h
rises_glue p q (m ∷ ms) u h =
    let Goal : Bool → Type 0 = λ b. rises (cond b (joined q m ∷ ms) (q ∷ (m ∷ ms))) ≡ true → rises (glue p (cond b (joined q m ∷ ms) (q ∷ (m ∷ ms)))) ≡ true in
    let go : Goal (same_price q m) = elim (same_price q m) as Goal
    [ true ↦ rises_front p (joined q m) ms u | false ↦ rises_front p q (m ∷ ms) u ] in
    go h

pub rises_merged : (ps : List Pair) → InOrder cheaper ps → rises (merged ps) ≡ true
rises_merged [] o = refl
rises_merged (p ∷ []) o = refl
rises_merged (p ∷ (q ∷ qs)) o = rises_glue p q (merged qs) o.0.0 (rises_merged (q ∷ qs) o.1)

pub rises_curve : (ps : List Pair) → rises (curve ps) ≡ true
rises_curve ps = rises_merged (ranked cheaper [] (offering ps)) (ranked_in_order cheaper (lower_int_total (λ (p : Pair). p.price)).one (lower_int_total (λ (p : Pair). p.price)).chain [] (offering ps) tt)

pub length_curve : (ps : List Pair) → length (curve ps) ≤ length ps
length_curve ps = omega (arith, length_merged (ranked cheaper [] (offering ps)), length_ranked cheaper [] (offering ps), length_offering ps)

-- ---- what holds of each pair
module _ (P : Pair → Bool) where
  all_seated : (p : Pair) (ps : List Pair) → P p ≡ true → all P ps ≡ true → all P (seated cheaper p ps) ≡ true
  all_seated p [] h k = and_both (P p) true h refl
  all_seated p (q ∷ qs) h k =
      elim (cheaper p q) as (λ b. all P (cond b (p ∷ (q ∷ qs)) (q ∷ seated cheaper p qs)) ≡ true) [
        | true ↦ and_both (P p) _ h k
        | false ↦ and_both (P q) _ (and_first (P q) _ k) (all_seated p qs h (and_second (P q) _ k))
      ]

  all_ranked : (ys ps : List Pair) → all P ys ≡ true → all P ps ≡ true → all P (ranked cheaper ys ps) ≡ true
  all_ranked ys [] h k = h
  all_ranked ys (p ∷ ps) h k = all_ranked (seated cheaper p ys) ps (all_seated p ys (and_first (P p) _ k) h) (and_second (P p) _ k)

  pub all_offering : (ps : List Pair) → all P ps ≡ true → all P (offering ps) ≡ true
  all_offering [] h = refl
  all_offering (p ∷ ps) h =
      elim (ltb 0 p.kw) as (λ b. all P (cond b (p ∷ offering ps) (offering ps)) ≡ true) [
        | true ↦ and_both (P p) _ (and_first (P p) _ h) (all_offering ps (and_second (P p) _ h))
        | false ↦ all_offering ps (and_second (P p) _ h)
      ]

  module _ (joins : (p q : Pair) → P p ≡ true → P q ≡ true → P (joined p q) ≡ true) where
    all_glue : (p : Pair) (zs : List Pair) → P p ≡ true → all P zs ≡ true → all P (glue p zs) ≡ true
    all_glue p [] h k = and_both (P p) true h refl
    all_glue p (m ∷ ms) h k =
        elim (same_price p m) as (λ b. all P (cond b (joined p m ∷ ms) (p ∷ (m ∷ ms))) ≡ true) [
          | true ↦ and_both (P (joined p m)) _ (joins p m h (and_first (P m) _ k)) (and_second (P m) _ k)
          | false ↦ and_both (P p) _ h k
        ]

    all_merged : (ps : List Pair) → all P ps ≡ true → all P (merged ps) ≡ true
    all_merged [] h = refl
    all_merged (p ∷ ps) h = all_glue p (merged ps) (and_first (P p) _ h) (all_merged ps (and_second (P p) _ h))

    -- of the curve, where it holds of each pair that offers something and of two that are joined
    pub all_curve : (ps : List Pair) → all P (offering ps) ≡ true → all P (curve ps) ≡ true
    all_curve ps h = all_merged (ranked cheaper [] (offering ps)) (all_ranked [] (offering ps) refl h)

offering_some : (ps : List Pair) → all (λ p. ltb 0 p.kw) (offering ps) ≡ true
offering_some [] = refl
offering_some (p ∷ ps) =
    let Goal : Bool → Type 0 = λ b. ltb 0 p.kw ≡ b → all (λ q. ltb 0 q.kw) (cond b (p ∷ offering ps) (offering ps)) ≡ true in
    let go : Goal (ltb 0 p.kw) = elim (ltb 0 p.kw) as Goal [ true ↦ λ e. and_both (ltb 0 p.kw) _ e (offering_some ps) | false ↦ λ e. offering_some ps ] in
    go refl

-- each pair of a curve offers something, and no more than all
pub curve_some : (ps : List Pair) → all (λ p. ltb 0 p.kw) (curve ps) ≡ true
curve_some ps = all_curve (λ p. ltb 0 p.kw) (λ p q h k. grind (arith, nat_tests)) ps (offering_some ps)

pub under_total : (n : ℕ) (ps : List Pair) → total ps ≤ n → all (λ p. leb p.kw n) ps ≡ true
under_total n [] h = refl
under_total n (p ∷ ps) h = and_both (leb p.kw n) _ (grind (arith, nat_tests)) (under_total n ps (omega arith))

pub all_and : (P Q : Pair → Bool) (ps : List Pair) → all P ps ≡ true → all Q ps ≡ true → all (λ p. P p && Q p) ps ≡ true
all_and P Q [] h k = refl
all_and P Q (p ∷ ps) h k = and_both (P p && Q p) _ (and_both (P p) (Q p) (and_first (P p) _ h) (and_first (Q p) _ k)) (all_and P Q ps (and_second (P p) _ h) (and_second (Q p) _ k))
