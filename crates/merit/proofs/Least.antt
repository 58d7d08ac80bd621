-- The balancing price is the least that reaches the demand, and there is one exactly where the offers total enough.
use Rattle.std.proofs.Common.{◌≡◌, ℕ, ◌<◌, ◌≤◌, Bool, true, false, cond, leb, List, [], ◌∷◌, map, ℤ, ◌≤ℤ◌, Some, None, Option, sym, refl, ap, ◌∙◌, subst, ⊎_elim, arith}
use lib.Signed.{lt_z}
use Rattle.std.proofs.lemmas.Int.{ints}
use Rattle.std.proofs.lemmas.Bool.{le-leb, lt-leb, leb-true, cases_lt}
use Rattle.merit.specs.declared.rung.Rung.{Rung}
use Rattle.merit.specs.Rungs.{merit_order}
use Rattle.merit.specs.Prices.{total, offered, lesser, least_of, balancing, marginal, owned, priced}
use Rattle.merit.specs.Claims.{Asked, Balances, LeastPrice, ReachedExactly, MarginalPrice, PricedExactly}
use Rattle.merit.proofs.Ranking.{total_ranked}
use Rattle.merit.proofs.Margins.{marginal_splits, marginal_none, marginal_some, margin_balances, offered_total}

-- ---- the least of the prices that pass
abbrev AtLeast : ℤ → Option ℤ → Type 0
AtLeast p None = Unit {0}
AtLeast p (Some q) = p ≤ℤ q

at_least_lesser : (p q : ℤ) (o : Option ℤ) → p ≤ℤ q → AtLeast p o → AtLeast p (lesser q o)
at_least_lesser p q None h k = h
at_least_lesser p q (Some r) h k = elim (lt_z r q) as (λ b. AtLeast p (cond b (Some r) (Some q))) [ true ↦ k | false ↦ h ]

module _ (test : ℤ → Bool) (p : ℤ) (low : (q : ℤ) → test q ≡ true → p ≤ℤ q) where
  at_least_one : (b : Bool) (q : ℤ) (o : Option ℤ) → test q ≡ b → AtLeast p o → AtLeast p (cond b (lesser q o) o)
  at_least_one true q o t k = at_least_lesser p q o (low q t) k
  at_least_one false q o t k = k

  at_least : (ps : List ℤ) → AtLeast p (least_of test ps)
  at_least [] = tt
  at_least (q ∷ qs) = at_least_one (test q) q (least_of test qs) refl (at_least qs)

  found_here : (o : Option ℤ) → AtLeast p o → lesser p o ≡ Some p
  found_here None h = refl
  found_here (Some r) h = let n : lt_z r p ≡ false = grind (arith, ints) in ap (λ b. cond b (Some r) (Some p)) n

  still : (b : Bool) (q : ℤ) → test q ≡ b → cond b (lesser q (Some p)) (Some p) ≡ Some p
  still true q t = dearer (lt_z p q) refl
    where
      dearer : (b : Bool) → lt_z p q ≡ b → cond b (Some p) (Some q) ≡ Some p
      dearer true e = refl
      dearer false e = let l = low q t in let s : q ≡ p = omega (arith, ints) in ap Some s
  still false q t = refl

  found : (rs : List Rung) → test p ≡ true → Asked p rs → least_of test (map (λ r. r.price) rs) ≡ Some p
  found [] t h = absurd h
  found (r ∷ rs) t h =
      let rest = least_of test (map (λ (r : Rung). r.price) rs) in
      ⊎_elim
      (λ e. ap (λ q. cond (test q) (lesser q rest) rest) e ∙ ap (λ b. cond b (lesser p rest) rest) t ∙ found_here rest (at_least (map (λ r. r.price) rs)))
      (λ k. ap (λ o. cond (test r.price) (lesser r.price o) o) (found rs t k) ∙ still (test r.price) r.price refl)
      h

none_of : (test : ℤ → Bool) → ((q : ℤ) → test q ≡ false) → (ps : List ℤ) → least_of test ps ≡ None
none_of test fails [] = refl
none_of test fails (p ∷ ps) = ap (λ b. cond b (lesser p (least_of test ps)) (least_of test ps)) (fails p) ∙ none_of test fails ps

-- ---- of offers
pub balancing_is : (os : List Rung) (d : ℕ) (p : ℤ) → Balances os d p → balancing os d ≡ Some p
unfolding balancing
balancing_is os d p b =
    found (λ q. leb d (offered q os)) p (λ q t. b.least q (leb-true d (offered q os) t)) os (le-leb d (offered p os) b.enough) b.asked

pub balancing_none : (os : List Rung) (d : ℕ) → total os < d → balancing os d ≡ None
unfolding balancing
balancing_none os d h = none_of (λ q. leb d (offered q os)) (λ q. lt-leb d (offered q os) (omega (arith, offered_total q os))) (map (λ r. r.price) os)

-- the marginal rung of the merit order
pub margin_of : (os : List Rung) (d : ℕ) → 0 < d → d ≤ total os → (m : Rung) × (marginal (merit_order os) d ≡ Some m)
margin_of os d some h = marginal_some (merit_order os) d some (omega (arith, total_ranked os))

pub margin_none : (os : List Rung) (d : ℕ) → total os < d → marginal (merit_order os) d ≡ None
margin_none os d h = marginal_none (merit_order os) d (omega (arith, total_ranked os))

pub margin_least : (os : List Rung) (d : ℕ) (m : Rung) → 0 < d → marginal (merit_order os) d ≡ Some m → Balances os d m.price
margin_least os d m some e = margin_balances os d m (marginal_splits (merit_order os) d m some e)

pub marginal_price : MarginalPrice
marginal_price os d m some e = balancing_is os d m.price (margin_least os d m some e)

pub balancing_least : (os : List Rung) (d : ℕ) (p : ℤ) → 0 < d → balancing os d ≡ Some p → Balances os d p
balancing_least os d p some h =
    ⊎_elim (λ (lt : total os < d). let n = balancing_none os d lt in absurd (let z : ◌≡◌ {A = ℕ} 0 1 = cc in omega arith))
    (λ (le : d ≤ total os).
    let m = margin_of os d some le in
    let k = marginal_price os d m.0 some m.1 in
    let e : m.0.price ≡ p = cc in
    subst (Balances os d) e (margin_least os d m.0 some m.1))
    (cases_lt (total os) d)

pub least_price : LeastPrice
least_price os d p some = (balancing_least os d p some, balancing_is os d p)

pub reached_exactly : ReachedExactly
reached_exactly os d some = (
  λ h. ⊎_elim (λ (lt : total os < d). lt)
      (λ (le : d ≤ total os).
      let m = margin_of os d some le in
      let k = marginal_price os d m.0 some m.1 in
      absurd (let z : ◌≡◌ {A = ℕ} 0 1 = cc in omega arith))
      (cases_lt (total os) d),
  balancing_none os d,
)

-- ---- price and facility together
pub priced_margin : (os : List Rung) (d : ℕ) (m : Rung) → 0 < d → marginal (merit_order os) d ≡ Some m → priced os d ≡ Some (m.price, m.facility)
unfolding priced
priced_margin os d m some e =
    ap (λ b. owned b (marginal (merit_order os) d)) (marginal_price os d m some e) ∙ ap (owned (Some m.price)) e

pub priced_none : (os : List Rung) (d : ℕ) → total os < d → priced os d ≡ None
unfolding priced
priced_none os d h = ap (λ b. owned b (marginal (merit_order os) d)) (balancing_none os d h)

owned_none : (o : Option ℤ) → owned o None ≡ None
owned_none None = refl
owned_none (Some p) = refl

pub priced_lacking : (os : List Rung) (d : ℕ) → marginal (merit_order os) d ≡ None → priced os d ≡ None
unfolding priced
priced_lacking os d e = ap (owned (balancing os d)) e ∙ owned_none (balancing os d)

-- where the offers reach the demand they have a price
pub priced_some : (os : List Rung) (d : ℕ) → 0 < d → d ≤ total os → (m : Rung) × ((marginal (merit_order os) d ≡ Some m) × (priced os d ≡ Some (m.price, m.facility)))
priced_some os d some le = let m = margin_of os d some le in (m.0, (m.1, priced_margin os d m.0 some m.1))

pub priced_exactly : PricedExactly
priced_exactly os d some = (
  (
    λ h. ⊎_elim (λ (lt : total os < d). lt)
        (λ (le : d ≤ total os). let k = priced_some os d some le in let e = k.1.1 in absurd (let z : ◌≡◌ {A = ℕ} 0 1 = cc in omega arith))
        (cases_lt (total os) d),
    priced_none os d,
  ),
  λ p f h. ⊎_elim (λ (lt : total os < d). let n = priced_none os d lt in absurd (let z : ◌≡◌ {A = ℕ} 0 1 = cc in omega arith))
      (λ (le : d ≤ total os).
      let k = priced_some os d some le in
      let m = k.0 in
      let e : ◌≡◌ {A = Option (ℤ × ℕ)} (Some (m.price, m.facility)) (Some (p, f)) = sym k.1.1 ∙ h in
      let both : ◌≡◌ {A = ℤ × ℕ} (m.price, m.facility) (p, f) = cc in
      let a : m.price ≡ p = ap (λ (x : ℤ × ℕ). x.0) both in
      let b : m.facility ≡ f = ap (λ (x : ℤ × ℕ). x.1) both in
      (subst (Balances os d) a (margin_least os d m some k.1.0), (m, (marginal_splits (merit_order os) d m some k.1.0, b))))
      (cases_lt (total os) d),
)
