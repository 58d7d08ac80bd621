-- The marginal rung, and that in merit order its price is the least that reaches the demand.
use Rattle.std.proofs.Common.{◌≡◌, ℕ, ◌+◌, ◌-◌, ◌<◌, ◌≤◌, Bool, true, false, cond, leb, ◌⊎◌, List, [], ◌∷◌, ◌++◌, ℤ, ◌<ℤ◌, Some, None, sym, refl, ap, ◌∙◌, subst, inl, inr, ⊎_elim, arith}
use lib.Signed.{le_z}
use Rattle.std.proofs.lemmas.Int.{ints, by_lt_z}
use Rattle.std.proofs.lemmas.Bool.{le-leb, lt-leb, leb-true, leb-false}
use Rattle.ladder.specs.Orders.{Upto, Heads, InOrder, then_by, lower_int, seated, ranked}
use Rattle.merit.specs.declared.rung.Rung.{Rung}
use Rattle.merit.specs.Rungs.{before, ties, merit_order}
use Rattle.merit.specs.Prices.{total, offered, marginal}
use Rattle.merit.specs.Claims.{Asked, Balances, Marginal, MarginalFirst}
use Rattle.merit.proofs.Ranking.{merit_in_order, offered_ranked}

-- ---- the marginal rung of a list
at_margin : (xs ys : List Rung) (d : ℕ) (m : Rung) → total xs < d → d ≤ total xs + m.kw → marginal (xs ++ (m ∷ ys)) d ≡ Some m
at_margin [] ys d m s r = ap (λ b. cond b (Some m) (marginal ys (d - m.kw))) (le-leb d m.kw (omega arith))
at_margin (x ∷ xs) ys d m s r =
    ap (λ b. cond b (Some x) (marginal (xs ++ (m ∷ ys)) (d - x.kw))) (lt-leb d x.kw (omega arith))
    ∙ at_margin xs ys (d - x.kw) m (omega arith) (omega arith)

pub marginal_is : (rs : List Rung) (d : ℕ) (m : Rung) → Marginal rs d m → marginal rs d ≡ Some m
marginal_is rs d m w = ap (λ xs. marginal xs d) w.place ∙ at_margin w.ahead w.behind d m w.short w.reached

pub marginal_splits : (rs : List Rung) (d : ℕ) (m : Rung) → 0 < d → marginal rs d ≡ Some m → Marginal rs d m
marginal_splits [] d m some h = absurd (let z : ◌≡◌ {A = ℕ} 0 1 = cc in omega arith)
marginal_splits (r ∷ rs) d m some h = split (leb d r.kw) refl (marginal_splits rs (d - r.kw) m) h
  where
    split : (b : Bool) → leb d r.kw ≡ b → (0 < d - r.kw → marginal rs (d - r.kw) ≡ Some m → Marginal rs (d - r.kw) m) →
        cond b (Some r) (marginal rs (d - r.kw)) ≡ Some m → Marginal (r ∷ rs) d m
    split true t next k =
        let e : r ≡ m = cc in
        let w : r.kw ≡ m.kw = ap (λ (x : Rung). x.kw) e in
        record { ahead = []; behind = rs; place = ap (λ x. x ∷ rs) e; short = some; reached = omega (arith, leb-true d r.kw t) }
    split false t next k =
        let lt : r.kw < d = leb-false d r.kw t in
        let w = next (omega arith) k in
        record { ahead = r ∷ w.ahead; behind = w.behind; place = ap (λ xs. r ∷ xs) w.place; short = omega (arith, w.short); reached = omega (arith, w.reached) }

pub marginal_first : MarginalFirst
marginal_first rs d m some = (marginal_splits rs d m some, marginal_is rs d m)

pub marginal_none : (rs : List Rung) (d : ℕ) → total rs < d → marginal rs d ≡ None
marginal_none [] d h = refl
marginal_none (r ∷ rs) d h =
    ap (λ b. cond b (Some r) (marginal rs (d - r.kw))) (lt-leb d r.kw (omega arith)) ∙ marginal_none rs (d - r.kw) (omega arith)

pub marginal_some : (rs : List Rung) (d : ℕ) → 0 < d → d ≤ total rs → (m : Rung) × (marginal rs d ≡ Some m)
marginal_some [] d some h = absurd (omega arith)
marginal_some (r ∷ rs) d some h = split (leb d r.kw) refl (marginal_some rs (d - r.kw))
  where
    split : (b : Bool) → leb d r.kw ≡ b → (0 < d - r.kw → d - r.kw ≤ total rs → (m : Rung) × (marginal rs (d - r.kw) ≡ Some m)) →
        (m : Rung) × (cond b (Some r) (marginal rs (d - r.kw)) ≡ Some m)
    split true t next = (r, refl)
    split false t next = let lt : r.kw < d = leb-false d r.kw t in next (omega arith) (omega arith)

-- ---- its price in a list in rank order
offered_append : (p : ℤ) (xs ys : List Rung) → offered p (xs ++ ys) ≡ offered p xs + offered p ys
offered_append p [] ys = omega arith
offered_append p (x ∷ xs) ys = let h = offered_append p xs ys in omega arith

at_most : (b : Bool) (k : ℕ) → cond b k 0 ≤ k
at_most true k = omega arith
at_most false k = omega arith

pub offered_total : (p : ℤ) (xs : List Rung) → offered p xs ≤ total xs
offered_total p [] = omega arith
offered_total p (x ∷ xs) = let h = offered_total p xs in let k = at_most (le_z x.price p) x.kw in omega arith

-- what ranks first or equal is no dearer
upto_price : (q : Rung → Rung → Bool) (x y : Rung) → Upto (then_by (lower_int (λ r. r.price)) q) x y → le_z x.price y.price ≡ true
upto_price q x y h = grind (arith, ints)

none_below : (m : Rung) (p : ℤ) (ys : List Rung) → p <ℤ m.price → Heads before m ys → offered p ys ≡ 0
none_below m p [] lt h = refl
none_below m p (y ∷ ys) lt h =
    let u : le_z m.price y.price ≡ true = upto_price ties m y h.0 in
    let n : le_z y.price p ≡ false = grind (arith, ints) in
    let k = none_below m p ys lt h.1 in
    ap (λ b. cond b y.kw 0 + offered p ys) n ∙ omega arith

heads_at : (x m : Rung) (xs ys : List Rung) → Heads before x (xs ++ (m ∷ ys)) → Upto before x m
heads_at x m [] ys h = h.0
heads_at x m (z ∷ zs) ys h = heads_at x m zs ys h.1

-- the rungs ahead are all offered at or below the price of m
all_ahead : (m : Rung) (xs ys : List Rung) → InOrder before (xs ++ (m ∷ ys)) → offered m.price xs ≡ total xs
all_ahead m [] ys h = refl
all_ahead m (x ∷ xs) ys h =
    let u : le_z x.price m.price ≡ true = upto_price ties x m (heads_at x m xs ys h.0) in
    ap (λ b. cond b x.kw 0 + offered m.price xs) u ∙ ap (λ n. x.kw + n) (all_ahead m xs ys h.1)

order_from : (xs ys : List Rung) → InOrder before (xs ++ ys) → InOrder before ys
order_from [] ys h = h
order_from (x ∷ xs) ys h = order_from xs ys h.1

-- ---- its price is asked by some offer
asked_seated : (p : ℤ) (e : Rung) (ys : List Rung) → Asked p (seated before e ys) → (e.price ≡ p) ⊎ Asked p ys
asked_seated p e [] = λ h. h
asked_seated p e (y ∷ ys) =
    elim (before e y) as (λ b. Asked p (cond b (e ∷ (y ∷ ys)) (y ∷ seated before e ys)) → (e.price ≡ p) ⊎ Asked p (y ∷ ys))
    [ true ↦ (λ h. h) | false ↦ (λ h. ⊎_elim (λ a. inr (inl a)) (λ k. ⊎_elim inl (λ b. inr (inr b)) (asked_seated p e ys k)) h) ]

asked_onto : (p : ℤ) (ys xs : List Rung) → Asked p (ranked before ys xs) → Asked p ys ⊎ Asked p xs
asked_onto p ys [] h = inl h
asked_onto p ys (x ∷ xs) h =
    ⊎_elim (λ k. ⊎_elim (λ a. inr (inl a)) inl (asked_seated p x ys k)) (λ k. inr (inr k)) (asked_onto p (seated before x ys) xs h)

asked_at : (m : Rung) (xs ys : List Rung) → Asked m.price (xs ++ (m ∷ ys))
asked_at m [] ys = inl refl
asked_at m (x ∷ xs) ys = inr (asked_at m xs ys)

asked_offers : (os : List Rung) (d : ℕ) (m : Rung) → Marginal (merit_order os) d m → Asked m.price os
asked_offers os d m k =
    ⊎_elim absurd (λ h. h) (asked_onto m.price [] os (subst (Asked m.price) (sym k.place) (asked_at m k.ahead k.behind)))

pub margin_balances : (os : List Rung) (d : ℕ) (m : Rung) → Marginal (merit_order os) d m → Balances os d m.price
margin_balances os d m k =
    let rs = merit_order os in
    let o : InOrder before (k.ahead ++ (m ∷ k.behind)) = subst (InOrder before) k.place (merit_in_order os) in
    let t : InOrder before (m ∷ k.behind) = order_from k.ahead (m ∷ k.behind) o in
    let parts : (p : ℤ) → offered p os ≡ offered p k.ahead + (cond (le_z m.price p) m.kw 0 + offered p k.behind)
    = λ p. sym (offered_ranked p os) ∙ ap (offered p) k.place ∙ offered_append p k.ahead (m ∷ k.behind) in
    let self : le_z m.price m.price ≡ true = grind (arith, ints) in
    let own : cond (le_z m.price m.price) m.kw 0 ≡ m.kw = ap (λ b. cond b m.kw 0) self in
    record {
      asked = asked_offers os d m k;
      enough = omega (arith, parts m.price, all_ahead m k.ahead k.behind o, own, k.reached);
      least = λ q reach. by_lt_z q m.price
          (λ lt.
          let no : le_z m.price q ≡ false = grind (arith, ints) in
          let mine : cond (le_z m.price q) m.kw 0 ≡ 0 = ap (λ b. cond b m.kw 0) no in
          let z : ⊥ = omega (arith, parts q, none_below m q k.behind lt t.0, offered_total q k.ahead, mine, k.short) in
          absurd z)
          (λ le. le);
    }
