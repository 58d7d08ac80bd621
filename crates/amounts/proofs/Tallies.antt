-- The amounts of the accounts, one after another, and their sums; and the nets of them.
use Rattle.std.proofs.Common.{◌≡◌, ℕ, zero, suc, ◌+◌, ◌-◌, ◌<◌, ◌≤◌, List, length, get_or, set, ℤ, pos, ◌+ℤ◌, ◌-ℤ◌, sym, ap, ◌∙◌, subst, ⊎_elim, arith}
use Rattle.std.proofs.lemmas.Int.{ints}
use Rattle.std.proofs.lemmas.List.{length-set, get_or-set_same, get_or-set_other}
use Rattle.std.proofs.lemmas.Bool.{cases_eq, lt-ltb, cond-true}
use Rattle.schedule.specs.Levies.{levy}
use Rattle.schedule.specs.Ramps.{sum_to}
use Rattle.amounts.specs.declared.account.Amounts.{Amounts}
use Rattle.amounts.specs.Sums.{sum_to_int}
use Rattle.amounts.specs.Amounts.{PricedSheet, energy_amount, compensation, loads, net}
use Rattle.amounts.proofs.Levies.{levy_most}
use Rattle.amounts.specs.Tallies.{near, no_amounts, amounts_on, Small, Tallied, net_from}

-- an element set, for a fact of each element that holds of the new one
set_at : {X : Type 0} (P : ℕ → X → Type 0) (xs : List X) (a k : ℕ) (x d : X) → a < length xs → P a x → ((k ≡ a → ⊥) → P k (get_or xs k d)) → P k (get_or (set xs a x) k d)
set_at P xs a k x d lt own other =
    ⊎_elim (λ (e : k ≡ a). subst (λ j. P j (get_or (set xs a x) j d)) (sym e) (subst (P a) (sym (get_or-set_same xs a x d lt)) own))
    (λ (ne : k ≡ a → ⊥). subst (P k) (sym (get_or-set_other xs a k x d ne)) (other ne))
    (cases_eq k a)

lower : (k a : ℕ) → k < a + 1 → (k ≡ a → ⊥) → k < a
lower k a lt ne = omega arith

-- ---- the amounts
sum_to_int_step : (f : ℕ → ℤ) (n : ℕ) → 1 ≤ n → sum_to_int f (n + 1 - 1) ≡ sum_to_int f (n - 1) +ℤ f n
sum_to_int_step f zero h = absurd (omega arith)
sum_to_int_step f (suc n) h = let e : suc n + 1 - 1 ≡ suc n = omega arith in let k : n ≡ suc n - 1 = omega arith in ap (sum_to_int f) e ∙ ap (λ j. sum_to_int f j +ℤ f (suc n)) k

sum_to_step : (f : ℕ → ℕ) (n : ℕ) → 1 ≤ n → sum_to f (n + 1 - 1) ≡ sum_to f (n - 1) + f n
sum_to_step f zero h = absurd (omega arith)
sum_to_step f (suc n) h = let e : suc n + 1 - 1 ≡ suc n = omega arith in let k : n ≡ suc n - 1 = omega arith in ap (sum_to f) e ∙ ap (λ j. sum_to f j + f (suc n)) k

pub tallied_more : (h : PricedSheet) (a : ℕ) (each : List Amounts) (pool : ℤ) (total : ℕ) (r : Amounts) (pool' : ℤ) → 1 ≤ a → a < 12 → Tallied h a each pool total → r ≡ amounts_on h a → Small r → pool' ≡ pool -ℤ r.energy → Tallied h (a + 1) (set each a r) pool' (total + r.compensation)
tallied_more h a each pool total r pool' low high t is small p =
    let lt : a < length each = omega (arith, t.len) in
    let energy = ap (λ (x : Amounts). x.energy) is in
    let compensated = ap (λ (x : Amounts). x.compensation) is in
    record {
      len = length-set each a r ∙ t.len;
      known = λ k one below. set_at (λ j x. x ≡ amounts_on h j) each a k r no_amounts lt is (λ ne. t.known k one (lower k a below ne));
      small = λ k. set_at (λ j x. Small x) each a k r no_amounts lt small (λ ne. t.small k);
      pool = omega (arith, ints, t.pool, sum_to_int_step (energy_amount h) a low);
      total = omega (arith, t.total, sum_to_step (compensation h) a low);
      pooled = omega (arith, ints, t.pooled, small.0);
      totaled = omega (arith, t.totaled, small.1);
    }

-- ---- the nets
pub tallied_net : (h : PricedSheet) (each : List Amounts) (x : ℤ) (n : ℕ) (ls : List ℕ) → Tallied h 12 each x n → ls ≡ loads h.positions → (k : ℕ) → k < 12 → net_from each x n ls k ≡ net h k
unfolding net
tallied_net h each x n ls t p zero lt = t.pool
tallied_net h each x n ls t p (suc a) lt =
    let known = t.known (suc a) (omega arith) lt in
    (λ i. (known i).energy +ℤ pos (known i).compensation -ℤ pos (levy (t.total i) (p i) (suc a))) ∙ sym (cond-true _ _ _ (lt-ltb a 11 (omega arith)))

pub tallied_near : (h : PricedSheet) (each : List Amounts) (x : ℤ) (n : ℕ) (ls : List ℕ) → Tallied h 12 each x n → (k : ℕ) → k < 12 → near (net_from each x n ls k)
tallied_near h each x n ls t zero lt = omega (arith, t.pooled)
tallied_near h each x n ls t (suc a) lt =
    let small = t.small (suc a) in
    let total = t.totaled in
    let levied = levy_most n ls (suc a) (omega arith) in
    omega (arith, ints)
