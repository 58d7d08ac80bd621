-- The nets balance.
use Rattle.std.proofs.Common.{◌≡◌, ℕ, zero, suc, ◌+◌, ◌<◌, ◌≤◌, true, ltb, List, [], ◌∷◌, map, length, take, ℤ, pos, ◌+ℤ◌, ◌-ℤ◌, neg_ℤ, sum, ◌∙◌, ⊎_elim, arith}
use Rattle.std.specs.List.{range_with_len}
use Rattle.std.proofs.lemmas.Int.{ints}
use Rattle.std.proofs.lemmas.List.Sums.{sum_by-cons}
use Rattle.std.proofs.lemmas.Bool.{or_cases, ltb-true, le-ltb, cond-false}
use Rattle.ledger.specs.Sums.{row_sum, sum_below}
use Rattle.ledger.proofs.Totals.{row_sum_amounts}
use Rattle.schedule.specs.Ramps.{sum_to}
use Rattle.schedule.proofs.Levying.{levies_share_all}
use Rattle.sheets.specs.declared.row.Position.{Position}
use Rattle.sheets.specs.Sheets.{has_load}
use Rattle.amounts.specs.Sums.{sum_to_int}
use Rattle.amounts.specs.Amounts.{PricedSheet, net, nets, compensation, all_compensation, energy_amount, loads, levied}
use Rattle.amounts.specs.Claims.{NetsBalance, NoneBeyond}

some_load : (n : ℕ) (ps : List Position) → length ps ≤ n → has_load ps ≡ true → 0 < sum (take n (loads ps))
some_load n [] le h = absurd (let y : ◌≡◌ {A = ℕ} 0 1 = cc in omega arith)
some_load zero (p ∷ ps) le h = absurd (omega arith)
some_load (suc n) (p ∷ ps) le h =
    let more : sum (take (suc n) (loads (p ∷ ps))) ≡ p.load + sum (take n (loads ps)) = sum_by-cons (λ x. x) p.load (take n (loads ps)) in
    ⊎_elim (λ (t : ltb 0 p.load ≡ true). omega (arith, ltb-true 0 p.load t)) (λ (t : has_load ps ≡ true). omega (arith, some_load n ps (omega arith) t))
    (or_cases (ltb 0 p.load) (has_load ps) h)

-- sums of sums
sum_to_int_net : (e : ℕ → ℤ) (c l : ℕ → ℕ) (n : ℕ) → sum_to_int (λ a. e a +ℤ pos (c a) -ℤ pos (l a)) n ≡ sum_to_int e n +ℤ pos (sum_to c n) -ℤ pos (sum_to l n)
sum_to_int_net e c l zero = omega (arith, ints)
sum_to_int_net e c l (suc n) = omega (arith, ints, sum_to_int_net e c l n)

balance : (A S : ℤ) (T L : ℕ) → S ≡ A +ℤ pos T -ℤ pos L → L ≡ T → neg_ℤ A +ℤ S ≡ pos 0
balance A S T L p q = omega (arith, ints)

all_nets : (h : PricedSheet) → 0 < sum (take 11 (loads h.positions)) → net h 0 +ℤ sum_to_int (net h) 11 ≡ pos 0
unfolding net
all_nets h k =
    balance (sum_to_int (energy_amount h) 11) (sum_to_int (net h) 11) (all_compensation h) (sum_to (levied h) 11)
    (sum_to_int_net (energy_amount h) (compensation h) (levied h) 11) (levies_share_all (all_compensation h) (loads h.positions) k)

sum_from : (f : ℕ → ℤ) (n : ℕ) → sum_below (suc n) f ≡ f 0 +ℤ sum_to_int f n
sum_from f zero = omega (arith, ints)
sum_from f (suc n) = omega (arith, ints, sum_from f n)

twelve : (f : ℕ → ℤ) → row_sum (map f (range_with_len 0 12)) ≡ f 0 +ℤ sum_to_int f 11
twelve f = row_sum_amounts (map f (range_with_len 0 12)) ∙ sum_from f 11

pub nets_balance : NetsBalance
unfolding nets
nets_balance h few some = twelve (net h) ∙ all_nets h (some_load 11 h.positions few some)

pub none_beyond : NoneBeyond
unfolding net
none_beyond h zero le = absurd (omega arith)
none_beyond h (suc a) le = cond-false _ _ _ (le-ltb a 11 (omega arith))
