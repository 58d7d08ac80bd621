-- The levies telescope.
use Rattle.std.proofs.Common.{◌≡◌, ℕ, zero, suc, ◌+◌, ◌-◌, ◌*◌, ◌/◌, ◌<◌, ◌≤◌, ◌&&◌, ltb, leb, List, take, Some, None, sum, sym, ap, ◌∙◌, mul-le-mul_left, mul-zero, mul-div_cancel, arith}
use native.Mathlib.Nat.{zero-div}
use Rattle.std.proofs.lemmas.List.{take-take}
use Rattle.std.proofs.lemmas.List.Sums.{sum_by-take-le}
use Rattle.std.proofs.lemmas.Bool.{and_from, le-leb, lt-ltb, cond-true}
use Rattle.schedule.specs.Ramps.{sum_to}
use Rattle.schedule.specs.Levies.{loads_to, share_to, levy, levy_of}
use Rattle.schedule.specs.Claims.{SharesRise, LeviesShareAll}
use Rattle.schedule.proofs.Rising.{quotient_rises}

pub loads_rise : (ls : List ℕ) (a b : ℕ) → a ≤ b → loads_to ls a ≤ loads_to ls b
loads_rise ls a b h =
    let e : sum (take a (take b ls)) ≡ sum (take a ls) = ap sum (take-take a b ls h) in
    omega (arith, sum_by-take-le (λ x. x) (take b ls) a)

pub share_rises : (T : ℕ) (ls : List ℕ) (a b : ℕ) → a ≤ b → share_to T ls a ≤ share_to T ls b
unfolding share_to
share_rises T ls a b h = quotient_rises (T * loads_to ls a) (T * loads_to ls b) (loads_to ls 11) (mul-le-mul_left T (loads_rise ls a b h))

pub shares_rise : SharesRise
shares_rise T ls a h = share_rises T ls (a - 1) a (omega arith)

-- differences of neighbours sum to the difference of the ends
telescopes : (f : ℕ → ℕ) → ((a : ℕ) → f (a - 1) ≤ f a) → (n : ℕ) → sum_to (λ a. f a - f (a - 1)) n + f 0 ≡ f n
telescopes f h zero = omega arith
telescopes f h (suc n) = let e : f (suc n - 1) ≡ f n = ap f (omega arith) in omega (arith, telescopes f h n, h (suc n))

pub levies_share_all : LeviesShareAll
unfolding share_to
levies_share_all T ls h =
    let none : share_to T ls 0 ≡ 0 = ap (λ n. n / loads_to ls 11) (mul-zero T) ∙ zero-div (loads_to ls 11) in
    let all : share_to T ls 11 ≡ T = mul-div_cancel T h in
    omega (arith, telescopes (share_to T ls) (λ a. share_rises T ls (a - 1) a (omega arith)) 11)

-- a part of the whole bears no more than the total
pub share_le : (T part whole : ℕ) → 0 < whole → part ≤ whole → T * part / whole ≤ T
share_le T part whole h k = omega (arith, quotient_rises (T * part) (T * whole) whole (mul-le-mul_left T k), mul-div_cancel T h)

pub levy_some : (T : ℕ) (ls : List ℕ) (a x y : ℕ) → 1 ≤ a → a ≤ 11 → 0 < loads_to ls 11 → x ≡ share_to T ls a → y ≡ share_to T ls (a - 1) → Some (x - y) ≡ levy_of T ls a
levy_some T ls a x y low high some p q =
    let t = and_from (leb 1 a) (leb a 11 && ltb 0 (loads_to ls 11)) (le-leb 1 a low) (and_from (leb a 11) (ltb 0 (loads_to ls 11)) (le-leb a 11 high) (lt-ltb 0 (loads_to ls 11) some)) in
    (λ i. Some (p i - q i)) ∙ sym (cond-true (leb 1 a && (leb a 11 && ltb 0 (loads_to ls 11))) (Some (levy T ls a)) None t)
