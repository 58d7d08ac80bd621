-- The balances of one account more: their lines, and their sum, which fits 64 bits.
use Rattle.std.proofs.Common.{◌≡◌, ℕ, zero, suc, ◌+◌, ◌*◌, ◌<◌, List, ◌++◌, ℤ, pos, ◌+ℤ◌, neg_ℤ, ◌≤ℤ◌, Some, refl, append_assoc, add-one, arith, w64, SFits}
use Rattle.std.proofs.lemmas.Int.{ints}
use Rattle.std.proofs.lemmas.Bool.{ltb-true}
use Rattle.ledger.specs.View.{View, InSpan, Sound, told}
use Rattle.ledger.specs.Sums.{sum_below}
use Rattle.ledger.proofs.Tested.{told_some}
use Rattle.answer_text.specs.Answers.{balance_text}
use Rattle.day_file.specs.Reports.{balances_below}

within : (n : ℕ) (f : ℕ → ℤ) → ((k : ℕ) → k < n → InSpan (f k)) →
    (neg_ℤ (pos (n * 1000000000000000)) ≤ℤ sum_below n f) × (sum_below n f ≤ℤ pos (n * 1000000000000000))
within zero f each = (omega (arith, ints), omega (arith, ints))
within (suc n) f each =
    let s = within n f (λ k l. each k (omega arith)) in
    let b = each n (omega arith) in
    (omega (arith, ints, s.0, b.0), omega (arith, ints, s.1, b.1))

pub record OneMore (v : View) (n : ℕ) (s z : ℤ) (old xs : List ℕ) : Type 0 where
  pub fits : SFits w64 (s +ℤ z)
  pub sum : s +ℤ z ≡ sum_below (n + 1) v.balance
  pub out : xs ++ balance_text n z ≡ old ++ balances_below (n + 1) v

pub one_more : (v : View) → Sound v → (n : ℕ) (s z : ℤ) (old xs : List ℕ) → Some z ≡ told v v.balance n →
    s ≡ sum_below n v.balance → xs ≡ old ++ balances_below n v → OneMore v n s z old xs
one_more v sound n s z old xs tells sums holds =
    let here = told_some v v.balance n z tells in
    let few : n < v.count = ltb-true n v.count here.0 in
    let all = within n v.balance (λ k l. sound.balances k (omega arith)) in
    let b = sound.balances n few in
    rw (here.1, sums, holds) (record {
      fits = record { sfits = grind (arith, ints) };
      sum = rw add-one refl;
      out = rw add-one (append_assoc old (balances_below n v) (balance_text n (v.balance n)));
    })
