-- A post to the small ledger is one to a table of as many balances, and takes a place.
use Rattle.std.proofs.Common.{◌≡◌, ℕ, ◌-◌, ◌<◌, false, eqb, ◌≢◌, List, length, get_or, set, ℤ, pos, ◌+ℤ◌, refl, inr, arith}
use Rattle.std.proofs.lemmas.Bool.{eqb-false}
use Rattle.ledger.specs.Posting.{Posted}
use Rattle.ledgers.proofs.Spans.{table_posted}
use Rattle.day_tests.specs.Small.{small_view}

pub small_posted : (zs : List ℤ) (n a : ℕ) (x : ℤ) → a < length zs → eqb n 0 ≡ false → Posted (small_view zs n) a x (small_view (set zs a (get_or zs a (pos 0) +ℤ x)) (n - 1))
small_posted zs n a x inside some =
    let table = table_posted zs a x inside in
    let positive : n ≢ 0 = eqb-false n 0 some in
    record {
      count = refl;
      places = inr (omega arith);
      balance = table.balance;
      balances = λ k l ne. table.balances k (omega (arith, l)) ne;
      lows = λ k l ne. refl;
      highs = λ k l ne. refl;
    }
