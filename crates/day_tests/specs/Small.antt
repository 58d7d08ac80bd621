-- A small ledger as seen: three accounts, bounds at the ends of the span, places that run out.
use Rattle.std.proofs.Common.{lit≤}
use Rattle.std.specs.Prelude.{ℕ, ◌≤◌, List, ℤ, pos, neg_ℤ, slice_index_or}
use Rattle.std.specs.Int.Signed.{le_z_yes}
use Rattle.ledger.specs.View.{View, most, Sound}
use Rattle.ledgers.specs.Tables.{AllInSpan}

abbrev pub small_view : List ℤ → ℕ → View
small_view zs n = record {
  count = 3;
  places = n;
  balance = λ a. slice_index_or zs a (pos 0);
  lowest = λ _. neg_ℤ most;
  highest = λ _. most;
}

-- it keeps the spans of a ledger; a law of an impl can cite no proof of its own crate
pub small_sound : (zs : List ℤ) (n : ℕ) → AllInSpan zs → n ≤ 65535 → Sound (small_view zs n)
small_sound zs n h few = record {
  some = lit≤ tt;
  few = lit≤ tt;
  room = few;
  balances = λ a _. h a;
  lows = λ _ _. (le_z_yes tt, le_z_yes tt);
  highs = λ _ _. (le_z_yes tt, le_z_yes tt);
}
