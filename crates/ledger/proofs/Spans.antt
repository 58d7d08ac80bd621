-- Figures within the span of money, for ledgers to show that theirs lie there.
use Rattle.std.proofs.Common.{ℕ, ℤ, pos, ◌+ℤ◌, ◌-ℤ◌, neg_ℤ, arith}
use Rattle.std.specs.Int.{int_max, int_min}
use Rattle.std.proofs.lemmas.Int.{ints, clamps}
use Rattle.ledger.specs.View.{most, InSpan}

pub span_max : (x y : ℤ) → InSpan x → InSpan y → InSpan (int_max x y)
span_max x y h k = (omega (arith, ints, clamps, h.0, h.1, k.0, k.1), omega (arith, ints, clamps, h.0, h.1, k.0, k.1))

pub span_neg : (x : ℤ) → InSpan x → InSpan (neg_ℤ x)
span_neg x h = (omega (arith, ints, h.0, h.1), omega (arith, ints, h.0, h.1))

-- a figure cut to 0..10^15
pub span_cut : (x : ℤ) → InSpan (int_max (pos 0) (int_min x most))
span_cut x = (omega (arith, ints, clamps), omega (arith, ints, clamps))

-- a figure some cents lower or higher, and no further than the ends
module _ (x : ℤ) (d : ℕ) (h : InSpan x) where
  pub span_lower : InSpan (int_max (x -ℤ pos d) (neg_ℤ most))
  span_lower = (omega (arith, ints, clamps, h.0, h.1), omega (arith, ints, clamps, h.0, h.1))

  pub span_higher : InSpan (int_min (x +ℤ pos d) most)
  span_higher = (omega (arith, ints, clamps, h.0, h.1), omega (arith, ints, clamps, h.0, h.1))
