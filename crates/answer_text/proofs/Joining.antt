-- Pieces put one after another in a draft.
use Rattle.std.proofs.Common.{◌≡◌, ℕ, ◌^◌, ◌<◌, ◌≤◌, List, [], ◌++◌, length, ℤ, pos, negsuc, decimal, ap, ◌∙◌, arith, w64, Fits, SFits}
use lib.Signed.{mag}
use Rattle.std.proofs.lemmas.Fmt.{length-decimal-le, length_signed_le}
use Rattle.std.specs.Fmt.{signed_decimal}
use Rattle.text.specs.Drafts.{kept}
use Rattle.text.proofs.Drafting.{kept_more, kept_all}

-- pieces from an empty draft on
pub from_none : (new last text : List ℕ) → new ≡ [] → length text ≤ 4096 → last ≡ kept (new ++ text) → last ≡ text
from_none new last text e s p = p ∙ ap (λ x. kept (x ++ text)) e ∙ kept_all text s

-- how long numbers are
pub short_natural : (n : ℕ) → Fits w64 n → length (decimal n) ≤ 20
short_natural n f = length-decimal-le 20 n (omega arith) (omega arith) f.fits

pub short_signed : (z : ℤ) → SFits w64 z → length (signed_decimal z) ≤ 20
short_signed z f = let m = small z f in length_signed_le 19 z (omega arith) (omega arith)
  where
    small : (z : ℤ) → SFits w64 z → mag z < 2 ^ 63
    small (pos n) f = f.sfits
    small (negsuc n) f = f.sfits

pub two : (old a b x y : List ℕ) → a ≡ kept (old ++ x) → b ≡ kept (a ++ y) → b ≡ kept (old ++ (x ++ y))
two old a b x y p q = kept_more old a b x y p q

pub three : (old a b d x y z : List ℕ) → a ≡ kept (old ++ x) → b ≡ kept (a ++ y) → d ≡ kept (b ++ z) → d ≡ kept (old ++ (x ++ (y ++ z)))
three old a b d x y z p q r = kept_more old a d x (y ++ z) p (two a b d y z q r)

pub four : (old a b d e x y z w : List ℕ) → a ≡ kept (old ++ x) → b ≡ kept (a ++ y) → d ≡ kept (b ++ z) → e ≡ kept (d ++ w) → e ≡ kept (old ++ (x ++ (y ++ (z ++ w))))
four old a b d e x y z w p q r s = kept_more old a e x (y ++ (z ++ w)) p (three a b d e y z w q r s)

pub five : (old a b d e f x y z w v : List ℕ) → a ≡ kept (old ++ x) → b ≡ kept (a ++ y) → d ≡ kept (b ++ z) → e ≡ kept (d ++ w) → f ≡ kept (e ++ v) → f ≡ kept (old ++ (x ++ (y ++ (z ++ (w ++ v)))))
five old a b d e f x y z w v p q r s t = kept_more old a f x (y ++ (z ++ (w ++ v))) p (four a b d e f y z w v q r s t)
