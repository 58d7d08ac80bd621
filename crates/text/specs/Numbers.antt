-- How a number stands in a text: digits with no leading zero, zero as `0`, a minus only before a
-- number above zero.
use Rattle.std.specs.Prelude.{◌≡◌, ℕ, ◌+◌, ◌-◌, ◌*◌, ◌^◌, ◌≤◌, min, Bool, if◌then◌else◌, ◌&&◌, List, [], ◌∷◌, ℤ, pos, negsuc, neg_ℤ, ◌≤ℤ◌, Some, None, Ok, Err, decimal, Option, Result, ◌==◌, int_le, nat_le}
use Rattle.std.specs.Fmt.{signed_decimal}
use Rattle.std.specs.Option.{option_map}
use Rattle.text.specs.declared.number.NumberFault.{NumberFault}
use Rattle.text.specs.declared.number.NumberFault.TheVariants.{Form, Span}

abbrev pub is_digit : ℕ → Bool
is_digit c = nat_le 48 c && nat_le c 57

-- the number that the digits go on to, after n
abbrev pub onward : ℕ → List ℕ → Option ℕ
onward n [] = Some n
onward n (c ∷ cs) = if is_digit c then onward (n * 10 + (c - 48)) cs else None

-- a number above zero: digits, the first not 0
abbrev pub positive : List ℕ → Option ℕ
positive [] = None
positive (c ∷ cs) = if nat_le 49 c && nat_le c 57 then onward (c - 48) cs else None

abbrev pub alone : List ℕ → Option ℕ
alone [] = Some 0
alone (c ∷ cs) = None

-- a single 0, or a number above zero
abbrev pub plain : List ℕ → Option ℕ
plain [] = None
plain (c ∷ cs) = if c == 48 then alone cs else positive (c ∷ cs)

abbrev pub minus : ℕ → ℤ
minus n = neg_ℤ (pos n)

-- a minus and a number above zero, or a number without a sign
abbrev pub with_sign : List ℕ → Option ℤ
with_sign [] = None
with_sign (c ∷ cs) =
    if c == 45 then option_map minus (positive cs) else option_map pos (plain (c ∷ cs))

-- a number, or 2 ^ 64 of its side where it lies farther from zero
abbrev pub clamped : ℤ → ℤ
clamped (pos n) = pos (min (2 ^ 64) n)
clamped (negsuc n) = negsuc (min (2 ^ 64 - 1) n)

abbrev pub in_span : ℕ → ℕ → Option ℕ → Result ℕ NumberFault
in_span low high None = Err Form
in_span low high (Some n) = if nat_le low n && nat_le n high then Ok n else Err Span

abbrev pub in_signed_span : ℤ → ℤ → Option ℤ → Result ℤ NumberFault
in_signed_span low high None = Err Form
in_signed_span low high (Some z) = if int_le low z && int_le z high then Ok z else Err Span

-- the number that the bytes are, from low to high
abbrev pub natural_of : ℕ → ℕ → List ℕ → Result ℕ NumberFault
natural_of low high s = in_span low high (plain s)

abbrev pub signed_of : ℤ → ℤ → List ℕ → Result ℤ NumberFault
signed_of low high s = in_signed_span low high (with_sign s)

-- r is n exactly where the bytes are how n is written, and n lies in the span
abbrev pub ReadsNatural : ℕ → ℕ → List ℕ → Result ℕ NumberFault → Type 0
ReadsNatural low high s r =
    (n : ℕ) → (r ≡ Ok n → (s ≡ decimal n) × (low ≤ n) × (n ≤ high))
    × (s ≡ decimal n → low ≤ n → n ≤ high → r ≡ Ok n)

abbrev pub ReadsSigned : ℤ → ℤ → List ℕ → Result ℤ NumberFault → Type 0
ReadsSigned low high s r =
    (z : ℤ) → (r ≡ Ok z → (s ≡ signed_decimal z) × (low ≤ℤ z) × (z ≤ℤ high))
    × (s ≡ signed_decimal z → low ≤ℤ z → z ≤ℤ high → r ≡ Ok z)
