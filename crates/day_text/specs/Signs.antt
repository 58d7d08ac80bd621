-- The bytes of a line, before its words are read.
use Rattle.std.specs.Prelude.{ℕ, ◌+◌, ◌-◌, Bool, true, false, if◌then◌else◌, ◌&&◌, List, [], ◌∷◌, Ok, Err, Result, ◌==◌, nat_le}
use Rattle.day_text.specs.declared.fault.Fault.{Fault}
use Rattle.day_text.specs.declared.fault.Fault.TheVariants.{ByteOrderMark, Tab, CarriageReturn, NoText, SpaceInFront, SpacesTogether, SpaceAtEnd}

-- ---- each byte
-- ASCII, from space to `~`
abbrev pub is_text : ℕ → Bool
is_text c = nat_le 32 c && nat_le c 126

-- what is wrong with another byte, which is the k-th
abbrev pub wrong_byte : ℕ → ℕ → Fault
wrong_byte k c = if c == 9 then Tab k else if c == 13 then CarriageReturn k else NoText k

-- the first byte that is no text, from the k-th on
abbrev pub text_from : ℕ → List ℕ → Result (Unit {0}) Fault
text_from k [] = Ok tt
text_from k (c ∷ cs) = if is_text c then text_from (k + 1) cs else Err (wrong_byte k c)

abbrev pub has_mark : List ℕ → Bool
has_mark (a ∷ (b ∷ (c ∷ cs))) = (a == 239) && ((b == 187) && (c == 191))
has_mark s = false

abbrev pub all_text : List ℕ → Result (Unit {0}) Fault
all_text s = if has_mark s then Err ByteOrderMark else text_from 1 s

-- ---- the spaces
abbrev pub is_last : List (List ℕ) → Bool
is_last [] = true
is_last (w ∷ ws) = false

-- the spaces about an empty word, which is the k-th, by the words after it
abbrev pub gap : ℕ → List (List ℕ) → Fault
gap k ws = if nat_le k 1 then SpaceInFront else if is_last ws then SpaceAtEnd else SpacesTogether (k - 1)

-- the first empty word, behind so many words
abbrev pub spaced_from : ℕ → List (List ℕ) → Result (Unit {0}) Fault
spaced_from p [] = Ok tt
spaced_from p ([] ∷ ws) = Err (gap (p + 1) ws)
spaced_from p ((c ∷ w) ∷ ws) = spaced_from (p + 1) ws
