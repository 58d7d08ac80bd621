-- Answers as they are told and compared.
use Rattle.std.specs.Prelude.{ℕ, Bool, true, false, if◌then◌else◌, List, map, ℤ, pos, neg_ℤ, Some, None, Option, codes, ◌==◌}
use Rattle.std.specs.Fmt.{signed_decimal}
use Rattle.std.specs.Ordering.{int_eq}
use Rattle.std.specs.Str.{bytes_eq}
use Rattle.schedule.specs.declared.direction.OutOfMerit.{OutOfMerit}
use Rattle.schedule.specs.declared.direction.OutOfMerit.TheVariants.{Upward, Downward, Neither}
use Rattle.worked_figures.specs.declared.answer.Answer.{Answer}
use Rattle.worked_figures.specs.declared.answer.Answer.TheVariants.{Nothing, Number, Text}

-- no answer, a number, or a text
pub data Told : Type 0 where
  nothing : Told
  number : (z : ℤ) → Told
  text : (bytes : List ℕ) → Told

abbrev pub told : Answer → Told
told Nothing = nothing
told (Number z) = number z
told (Text bytes) = text bytes.items

abbrev pub same : Told → Told → Bool
same nothing nothing = true
same nothing (number y) = false
same nothing (text t) = false
same (number x) nothing = false
same (number x) (number y) = int_eq x y
same (number x) (text t) = false
same (text s) nothing = false
same (text s) (number y) = false
same (text s) (text t) = bytes_eq s t

-- a number where there is one
abbrev pub number_if : Option ℤ → Told
number_if None = nothing
number_if (Some z) = number z

-- upward energy as it is, downward energy below zero
abbrev pub directed : OutOfMerit → ℤ
directed (Upward x) = pos x
directed (Downward x) = neg_ℤ (pos x)
directed Neither = pos 0

-- a text on one line: a slash for each line feed
abbrev pub in_line : ℕ → ℕ
in_line byte = if byte == 10 then 47 else byte

abbrev pub shown : Told → List ℕ
shown nothing = codes "nothing"
shown (number z) = signed_decimal z
shown (text bytes) = map in_line bytes
