-- How a line `key=value` of a text is read.
use Rattle.std.specs.Prelude.{◌≡◌, ℕ, if◌then◌else◌, List, [], ◌∷◌, ◌++◌, ℤ, Some, None, Ok, Err, codes, decimal, Option, Result, ◌==◌}
use Rattle.std.specs.Fmt.{signed_decimal}
use Rattle.std.specs.Str.{bytes_eq}
use Rattle.text.specs.declared.number.NumberFault.{NumberFault}
use Rattle.text.specs.declared.line.LineFault.{LineFault}
use Rattle.text.specs.declared.line.LineFault.TheVariants.{Key, Number, Feed, Extra}
use Rattle.text.specs.declared.refusal.Refusal.{Refusal}
use Rattle.text.specs.Numbers.{natural_of, signed_of}

-- the bytes before the first b, or all of them
abbrev pub before : ℕ → List ℕ → List ℕ
before b [] = []
before b (c ∷ cs) = if c == b then [] else c ∷ before b cs

-- the bytes after the first b, if there is one
abbrev pub after : ℕ → List ℕ → Option (List ℕ)
after b [] = None
after b (c ∷ cs) = if c == b then Some cs else after b cs

-- the bytes after `key=`: the key is what stands before the first `=`
abbrev pub keyed : List ℕ → List ℕ → Option (List ℕ)
keyed key line = if bytes_eq (before 61 line) key then after 61 line else None

-- a fault of a number is a fault of its line
abbrev pub of_number : {X : Type 0} → Result X NumberFault → Result X LineFault
of_number (Ok x) = Ok x
of_number (Err e) = Err (Number e)

-- what a reader makes of the value after the key
abbrev pub valued : {X : Type 0} → (List ℕ → Result X NumberFault) → Option (List ℕ)
    → Result X LineFault
valued f None = Err Key
valued f (Some v) = of_number (f v)

-- what the line gave, and the bytes after its line feed
abbrev pub ended : {X : Type 0} → Result X LineFault → Option (List ℕ)
    → Result (X × List ℕ) LineFault
ended (Err e) rest = Err e
ended (Ok x) None = Err Feed
ended (Ok x) (Some rest) = Ok (x, rest)

-- a line with that key whose value is read by f, and the bytes after it
abbrev pub line_of : {X : Type 0} → (List ℕ → Result X NumberFault) → List ℕ → List ℕ
    → Result (X × List ℕ) LineFault
line_of f key s = ended (valued f (keyed key (before 10 s))) (after 10 s)

-- each answer to a value is that of the reader
abbrev pub Reads : {X : Type 0} → (List ℕ → Result X NumberFault → Type 0)
    → (List ℕ → Result X NumberFault) → Type 0
Reads answers f = (v : _) (r : _) → answers v r → r ≡ f v

-- a line `key=number`
abbrev pub natural_line_of : List ℕ → ℕ → ℕ → List ℕ → Result (ℕ × List ℕ) LineFault
natural_line_of key low high = line_of (natural_of low high) key

-- a line `key=number`, with a minus before a number below zero
abbrev pub signed_line_of : List ℕ → ℤ → ℤ → List ℕ → Result (ℤ × List ℕ) LineFault
signed_line_of key low high = line_of (signed_of low high) key

-- the fault with its line
abbrev pub placed : {X : Type 0} → ℕ → Result X LineFault → Result X Refusal
placed line (Ok x) = Ok x
placed line (Err e) = Err record { line = line; fault = e }

-- the next step, unless one was refused before
abbrev pub and_then : {X Y E : Type 0} → Result X E → (X → Result Y E) → Result Y E
and_then (Ok x) f = f x
and_then (Err e) f = Err e

-- nothing may follow the last line; this is the line after it
abbrev pub closed : {X : Type 0} → ℕ → List ℕ → X → Result X Refusal
closed line [] x = Ok x
closed line (c ∷ cs) x = Err record { line = line; fault = Extra }

-- a line `key=number` as it is written
unfoldable pub line_text : List ℕ → ℕ → List ℕ
line_text key n = key ++ (codes "=" ++ (decimal n ++ codes "\n"))

-- the same of a signed number
unfoldable pub signed_line_text : List ℕ → ℤ → List ℕ
signed_line_text key z = key ++ (codes "=" ++ (signed_decimal z ++ codes "\n"))
