-- The words of a line, and what is read from them one after another.
use Rattle.std.specs.Prelude.{ℕ, ◌+◌, List, [], ◌∷◌, if◌then◌else◌, ℤ, pos, negsuc, Some, None, Ok, Err, Option, Result, codes, ◌==◌}
use Rattle.std.specs.List.{slice_split}
use Rattle.std.specs.Option.{option_map, option_and_then}
use Rattle.std.specs.Result.{result_ok}
use Rattle.std.specs.Str.{bytes_eq}
use Rattle.text.specs.Numbers.{natural_of, signed_of}
use Rattle.text.specs.Lines.{before, after as bytes_after, and_then}
use Rattle.offers.specs.declared.pair.Pair.{Pair}
use Rattle.day_text.specs.declared.fault.WordFault.{WordFault}
use Rattle.day_text.specs.declared.fault.WordFault.TheVariants.{Missing, TooMany, NoNumber, NoPair, NoJournal}

-- how many words are passed, and those that are still to be read
pub record Words : Type 0 where
  pub passed : ℕ
  pub left : List (List ℕ)

-- what stands between single spaces; two spaces in a row have an empty word between them
abbrev pub word_list : List ℕ → List (List ℕ)
word_list s = slice_split (λ c. c == 32) s

abbrev pub words : List ℕ → Words
words s = record { passed = 0; left = word_list s }

-- the words of what is left of a line, of which nothing is left behind its last word
abbrev pub words_left : Option (List ℕ) → List (List ℕ)
words_left None = []
words_left (Some s) = word_list s

abbrev pub next_of : ℕ → List (List ℕ) → Option (List ℕ × Words)
next_of p [] = None
next_of p (w ∷ ws) = Some (w, record { passed = p + 1; left = ws })

-- the next word, and the words after it
abbrev pub next_word : Words → Option (List ℕ × Words)
next_word ws = next_of ws.passed ws.left

abbrev pub after_of : ℕ → List (List ℕ) → Words
after_of p [] = record { passed = p; left = [] }
after_of p (w ∷ ws) = record { passed = p + 1; left = ws }

abbrev pub after : Words → Words
after ws = after_of ws.passed ws.left

abbrev pub or_wrong : {X : Type 0} → Option X → WordFault → Result X WordFault
or_wrong (Some x) e = Ok x
or_wrong None e = Err e

-- what a word says, or what is wrong with it by its number
abbrev pub said : {X : Type 0} → (List ℕ → Option X) → (ℕ → WordFault) → ℕ → List ℕ → Result X WordFault
said read wrong k w = or_wrong (read w) (wrong k)

-- the next word and the words after it; one that is not there is missing
abbrev pub due : Words → Result (List ℕ × Words) WordFault
due ws = or_wrong (next_word ws) Missing

-- what the next word says, and the words after it
abbrev pub first : {X : Type 0} → (List ℕ → Option X) → (ℕ → WordFault) → Words → Result (X × Words) WordFault
first read wrong ws = and_then (due ws) (λ n. and_then (said read wrong n.1.passed n.0) (λ x. Ok (x, n.1)))

-- the words after the next, which must be `journal`
abbrev pub past : Words → Result Words WordFault
past ws = and_then (due ws) (λ n. if bytes_eq n.0 (codes "journal") then Ok n.1 else Err NoJournal)

abbrev pub ended_by : {X : Type 0} → X → Option (List ℕ × Words) → Result X WordFault
ended_by x None = Ok x
ended_by x (Some n) = Err (TooMany n.1.passed)

-- no word may be left
abbrev pub ended : {X : Type 0} → X → Words → Result X WordFault
ended x ws = ended_by x (next_word ws)

-- ---- numbers
abbrev pub natural : ℕ → ℕ → List ℕ → Option ℕ
natural low high w = result_ok (natural_of low high w)

abbrev pub no_number : ℕ → ℕ → ℕ → WordFault
no_number low high k = NoNumber k (record { low = pos low; high = pos high })

-- of 32 bits without a sign
abbrev pub number : List ℕ → Option ℕ
number w = natural 0 4294967295 w

abbrev pub no_number_of_32 : ℕ → WordFault
no_number_of_32 k = no_number 0 4294967295 k

-- of 32 bits with a sign
abbrev pub integer : List ℕ → Option ℤ
integer w = result_ok (signed_of (negsuc 2147483647) (pos 2147483647) w)

abbrev pub no_integer : ℕ → WordFault
no_integer k = NoNumber k (record { low = negsuc 2147483647; high = pos 2147483647 })

-- of 64 bits with a sign
abbrev pub cents : List ℕ → Option ℤ
cents w = result_ok (signed_of (negsuc 9223372036854775807) (pos 9223372036854775807) w)

abbrev pub no_cents : ℕ → WordFault
no_cents k = NoNumber k (record { low = negsuc 9223372036854775807; high = pos 9223372036854775807 })

-- ---- pairs
abbrev pub rated : ℤ → Option (List ℕ) → Option Pair
rated p w = option_and_then (λ v. option_map (λ k. record { price = p; kw = k }) (number v)) w

-- `price:kW`, parted at the first colon
abbrev pub pair_of : List ℕ → Option Pair
pair_of w = option_and_then (λ p. rated p (bytes_after 58 w)) (integer (before 58 w))

abbrev pub no_pair : ℕ → WordFault
no_pair k = NoPair k

-- the first word that is no pair, behind so many words
abbrev pub pairs_from : ℕ → List (List ℕ) → Result (Unit {0}) WordFault
pairs_from p [] = Ok tt
pairs_from p (w ∷ ws) = and_then (said pair_of no_pair (p + 1) w) (λ x. pairs_from (p + 1) ws)

abbrev pub onto : Option Pair → List Pair → List Pair
onto None ps = ps
onto (Some p) ps = p ∷ ps

-- the words that are pairs
abbrev pub pairs_in : List (List ℕ) → List Pair
pairs_in [] = []
pairs_in (w ∷ ws) = onto (pair_of w) (pairs_in ws)
