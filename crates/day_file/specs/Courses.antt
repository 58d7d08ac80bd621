-- A day under way: what lines of its file do to it.
use Rattle.std.specs.Prelude.{◌≡◌, ℕ, ◌+◌, List, [], ◌∷◌, ◌++◌, length, map}
use Rattle.pool.specs.declared.call.Call.{Call}
use Rattle.pool.specs.Day.{Day}
use Rattle.pool.specs.Held.{held}
use Rattle.day.specs.Book.{Answered, blank, told}
use Rattle.day.specs.Law.{Seen, Took, Goes}
use Rattle.day_file.specs.declared.course.Course.{Course}
use Rattle.day_file.specs.Calls.{said, calls_on, numbers_on}
use Rattle.day_file.specs.Reports.{answers_text, taken_in, refused_in}

-- register and sheets
abbrev pub day_of : Course → Day
day_of c = held c.register c.rows.items

-- blank register and sheets, and nothing is printed
pub record IsBlank (sheets : ℕ) (c : Course) : Type 0 where
  pub day : day_of c ≡ told (blank sheets)
  pub text : c.text.items ≡ []
  pub calls : c.tally.calls ≡ 0
  pub taken : c.tally.taken ≡ 0
  pub refused : c.tally.refused ≡ 0

-- what is printed and counted of answers to calls on these lines
pub record Printed (numbers : List ℕ) (answers : List Answered) (c e : Course) : Type 0 where
  pub each : length numbers ≡ length answers
  pub text : e.text.items ≡ c.text.items ++ answers_text numbers answers
  pub calls : e.tally.calls ≡ c.tally.calls + length answers
  pub taken : e.tally.taken ≡ c.tally.taken + taken_in answers
  pub refused : e.tally.refused ≡ c.tally.refused + refused_in answers

-- lines from number n on: each call did what its own contract says, and its answer is printed
pub record Makes {L : Type 0} (view : Seen L) (took : Took L) (n : ℕ) (ss : List (List ℕ))
    (c : Course) (x : L) (e : Course) (z : L) : Type 0 where
  -- the calls are those of the lines, in their order
  pub calls : List Call
  pub said : map said calls ≡ calls_on ss
  pub answers : List Answered
  pub goes : Goes view took (day_of c) x calls answers (day_of e) z
  pub printed : Printed (numbers_on n ss) answers c e

-- one call, on line n
pub record MakesOne {L : Type 0} (view : Seen L) (took : Took L) (n : ℕ) (call : Call)
    (c : Course) (x : L) (e : Course) (z : L) : Type 0 where
  pub answer : Answered
  pub goes : Goes view took (day_of c) x (call ∷ []) (answer ∷ []) (day_of e) z
  pub printed : Printed (n ∷ []) (answer ∷ []) c e
