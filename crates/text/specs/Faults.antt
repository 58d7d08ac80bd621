-- The first faulty line of a text is told, with its number: of texts of lines of which some are
-- accepted.
use Rattle.std.specs.Prelude.{◌≡◌, ℕ, zero, suc, ◌⊎◌, ◌↔◌, List, [], ◌∷◌, ◌++◌, codes}
use Rattle.std.specs.Option.{option_map_or}
use Rattle.text.specs.declared.refusal.Refusal.{Refusal}
use Rattle.text.specs.Lines.{before, after}
use Rattle.text.specs.Refusals.{refusal_number, cause}

-- the first n lines: the bytes up to and with the n-th line feed, or all where there are fewer
abbrev pub first_lines : ℕ → List ℕ → List ℕ
first_lines zero s = []
first_lines (suc n) s =
    before 10 s ++ option_map_or (λ rest. 10 ∷ first_lines n rest) (after 10 s) []

-- the line after the first n, without its line feed; no bytes where there is no such line
abbrev pub line_after : ℕ → List ℕ → List ℕ
line_after zero s = before 10 s
line_after (suc n) s = option_map_or (line_after n) (after 10 s) []

-- the line begins with `key=`
abbrev pub HasKey : List ℕ → List ℕ → Type 0
HasKey key line = (value : List ℕ) × (line ≡ key ++ (codes "=" ++ value))

-- ---- texts of which some are accepted
-- some accepted text has the same first n lines
abbrev pub CanGoOn : (List ℕ → Type 0) → ℕ → List ℕ → Type 0
CanGoOn Accepted n s = (t : List ℕ) × Accepted t × (first_lines n t ≡ first_lines n s)

-- the first n lines are an accepted text by themselves
abbrev pub IsWhole : (List ℕ → Type 0) → ℕ → List ℕ → Type 0
IsWhole Accepted n s = Accepted (first_lines n s)

-- with a line feed put behind the text, its first n lines begin an accepted one
abbrev pub FeedMends : (List ℕ → Type 0) → ℕ → List ℕ → Type 0
FeedMends Accepted n s = CanGoOn Accepted n (s ++ codes "\n")

-- the line after the first `good` ones is the first faulty one, and the number says what is wrong
-- with it; `due n` is the key of the line after the first n
pub record FaultAfter (Accepted : List ℕ → Type 0) (due : ℕ → List ℕ) (s : List ℕ)
    (good number : ℕ) : Type 0 where
  -- the lines before it begin an accepted text
  pub begun : CanGoOn Accepted good s
  -- and with it they begin none
  pub faulty : ¬ CanGoOn Accepted (suc good) s
  -- 20: a line was due, and this one has not the due key
  pub wrong_key : (number ≡ 20)
      ↔ (¬ IsWhole Accepted good s × ¬ HasKey (due good) (line_after good s))
  -- 21: it has the due key, and not the line feed alone is wanting
  pub bad_number : (number ≡ 21)
      ↔ (¬ IsWhole Accepted good s × HasKey (due good) (line_after good s)
      × ¬ FeedMends Accepted (suc good) s)
  -- 22: no line was due, or the line feed alone is wanting
  pub bad_end : (number ≡ 22)
      ↔ (IsWhole Accepted good s ⊎ FeedMends Accepted (suc good) s)

-- the text is refused for its first faulty line
pub record FirstFaultOf (Accepted : List ℕ → Type 0) (due : ℕ → List ℕ) (s : List ℕ)
    (r : Refusal) : Type 0 where
  -- how many lines stand before it
  pub good : ℕ
  -- the line that is told is the next
  pub place : r.line ≡ suc good
  -- and it is the first faulty one, for the number that is told
  pub fault : FaultAfter Accepted due s good (refusal_number (cause r.fault))

-- two refusals of one text differ neither in line nor in number
abbrev pub SameFault : Refusal → Refusal → Type 0
SameFault q r =
    (q.line ≡ r.line) × (refusal_number (cause q.fault) ≡ refusal_number (cause r.fault))
