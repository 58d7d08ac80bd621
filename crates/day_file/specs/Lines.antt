-- The lines of a file, and their numbers.
use Rattle.std.specs.Prelude.{ℕ, ◌+◌, List, [], ◌∷◌, Some, None, Option, ◌==◌}
use Rattle.std.specs.List.{slice_split}

-- how many lines are passed, and those that are still to be read
pub record Numbered : Type 0 where
  pub passed : ℕ
  pub left : List (List ℕ)

-- the last line may lack its line feed
abbrev pub lines : List ℕ → List (List ℕ)
lines s = slice_split (λ c. c == 10) s

abbrev pub numbered : List ℕ → Numbered
numbered s = record { passed = 0; left = lines s }

-- the lines of what is left of a file, of which nothing is left behind its last line
abbrev pub lines_left : Option (List ℕ) → List (List ℕ)
lines_left None = []
lines_left (Some s) = lines s

abbrev pub next_of : ℕ → List (List ℕ) → Option ((ℕ × List ℕ) × Numbered)
next_of p [] = None
next_of p (s ∷ ss) = Some ((p + 1, s), record { passed = p + 1; left = ss })

-- the next line with its number, and the lines after it
abbrev pub next_line : Numbered → Option ((ℕ × List ℕ) × Numbered)
next_line l = next_of l.passed l.left
