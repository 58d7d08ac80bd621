-- How far the reading of an input came.
use Rattle.std.specs.Prelude.{◌≡◌, ℕ, ◌+◌, ◌==◌, List, Option, count_by}
use Rattle.std.specs.Io.KnownBytes.{Consumes}

-- the number of the line that comes after these bytes, or that the last of them stands on: one more
-- than the line feeds in them
abbrev pub line_after : List ℕ → ℕ
line_after bytes = count_by (λ b. b == 10) bytes + 1

-- a front of the input was taken and nothing else, and this is the number of the line after it
abbrev pub StopsOnLine : Option (List ℕ) → Option (List ℕ) → ℕ → Type 0
StopsOnLine old new line =
    (front : List ℕ) × Consumes old new front × (line ≡ line_after front)
