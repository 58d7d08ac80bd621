-- Figures as they are shown, line by line.
use Rattle.std.specs.Prelude.{ℕ, Bool, not, if◌then◌else◌, List, ◌++◌, length, count_by, codes, decimal}
use Rattle.std.specs.List.{flat_map}
use Rattle.worked_figures.specs.Answers.{Told, same, shown}

-- what a figure is of, what it should be, and what it came to
pub record Shown : Type 0 where
  pub what : List ℕ
  pub expected : Told
  pub computed : Told

abbrev pub is_equal : Shown → Bool
is_equal f = same f.expected f.computed

abbrev pub differs : Shown → Bool
differs f = not (is_equal f)

abbrev pub verdict : Shown → List ℕ
verdict f = if is_equal f then codes "equal" else codes "DIFFERS"

abbrev pub line_of : Shown → List ℕ
line_of f =
    f.what ++ codes ": expected " ++ shown f.expected ++ codes ", computed " ++ shown f.computed ++ codes ", " ++ verdict f ++ codes "\n"

-- how many figures there are, and how many of them differ
abbrev pub tally_line : ℕ → ℕ → List ℕ
tally_line all differ = decimal all ++ (codes " figures, " ++ (decimal differ ++ codes " differ\n"))

-- each figure on a line of its own, then the tally
abbrev pub report_of : List Shown → List ℕ
report_of fs = flat_map line_of fs ++ tally_line (length fs) (count_by differs fs)
