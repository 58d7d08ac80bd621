-- What the intake answers to a file, as a figure.
use Rattle.std.specs.Prelude.{ℕ, List, codes}
use Rattle.submission_text.specs.Write.{answer_text}
use Rattle.worked_figures.specs.Answers.{text}
use Rattle.worked_figures.specs.Reports.{Shown}

unfoldable pub intake_figure : List ℕ → List ℕ → Shown
intake_figure file written = record { what = codes "intake of the worked submission"; expected = text written; computed = text (answer_text file) }
