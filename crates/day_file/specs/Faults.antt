-- The faulty lines of a day file, and its terms, for every string of bytes.
use Rattle.std.specs.Prelude.{ℕ, ◌+◌, List, [], ◌∷◌, ◌++◌, Ok, Err, Result, codes, decimal}
use Rattle.day_text.specs.declared.fault.Fault.{Fault}
use Rattle.day_text.specs.declared.line.DayLine.{DayLine}
use Rattle.day_text.specs.Faults.{fault_text}
use Rattle.day_text.specs.Lines.{line_of}
use Rattle.day_file.specs.declared.terms.Terms.{Terms}
use Rattle.day_file.specs.Lines.{lines}
use Rattle.day_file.specs.Terms.{blank_terms, with_line}

-- what is told of a faulty line
abbrev pub fault_line : ℕ → Fault → List ℕ
fault_line n f = decimal n ++ (codes ": " ++ (fault_text f ++ codes "\n"))

abbrev pub placed : Terms → Result DayLine Fault → Result Terms Fault
placed t (Ok l) = with_line t l
placed t (Err f) = Err f

-- the terms after a line, or what is wrong with the line or with its place
abbrev pub read : Terms → List ℕ → Result Terms Fault
read t s = placed t (line_of s)

-- a faulty line leaves the terms as they were
abbrev pub or_before : Terms → Result Terms Fault → Terms
or_before t (Ok u) = u
or_before t (Err f) = t

abbrev pub told_of : ℕ → Result Terms Fault → List ℕ
told_of n (Ok u) = []
told_of n (Err f) = fault_line n f

-- the terms after lines
abbrev pub terms_after : Terms → List (List ℕ) → Terms
terms_after t [] = t
terms_after t (s ∷ ss) = terms_after (or_before t (read t s)) ss

-- what is told of the faulty ones among lines from number n on
abbrev pub faults_from : Terms → ℕ → List (List ℕ) → List ℕ
faults_from t n [] = []
faults_from t n (s ∷ ss) = told_of n (read t s) ++ faults_from (or_before t (read t s)) (n + 1) ss

abbrev pub terms_of : List ℕ → Terms
terms_of file = terms_after blank_terms (lines file)

abbrev pub faults_text : List ℕ → List ℕ
faults_text file = faults_from blank_terms 1 (lines file)
