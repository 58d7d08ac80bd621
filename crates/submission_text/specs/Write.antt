-- The written form of a submission file, and what the intake answers to a text.
use Rattle.std.specs.Prelude.{ℕ, List, [], ◌∷◌, ◌++◌, length, Ok, Err, codes, decimal, Result}
use Rattle.std.specs.Fmt.{signed_decimal}
use Rattle.text.specs.declared.refusal.Refusal.{Refusal}
use Rattle.text.specs.Lines.{line_text}
use Rattle.text.specs.Refusals.{refusal_number, cause}
use Rattle.offers.specs.declared.pair.Pair.{Pair}
use Rattle.offers.specs.Curves.{listed}
use Rattle.submission_text.specs.declared.file.Head.{Head}
use Rattle.submission_text.specs.declared.file.SubmissionFile.{SubmissionFile}
use Rattle.submission_text.specs.Read.{read_of}

-- the four leading figures of a file, and its pairs
abbrev pub head : SubmissionFile → Head
head x = record {
  facility = x.facility;
  interval = x.interval;
  ramp_up = x.submission.ramp_up;
  ramp_down = x.submission.ramp_down;
}

abbrev pub pairs : SubmissionFile → List Pair
pairs x = listed x.submission.curve

unfoldable pub pair_text : Pair → List ℕ
pair_text p =
    codes "pair=" ++ (signed_decimal p.price ++ (codes ":" ++ (decimal p.kw ++ codes "\n")))

abbrev pub pairs_text : List Pair → List ℕ
pairs_text [] = []
pairs_text (p ∷ ps) = pair_text p ++ pairs_text ps

abbrev pub head_text : Head → List ℕ
head_text h =
    line_text (codes "facility") h.facility
    ++ (line_text (codes "interval") h.interval
    ++ (line_text (codes "rampup") h.ramp_up
    ++ line_text (codes "rampdown") h.ramp_down))

-- the lines of a file with these pairs
abbrev pub file_text : Head → List Pair → List ℕ
file_text h ps = head_text h ++ (line_text (codes "pairs") (length ps) ++ pairs_text ps)

-- the written form carries the pairs of the curve
abbrev pub written_form : SubmissionFile → List ℕ
written_form x = file_text (head x) (pairs x)

-- a refusal in two lines
abbrev pub refusal_text : Refusal → List ℕ
refusal_text r =
    line_text (codes "refused") (refusal_number (cause r.fault)) ++ line_text (codes "line") r.line

abbrev pub answer_to : Result SubmissionFile Refusal → List ℕ
answer_to (Ok x) = written_form x
answer_to (Err r) = refusal_text r

-- what the intake prints for a text
abbrev pub answer_text : List ℕ → List ℕ
answer_text s = answer_to (read_of s)
