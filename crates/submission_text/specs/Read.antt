-- How a submission file is read: four leading figures, the number of pairs, then that many pairs.
use Rattle.std.specs.Prelude.{ℕ, zero, suc, ◌+◌, ◌-◌, List, [], ◌∷◌, ◌++◌, ℤ, pos, negsuc, Some, None, Ok, Err, codes, Option, Result}
use Rattle.text.specs.declared.number.NumberFault.{NumberFault}
use Rattle.text.specs.declared.number.NumberFault.TheVariants.{Form}
use Rattle.text.specs.declared.line.LineFault.{LineFault}
use Rattle.text.specs.declared.refusal.Refusal.{Refusal}
use Rattle.text.specs.Numbers.{natural_of, signed_of}
use Rattle.text.specs.Lines.{before, after, line_of, natural_line_of, placed, and_then, closed}
use Rattle.offers.specs.declared.pair.Pair.{Pair}
use Rattle.offers.specs.declared.curve.Curve.{Curve}
use Rattle.offers.specs.Curves.{curve, stored}
use Rattle.submission_text.specs.declared.file.Head.{Head}
use Rattle.submission_text.specs.declared.file.SubmissionFile.{SubmissionFile}

abbrev pub priced : ℤ → Result ℕ NumberFault → Result Pair NumberFault
priced p (Ok k) = Ok record { price = p; kw = k }
priced p (Err e) = Err e

abbrev pub rated : ℕ → ℤ → Option (List ℕ) → Result Pair NumberFault
rated room p None = Err Form
rated room p (Some w) = priced p (natural_of 0 room w)

-- `price:kW`, split at the first colon, with room for so many kW
abbrev pub pair_of : ℕ → List ℕ → Result Pair NumberFault
pair_of room v =
    and_then (signed_of (negsuc 99999) (pos 100000) (before 58 v)) (λ p. rated room p (after 58 v))

-- a line `pair=price:kW`, and the bytes after it
abbrev pub pair_line_of : ℕ → List ℕ → Result (Pair × List ℕ) LineFault
pair_line_of room = line_of (pair_of room) (codes "pair")

-- n more pairs after ps, from the given line, with room for so many kW
abbrev pub pairs_from : ℕ → ℕ → ℕ → List Pair → List ℕ → Result (List Pair × List ℕ) Refusal
pairs_from zero line room ps s = Ok (ps, s)
pairs_from (suc n) line room ps s =
    and_then (placed line (pair_line_of room s)) (λ x.
    pairs_from n (line + 1) (room - x.0.kw) (ps ++ (x.0 ∷ [])) x.1)

-- the pairs from line 6 on, of at most 1,000,000 kW in all
abbrev pub pairs_of : ℕ → List ℕ → Result (List Pair × List ℕ) Refusal
pairs_of n s = pairs_from n 6 1000000 [] s

-- their curve
abbrev pub curved : Result (List Pair × List ℕ) Refusal → Result (Curve × List ℕ) Refusal
curved (Ok x) = Ok (stored (curve x.0), x.1)
curved (Err e) = Err e

-- the four leading figures
abbrev pub head_of : List ℕ → Result (Head × List ℕ) Refusal
head_of s =
    and_then (placed 1 (natural_line_of (codes "facility") 1 12 s)) (λ f.
    and_then (placed 2 (natural_line_of (codes "interval") 1 48 f.1)) (λ i.
    and_then (placed 3 (natural_line_of (codes "rampup") 1 1000000 i.1)) (λ u.
    and_then (placed 4 (natural_line_of (codes "rampdown") 1 1000000 u.1)) (λ d.
    Ok (record { facility = f.0; interval = i.0; ramp_up = u.0; ramp_down = d.0 }, d.1)))))

abbrev pub file_of : Head → Curve → SubmissionFile
file_of h c = record {
  facility = h.facility;
  interval = h.interval;
  submission = record { ramp_up = h.ramp_up; ramp_down = h.ramp_down; curve = c };
}

-- the whole file
abbrev pub read_of : List ℕ → Result SubmissionFile Refusal
read_of s =
    and_then (head_of s) (λ h.
    and_then (placed 5 (natural_line_of (codes "pairs") 0 8 h.1)) (λ n.
    and_then (curved (pairs_of n.0 n.1)) (λ q.
    closed (6 + n.0) q.1 (file_of h.0 q.0))))
