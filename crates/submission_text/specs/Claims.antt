-- What is claimed of reading and writing, for every text and every file.
use Rattle.std.specs.Prelude.{◌≡◌, ℕ, ◌≤◌, true, List, [], ◌∷◌, length, pos, negsuc, ◌≤ℤ◌, Ok, Result}
use Rattle.text.specs.declared.refusal.Refusal.{Refusal}
use Rattle.offers.specs.declared.pair.Pair.{Pair}
use Rattle.offers.specs.Curves.{total, curve, stored, in_form}
use Rattle.submission_text.specs.declared.file.Head.{Head}
use Rattle.submission_text.specs.declared.file.SubmissionFile.{SubmissionFile}
use Rattle.submission_text.specs.Read.{read_of, file_of}
use Rattle.submission_text.specs.Write.{head, pairs, file_text, written_form}

-- the spans of the four leading figures
pub record HeadFits (h : Head) : Type 0 where
  pub facility_least : 1 ≤ h.facility
  pub facility_most : h.facility ≤ 12
  pub interval_least : 1 ≤ h.interval
  pub interval_most : h.interval ≤ 48
  pub up_least : 1 ≤ h.ramp_up
  pub up_most : h.ramp_up ≤ 1000000
  pub down_least : 1 ≤ h.ramp_down
  pub down_most : h.ramp_down ≤ 1000000

abbrev pub PricesFit : List Pair → Type 0
PricesFit [] = Unit {0}
PricesFit (p ∷ ps) = (negsuc 99999 ≤ℤ p.price) × (p.price ≤ℤ pos 100000) × PricesFit ps

-- at most eight pairs, their prices in span, at most 1,000,000 kW in all
pub record PairsFit (ps : List Pair) : Type 0 where
  pub few : length ps ≤ 8
  pub prices : PricesFit ps
  pub kw : total ps ≤ 1000000

-- a text is read as a file exactly where it is the lines of figures and pairs in their spans,
-- and the file has these figures and the curve of these pairs
pub record Told (s : List ℕ) (x : SubmissionFile) : Type 0 where
  pub sent : List Pair
  pub head_fits : HeadFits (head x)
  pub pairs_fit : PairsFit sent
  pub text : s ≡ file_text (head x) sent
  pub file : x ≡ file_of (head x) (stored (curve sent))

abbrev pub ReadsLines : List ℕ → Result SubmissionFile Refusal → Type 0
ReadsLines s r = (x : SubmissionFile) → (r ≡ Ok x → Told s x) × (Told s x → r ≡ Ok x)

-- the four leading figures and the curve agree
pub record Agree (x y : SubmissionFile) : Type 0 where
  pub figures : head x ≡ head y
  pub curves : pairs x ≡ pairs y

-- a file with figures in span and a curve in form is read back from its written form
abbrev pub ReadsBack : Type 0
ReadsBack = (x : SubmissionFile) → HeadFits (head x) → PairsFit (pairs x) → in_form (pairs x) ≡ true
    → (y : SubmissionFile) × (read_of (written_form x) ≡ Ok y) × Agree x y

-- a text whose pairs are a curve already is the written form of what it is read as
abbrev pub OneText : Type 0
OneText = (s : List ℕ) (x : SubmissionFile) (t : Told s x) → in_form t.sent ≡ true
    → s ≡ written_form x

-- what is accepted is read back from its written form as the same
abbrev pub Again : Type 0
Again = (s : List ℕ) (x : SubmissionFile) → read_of s ≡ Ok x → read_of (written_form x) ≡ Ok x

-- a written form that is read and written again is itself
abbrev pub Settled : Type 0
Settled = (s : List ℕ) (x y : SubmissionFile) → read_of s ≡ Ok x → read_of (written_form x) ≡ Ok y
    → written_form y ≡ written_form x

-- two accepted files have equal written forms exactly where the four leading figures and the
-- curve agree
abbrev pub Alike : Type 0
Alike = (s t : List ℕ) (x y : SubmissionFile) → read_of s ≡ Ok x → read_of t ≡ Ok y
    → (written_form x ≡ written_form y → Agree x y) × (Agree x y → written_form x ≡ written_form y)
