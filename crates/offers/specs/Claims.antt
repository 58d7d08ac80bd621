-- What is claimed of curves, for every list of pairs.
use Rattle.std.specs.Prelude.{◌≡◌, true, List, ◌∷◌, ℤ}
use Rattle.std.specs.List.Sorted.{IsPermutation}
use Rattle.offers.specs.Curves.{kw_at, joined, curve, in_form, same_pair, same_pairs}
use Rattle.offers.specs.declared.pair.Pair.{Pair}
use Rattle.offers.specs.declared.submission.Submission.{Submission}
use Rattle.offers.specs.contracts.pair.PairPartialEq.TheImpl.{ghosts as pairs}
use Rattle.offers.specs.contracts.submission.SubmissionPartialEq.TheImpl.{ghosts as submissions}
use Rattle.offers.specs.Submissions.{same_submission}

-- prices rise strictly, and no pair is empty
abbrev pub InForm : Type 0
InForm = (ps : List Pair) → in_form (curve ps) ≡ true

-- at every price the curve offers what its pairs offer
abbrev pub SameOffer : Type 0
SameOffer = (ps : List Pair) (z : ℤ) → kw_at z (curve ps) ≡ kw_at z ps

-- two lists have equal curves exactly when they offer the same kW at every price
abbrev pub OneCurve : Type 0
OneCurve = (ps qs : List Pair) →
    (curve ps ≡ curve qs → (z : ℤ) → kw_at z ps ≡ kw_at z qs)
    × (((z : ℤ) → kw_at z ps ≡ kw_at z qs) → curve ps ≡ curve qs)

-- a pair split in two, an empty pair and another order give the same curve
abbrev pub Splitting : Type 0
Splitting = (p q : Pair) (ps : List Pair) → p.price ≡ q.price → curve (p ∷ (q ∷ ps)) ≡ curve (joined p q ∷ ps)

abbrev pub Emptying : Type 0
Emptying = (p : Pair) (ps : List Pair) → p.kw ≡ 0 → curve (p ∷ ps) ≡ curve ps

abbrev pub Reordering : Type 0
Reordering = (ps qs : List Pair) → IsPermutation ps qs → curve ps ≡ curve qs

-- pairs in form are their own curve
abbrev pub OwnCurve : Type 0
OwnCurve = (ps : List Pair) → in_form ps ≡ true → curve ps ≡ ps

-- the test of equality tells equality
abbrev pub SamePairs : Type 0
SamePairs = (ps qs : List Pair) → (same_pairs ps qs ≡ true → ps ≡ qs) × (ps ≡ qs → same_pairs ps qs ≡ true)

-- `==`, which is derived, answers by price and kW at two pairs, and by ramps and curve at two submissions
abbrev pub EqualPairs : Type 0
EqualPairs = (p q : Pair) → pairs.eq p q ≡ same_pair p q

abbrev pub EqualSubmissions : Type 0
EqualSubmissions = (s t : Submission) → submissions.eq s t ≡ same_submission s t
