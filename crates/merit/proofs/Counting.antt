-- The offers have each pair of each curve once.
use Rattle.std.proofs.Common.{◌≡◌, ℕ, zero, suc, ◌+◌, ◌<◌, true, false, cond, eqb, ◌≢◌, List, [], ◌∷◌, ◌++◌, length, get_or, Some, None, filter, Option, refl, ap, ◌∙◌, subst, arith}
use Rattle.std.proofs.lemmas.List.Elements.{filter-append}
use Rattle.std.proofs.lemmas.List.{append-nil, length-append}
use Rattle.std.proofs.lemmas.Bool.Decides.{nat_tests}
use Rattle.offers.specs.declared.pair.Pair.{Pair}
use Rattle.offers.specs.declared.submission.Submission.{Submission}
use Rattle.offers.specs.Curves as curves
use Rattle.sheets.specs.declared.facility.Facility.{Facility}
use Rattle.sheets.specs.declared.row.Figures.{Figures}
use Rattle.sheets.specs.Sheets.{offer, offers, no_facility, no_figures}
use Rattle.merit.specs.declared.rung.Rung.{Rung}
use Rattle.merit.specs.Rungs.{rung_of, rungs_from, curve, offers_from, offers_of}
use Rattle.merit.specs.Prices.{total}
use Rattle.merit.specs.Claims.{owned_by, pairs_in, EachPairOnce}

pub length_rungs : (f : Facility) (n k : ℕ) (ps : List Pair) → length (rungs_from f n k ps) ≡ length ps
length_rungs f n k [] = refl
length_rungs f n k (p ∷ ps) = ap suc (length_rungs f n (k + 1) ps)

pub total_append : (xs ys : List Rung) → total (xs ++ ys) ≡ total xs + total ys
total_append [] ys = omega arith
total_append (x ∷ xs) ys = let h = total_append xs ys in omega arith

total_rungs : (f : Facility) (n k : ℕ) (ps : List Pair) → total (rungs_from f n k ps) ≡ curves.total ps
total_rungs f n k [] = refl
total_rungs f n k (p ∷ ps) = ap (λ x. p.kw + x) (total_rungs f n (k + 1) ps)

offer_curve : (o : Option Submission) → offer o ≡ curves.total (curve o)
offer_curve None = refl
offer_curve (Some s) = refl

total_from : (n : ℕ) (fs : List Facility) (gs : List Figures) → length fs ≡ length gs → total (offers_from n fs gs) ≡ offers gs
total_from n [] [] e = refl
total_from n [] (g ∷ gs) e = absurd (omega arith)
total_from n (f ∷ fs) [] e = absurd (omega arith)
total_from n (f ∷ fs) (g ∷ gs) e =
    omega (arith, total_append (rungs_from f n 1 (curve g.submission)) (offers_from (n + 1) fs gs), total_rungs f n 1 (curve g.submission), offer_curve g.submission, total_from (n + 1) fs gs (omega arith))

pub total_offers : (fs : List Facility) (gs : List Figures) → length fs ≡ length gs → total (offers_of fs gs) ≡ offers gs
total_offers = total_from 1

length_from : (n : ℕ) (fs : List Facility) (gs : List Figures) → length fs ≡ length gs → length (offers_from n fs gs) ≡ pairs_in gs
length_from n [] [] e = refl
length_from n [] (g ∷ gs) e = absurd (omega arith)
length_from n (f ∷ fs) [] e = absurd (omega arith)
length_from n (f ∷ fs) (g ∷ gs) e =
    omega (arith, length-append (rungs_from f n 1 (curve g.submission)) (offers_from (n + 1) fs gs), length_rungs f n 1 (curve g.submission), length_from (n + 1) fs gs (omega arith))

-- ---- the rungs with one number
kept_own : (m : ℕ) (f : Facility) (k : ℕ) (ps : List Pair) → filter (owned_by m) (rungs_from f m k ps) ≡ rungs_from f m k ps
kept_own m f k [] = refl
kept_own m f k (p ∷ ps) =
    let t : eqb m m ≡ true = grind (arith, nat_tests) in
    ap (λ b. cond b (rung_of f m k p ∷ filter (owned_by m) (rungs_from f m (k + 1) ps)) (filter (owned_by m) (rungs_from f m (k + 1) ps))) t
    ∙ ap (λ xs. rung_of f m k p ∷ xs) (kept_own m f (k + 1) ps)

kept_other : (m n : ℕ) (f : Facility) (k : ℕ) (ps : List Pair) → m ≢ n → filter (owned_by m) (rungs_from f n k ps) ≡ []
kept_other m n f k [] no_way = refl
kept_other m n f k (p ∷ ps) apart =
    let t : eqb n m ≡ false = grind (arith, nat_tests) in
    ap (λ b. cond b (rung_of f n k p ∷ filter (owned_by m) (rungs_from f n (k + 1) ps)) (filter (owned_by m) (rungs_from f n (k + 1) ps))) t
    ∙ kept_other m n f (k + 1) ps apart

kept_later : (m n : ℕ) (fs : List Facility) (gs : List Figures) → m < n → filter (owned_by m) (offers_from n fs gs) ≡ []
kept_later m n [] gs lt = refl
kept_later m n (f ∷ fs) [] lt = refl
kept_later m n (f ∷ fs) (g ∷ gs) lt =
    let ps = curve g.submission in
    let apart : m ≢ n = omega arith in
    filter-append (owned_by m) (rungs_from f n 1 ps) (offers_from (n + 1) fs gs)
    ∙ ap (λ xs. xs ++ filter (owned_by m) (offers_from (n + 1) fs gs)) (kept_other m n f 1 ps apart)
    ∙ kept_later m (n + 1) fs gs (omega arith)

kept_at : (m n i : ℕ) (fs : List Facility) (gs : List Figures) → m ≡ n + i → length fs ≡ length gs → i < length fs →
    filter (owned_by m) (offers_from n fs gs) ≡ rungs_from (get_or fs i no_facility) m 1 (curve (get_or gs i no_figures).submission)
kept_at m n i [] gs at e lt = absurd (omega arith)
kept_at m n i (f ∷ fs) [] at e lt = absurd (omega arith)
kept_at m n zero (f ∷ fs) (g ∷ gs) at e lt =
    let ps = curve g.submission in
    let same : m ≡ n = omega arith in
    filter-append (owned_by m) (rungs_from f n 1 ps) (offers_from (n + 1) fs gs)
    ∙ ap (λ xs. filter (owned_by m) (rungs_from f n 1 ps) ++ xs) (kept_later m (n + 1) fs gs (omega arith))
    ∙ append-nil (filter (owned_by m) (rungs_from f n 1 ps))
    ∙ subst (λ x. filter (owned_by m) (rungs_from f x 1 ps) ≡ rungs_from f m 1 ps) same (kept_own m f 1 ps)
kept_at m n (suc i) (f ∷ fs) (g ∷ gs) at e lt =
    let ps = curve g.submission in
    let apart : m ≢ n = omega arith in
    filter-append (owned_by m) (rungs_from f n 1 ps) (offers_from (n + 1) fs gs)
    ∙ ap (λ xs. xs ++ filter (owned_by m) (offers_from (n + 1) fs gs)) (kept_other m n f 1 ps apart)
    ∙ kept_at m (n + 1) i fs gs (omega arith) (omega arith) (omega arith)

pub each_pair_once : EachPairOnce
each_pair_once fs gs e = (λ i lt. kept_at (i + 1) 1 i fs gs (omega arith) e lt, (length_from 1 fs gs e, total_offers fs gs e))
