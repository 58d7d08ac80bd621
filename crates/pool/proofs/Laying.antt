-- The submission that lodge lays is sound.
use Rattle.std.proofs.Common.{◌≡◌, ℕ, ◌*◌, ◌≤◌, Bool, true, cond, ◌&&◌, leb, List, [], ◌∷◌, length, drop, replicate, Some, None, Ok, unwrap_or, refl, ap, ◌∙◌, arith, leb-true}
use Rattle.std.proofs.lemmas.List.{take_at}
use Rattle.std.proofs.lemmas.Bool.Decides.{nat_tests}
use Rattle.offers.specs.declared.pair.Pair.{Pair}
use Rattle.offers.specs.Tests.{all}
use Rattle.offers.specs.Curves.{curve, curve_of, stored, listed, in_form, total, no_pair}
use Rattle.offers.specs.declared.curve.Curve.{Curve}
use Rattle.offers.proofs.Tests.{and_first, and_second, and_both}
use Rattle.offers.proofs.InForm.{length_curve, all_curve, all_offering, all_and, under_total}
use Rattle.offers.proofs.Claims.{curve_in_form}
use Rattle.sheets.specs.declared.facility.Facility.{Facility}
use Rattle.sheets.specs.declared.facility.Prices.{Prices}
use Rattle.sheets.specs.Tests.{every, within_int}
use Rattle.pool.specs.Checks.{Check, figures}
use Rattle.sheets.specs.Spans.{facility_sound, account_fits, factor_fits, capacity_fits}
use Rattle.sheets.specs.Sheets.{submission_sound, pair_fits, ramp_fits}
use Rattle.pool.specs.Day.{pair_figures, lodge_figures, submitted}
use Rattle.pool.proofs.Passing.{figures_pass}

stored_listed : (ps : List Pair) → listed (stored (curve ps)) ≡ curve ps
stored_listed ps = take_at (curve ps) (drop (length (curve ps)) (replicate 8 no_pair)) (length (curve ps)) refl

-- the curve that is made of pairs that fit
pub curve_made : (ps : List Pair) (k : Curve) → length ps ≤ 8 → total ps ≤ 4294967295 → Some k ≡ curve_of ps → k ≡ stored (curve ps)
curve_made ps k few small h =
    let t : (leb (length ps) 8 && leb (total ps) 4294967295) ≡ true = and_both (leb (length ps) 8) _ (grind (arith, nat_tests)) (grind (arith, nat_tests)) in
    ap (λ o. unwrap_or o k) (h ∙ ap (λ b. cond b (Some (stored (curve ps))) None) t)

pub made_total : (ps : List Pair) (k : Curve) → k ≡ stored (curve ps) → total (listed k) ≡ total (curve ps)
made_total ps k e = ap (λ x. total (listed x)) e ∙ ap total (stored_listed ps)

pub pairs_priced : (z : Prices) (ps : List Pair) → every (pair_figures z ps) ≡ true → all (λ p. within_int z.low p.price z.high) ps ≡ true
pairs_priced z [] h = refl
pairs_priced z (p ∷ ps) h =
    let a = within_int z.low p.price z.high in
    and_both a _ (and_first a _ h) (pairs_priced z ps (and_second (leb p.kw 1000000) _ (and_second a _ h)))

pub pairs_total : (z : Prices) (ps : List Pair) → every (pair_figures z ps) ≡ true → total ps ≤ 1000000 * length ps
pairs_total z [] h = omega arith
pairs_total z (p ∷ ps) h =
    let a = within_int z.low p.price z.high in
    let r = and_second a _ h in
    let k : p.kw ≤ 1000000 = leb-true p.kw 1000000 (and_first (leb p.kw 1000000) _ r) in
    omega (arith, pairs_total z ps (and_second (leb p.kw 1000000) _ r))

pub capacity_under : (f : Facility) → facility_sound f ≡ true → f.capacity ≤ 1000000
capacity_under f h = leb-true f.capacity 1000000 (and_second (leb 1 f.capacity) _ (and_first (capacity_fits f.capacity) _ (and_second (factor_fits f.loss_factor) _ (and_second (account_fits f.account) _ h))))

fits_curve : (z : Prices) (ps : List Pair) → every (pair_figures z ps) ≡ true → total (curve ps) ≤ 1000000 → all (pair_fits z) (curve ps) ≡ true
fits_curve z ps h t =
    let Priced : Pair → Bool = λ p. within_int z.low p.price z.high in
    all_and Priced (λ p. leb p.kw 1000000) (curve ps)
    (all_curve Priced (λ p q a b. a) ps (all_offering Priced ps (pairs_priced z ps h)))
    (under_total 1000000 (curve ps) t)

-- what lodge submits is sound, once its figures fit and the capacity holds its curve
pub submitted_sound : (z : Prices) (f : Facility) (u w : ℕ) (ps : List Pair) → length ps ≤ 8 → ◌≡◌ {A = Check} (Ok tt) (figures 1 (lodge_figures z u w ps)) → facility_sound f ≡ true → total (curve ps) ≤ f.capacity → submission_sound z f (submitted u w ps) ≡ true
submitted_sound z f u w ps few spans sound cap =
    let h = figures_pass 1 (lodge_figures z u w ps) spans in
    let h2 = and_second (ramp_fits u) _ h in
    let h3 = and_second (ramp_fits w) _ h2 in
    let c = curve ps in
    let Form : List Pair → Bool = λ xs. in_form xs && (all (pair_fits z) xs && leb (total xs) f.capacity) in
    let form : Form c ≡ true =
    and_both (in_form c) _ (curve_in_form ps)
    (and_both (all (pair_fits z) c) (leb (total c) f.capacity) (fits_curve z ps h3 (omega (arith, capacity_under f sound))) (grind (arith, nat_tests))) in
    let listed_form = ap Form (stored_listed ps) ∙ form in
    let xs = listed (stored c) in
    and_both (ramp_fits u) _ (and_first (ramp_fits u) _ h)
    (and_both (ramp_fits w) _ (and_first (ramp_fits w) _ h2)
    (and_both (leb (length c) 8 && in_form xs) _
    (and_both (leb (length c) 8) (in_form xs) (let l = length_curve ps in grind (arith, nat_tests)) (and_first (in_form xs) _ listed_form))
    (and_second (in_form xs) _ listed_form)))
