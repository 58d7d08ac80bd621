-- What holds of every curve: its form, its offer, and that the offer fixes it.
use Rattle.std.proofs.Common.{◌≡◌, ◌<◌, Bool, true, false, List, [], ◌∷◌, ℤ, sym, refl, ap, ◌∙◌, arith}
use lib.Signed.{lt_z}
use Rattle.std.proofs.lemmas.Bool.Decides.{nat_tests}
use Rattle.std.proofs.lemmas.Int.{ints}
use Rattle.offers.specs.declared.pair.Pair.{Pair}
use Rattle.offers.specs.Tests.{all}
use Rattle.offers.specs.Curves.{cheaper, some_kw, same_price, joined, curve, offered, kw_at, in_form, rises}
use Rattle.offers.specs.Claims.{InForm, SameOffer, OneCurve, Splitting, Emptying, Reordering, OwnCurve, SamePairs}
use Rattle.offers.proofs.Tests.{and_first, and_second, and_both}
use Rattle.offers.proofs.Merging.{prices_equal}
use Rattle.offers.proofs.InForm.{rises_curve, curve_some}
use Rattle.offers.proofs.Sums.{summed_curve, summed_shuffled, offered_none, offered_joins}
use Rattle.offers.proofs.Equal.{pairs_decide}

pub curve_in_form : InForm
curve_in_form ps = and_both (all some_kw (curve ps)) _ (curve_some ps) (rises_curve ps)

pub same_offer : SameOffer
same_offer ps z = summed_curve (offered z) (offered_joins z) (offered_none z) ps

-- ---- pairs in form are known by their offer
-- nothing is offered below the first price
below_nothing : (z : ℤ) (ps : List Pair) (q : Pair) → lt_z z q.price ≡ true → rises (q ∷ ps) ≡ true → kw_at z (q ∷ ps) ≡ 0
below_nothing z [] q l r = let o : offered z q ≡ 0 = grind (arith, ints) in omega arith
below_nothing z (p ∷ ps) q l r =
    let o : offered z q ≡ 0 = grind (arith, ints) in
    let c : cheaper q p ≡ true = and_first (cheaper q p) _ r in
    let n = below_nothing z ps p (grind (arith, ints)) (and_second (cheaper q p) _ r) in
    omega arith

-- at the first price stands the first pair alone
at_first : (p : Pair) (ps : List Pair) → rises (p ∷ ps) ≡ true → kw_at p.price (p ∷ ps) ≡ p.kw
at_first p [] r = let o : offered p.price p ≡ p.kw = grind (arith, ints) in omega arith
at_first p (q ∷ qs) r =
    let o : offered p.price p ≡ p.kw = grind (arith, ints) in
    let n = below_nothing p.price qs q (and_first (cheaper p q) _ r) (and_second (cheaper p q) _ r) in
    omega arith

pub form_some : (p : Pair) (ps : List Pair) → in_form (p ∷ ps) ≡ true → 0 < p.kw
form_some p ps h = let t = and_first (some_kw p) _ (and_first (all some_kw (p ∷ ps)) _ h) in grind (arith, nat_tests)

pub form_rises : (ps : List Pair) → in_form ps ≡ true → rises ps ≡ true
form_rises ps h = and_second (all some_kw ps) _ h

rises_rest : (p : Pair) (ps : List Pair) → rises (p ∷ ps) ≡ true → rises ps ≡ true
rises_rest p [] h = refl
rises_rest p (q ∷ qs) h = and_second (cheaper p q) _ h

pub form_rest : (p : Pair) (ps : List Pair) → in_form (p ∷ ps) ≡ true → in_form ps ≡ true
form_rest p ps h =
    and_both (all some_kw ps) _ (and_second (some_kw p) _ (and_first (all some_kw (p ∷ ps)) _ h)) (rises_rest p ps (form_rises (p ∷ ps) h))

not_cheaper : (p q : Pair) (ps qs : List Pair) → in_form (p ∷ ps) ≡ true → in_form (q ∷ qs) ≡ true → ((z : ℤ) → kw_at z (p ∷ ps) ≡ kw_at z (q ∷ qs)) → cheaper p q ≡ false
not_cheaper p q ps qs f g h =
    let Goal : Bool → Type 0 = λ b. cheaper p q ≡ b → b ≡ false in
    let go : Goal (cheaper p q) = elim (cheaper p q) as Goal [
      | true ↦ λ t.
          let n = below_nothing p.price qs q t (form_rises (q ∷ qs) g) in
          absurd (omega (arith, h p.price, at_first p ps (form_rises (p ∷ ps) f), form_some p ps f))
      | false ↦ λ _. refl
    ] in
    go refl

same_first : (p q : Pair) (ps qs : List Pair) → in_form (p ∷ ps) ≡ true → in_form (q ∷ qs) ≡ true → ((z : ℤ) → kw_at z (p ∷ ps) ≡ kw_at z (q ∷ qs)) → p ≡ q
same_first p q ps qs f g h =
    let a = not_cheaper p q ps qs f g h in
    let b = not_cheaper q p qs ps g f (λ z. sym (h z)) in
    let e : p.price ≡ q.price = prices_equal p.price q.price (grind (arith, ints)) in
    let k : p.kw ≡ q.kw = sym (at_first p ps (form_rises (p ∷ ps) f)) ∙ h p.price ∙ ap (λ x. kw_at x (q ∷ qs)) e ∙ at_first q qs (form_rises (q ∷ qs) g) in
    ap (λ x. record { price = x; kw = p.kw }) e ∙ ap (λ n. record { price = q.price; kw = n }) k

pub offer_fixes : (ps qs : List Pair) → in_form ps ≡ true → in_form qs ≡ true → ((z : ℤ) → kw_at z ps ≡ kw_at z qs) → ps ≡ qs
offer_fixes [] [] f g h = refl
offer_fixes [] (q ∷ qs) f g h = absurd (omega (arith, h q.price, at_first q qs (form_rises (q ∷ qs) g), form_some q qs g))
offer_fixes (p ∷ ps) [] f g h = absurd (omega (arith, h p.price, at_first p ps (form_rises (p ∷ ps) f), form_some p ps f))
offer_fixes (p ∷ ps) (q ∷ qs) f g h =
    let e : p ≡ q = same_first p q ps qs f g h in
    let rest : (z : ℤ) → kw_at z ps ≡ kw_at z qs = λ z. omega (arith, h z, ap (offered z) e) in
    ap (λ x. x ∷ ps) e ∙ ap (λ xs. q ∷ xs) (offer_fixes ps qs (form_rest p ps f) (form_rest q qs g) rest)

-- ---- the claims
alike : (ps qs : List Pair) → ((z : ℤ) → kw_at z ps ≡ kw_at z qs) → curve ps ≡ curve qs
alike ps qs h =
    offer_fixes (curve ps) (curve qs) (curve_in_form ps) (curve_in_form qs) (λ z. same_offer ps z ∙ h z ∙ sym (same_offer qs z))

pub one_curve : OneCurve
one_curve ps qs = (λ e z. sym (same_offer ps z) ∙ ap (kw_at z) e ∙ same_offer qs z, alike ps qs)

pub splitting : Splitting
splitting p q ps e =
    let s : same_price p q ≡ true = grind (arith, ints) in
    alike (p ∷ (q ∷ ps)) (joined p q ∷ ps) (λ z. omega (arith, offered_joins z p q s))

pub emptying : Emptying
emptying p ps e = alike (p ∷ ps) ps (λ z. omega (arith, offered_none z p e))

pub reordering : Reordering
reordering ps qs h = alike ps qs (λ z. summed_shuffled (offered z) ps qs h)

pub own_curve : OwnCurve
own_curve ps f = offer_fixes (curve ps) ps (curve_in_form ps) f (same_offer ps)

pub same_pairs_equal : SamePairs
same_pairs_equal = pairs_decide
