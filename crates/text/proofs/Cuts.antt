-- What stands before the first b and after it, by the place where it stands.
use Rattle.std.proofs.Common.{◌≡◌, ℕ, ◌+◌, ◌-◌, ◌<◌, ◌≤◌, true, false, cond, not, eqb, ltb, List, [], ◌∷◌, length, take, drop, Some, None, Option, refl, ap, ◌∙◌, arith}
use Rattle.std.specs.List.{position_or_len}
use Rattle.std.proofs.lemmas.List.{take_rest}
use Rattle.std.proofs.lemmas.Bool.Decides.{nat_tests}
use Rattle.text.specs.Lines.{before, after}

abbrev pub place_of : ℕ → List ℕ → ℕ
place_of b s = position_or_len (λ c. eqb c b) s

before_place : (b : ℕ) (s : List ℕ) → take (place_of b s) s ≡ before b s
before_place b [] = grind arith
before_place b (c ∷ cs) =
    elim (eqb c b) as (λ t. take (cond (not t) (1 + place_of b cs) 0) (c ∷ cs) ≡ cond t [] (c ∷ before b cs)) [
      | true ↦ grind arith
      | false ↦ grind (arith, before_place b cs)
    ]

after_place : (b : ℕ) (s : List ℕ) → place_of b s < length s → Some (drop (place_of b s + 1) s) ≡ after b s
after_place b [] lt = absurd (omega arith)
after_place b (c ∷ cs) lt =
    elim (eqb c b) as (λ t. cond (not t) (1 + place_of b cs) 0 < length (c ∷ cs) → Some (drop (cond (not t) (1 + place_of b cs) 0 + 1) (c ∷ cs)) ≡ cond t (Some cs) (after b cs)) [
      | true ↦ λ lt. grind arith
      | false ↦ λ lt. let h = after_place b cs (omega arith) in grind (arith, h)
    ] lt

no_place : (b : ℕ) (s : List ℕ) → length s ≤ place_of b s → (s ≡ before b s) × (◌≡◌ {A = Option (List ℕ)} None (after b s))
no_place b [] le = (refl, refl)
no_place b (c ∷ cs) le =
    elim (eqb c b) as (λ t. length (c ∷ cs) ≤ cond (not t) (1 + place_of b cs) 0 → (c ∷ cs ≡ cond t [] (c ∷ before b cs)) × (◌≡◌ {A = Option (List ℕ)} None (cond t (Some cs) (after b cs)))) [
      | true ↦ λ le. absurd (omega arith)
      | false ↦ λ le. let h = no_place b cs (omega arith) in (ap (λ l. c ∷ l) h.0, h.1)
    ] le

module _ (b : ℕ) (s : List ℕ) where
  abbrev pub place : Option ℕ
  place = cond (ltb (place_of b s) (length s)) (Some (place_of b s)) None

  pub found : (i : ℕ) (r : Option ℕ) → r ≡ place → r ≡ Some i
      → (take i s ≡ before b s) × (◌≡◌ {A = Option (List ℕ)} (Some (take (length s - (i + 1)) (drop (i + 1) s))) (after b s))
  found i r e is =
      let lt : place_of b s < length s = grind (arith, nat_tests) in
      let at : i ≡ place_of b s = grind (arith, nat_tests) in
      (ap (λ k. take k s) at ∙ before_place b s, ap Some (take_rest s (i + 1)) ∙ ap (λ k. Some (drop (k + 1) s)) at ∙ after_place b s lt)

  pub not_found : (r : Option ℕ) → r ≡ place → r ≡ None → (s ≡ before b s) × (◌≡◌ {A = Option (List ℕ)} None (after b s))
  not_found r e is = let le : length s ≤ place_of b s = grind (arith, nat_tests) in no_place b s le
