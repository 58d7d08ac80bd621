-- Checks: each passes or tells a refusal, and in a list of them the first that refuses is told.
use Rattle.std.specs.Prelude.{◌≡◌, ℕ, ◌+◌, ◌-◌, ◌<◌, Bool, cond, List, [], ◌∷◌, length, Ok, Err, Result, MatchResult}
use Rattle.refusals.specs.declared.Refusal.{Refusal}
use Rattle.refusals.specs.declared.Refusal.TheVariants as refusal

abbrev pub Check : Type 0
Check = Result (Unit {0}) Refusal

infixr 3 ◌then◌
abbrev pub ◌then◌ : Check → Check → Check
Ok u then y = y
Err f then y = Err f

abbrev pub first : List Check → Check
first [] = Ok tt
first (c ∷ cs) = c then first cs

abbrev pub unless : Bool → Refusal → Check
unless b f = cond b (Ok tt) (Err f)

-- the figure at a position fits, or is told
abbrev pub told : ℕ → Bool → Check
told k b = unless b (refusal.Figure k)

-- figures from a position on: the first that does not fit is told
abbrev pub figures : ℕ → List Bool → Check
figures k [] = Ok tt
figures k (b ∷ bs) = told k b then figures (k + 1) bs

-- where the check passes, a value of which P holds; else the refusal that the check tells
abbrev pub Passes : {X : Type 0} → Check → (X → Type 0) → Result X Refusal → Type 0
Passes check P result =
    MatchResult result (λ x. (check ≡ Ok tt) × P x) (λ refusal. check ≡ Err refusal)

-- the place in a list of what has a number from 1
abbrev pub IsPlaceOf : {X : Type 0} → List X → ℕ → ℕ → Type 0
IsPlaceOf xs number place = (place ≡ number - 1) × (place < length xs)
