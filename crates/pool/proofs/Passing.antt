-- What a passed check tells.
use Rattle.std.proofs.Common.{◌≡◌, ℕ, ◌+◌, Bool, true, false, ◌&&◌, List, [], ◌∷◌, Some, None, Ok, Err, Option, is_some, sym, refl, ap, ◌∙◌, true≢false, arith}
use Rattle.refusals.specs.declared.Refusal.{Refusal}
use Rattle.offers.specs.Tests.{all}
use Rattle.sheets.specs.declared.register.Register.{Register}
use Rattle.sheets.specs.declared.row.Figures.{Figures}
use Rattle.sheets.specs.declared.row.Row.{Row}
use Rattle.sheets.specs.declared.sheet.Sheet.{Sheet}
use Rattle.sheets.specs.Changes.{Becomes}
use Rattle.sheets.specs.Tests.{every}
use Rattle.sheets.specs.Sheets.{complete}
use Rattle.pool.specs.Checks.{Check, unless, figures, ◌then◌}
use Rattle.pool.specs.Day.{figures_complete}
use Rattle.offers.proofs.Tests.{and_both}

pub unless_pass : (b : Bool) (f : Refusal) → ◌≡◌ {A = Check} (Ok tt) (unless b f) → b ≡ true
unless_pass true f h = refl
unless_pass false f h = cc

pub figures_pass : (k : ℕ) (bs : List Bool) → ◌≡◌ {A = Check} (Ok tt) (figures k bs) → every bs ≡ true
figures_pass k [] h = refl
figures_pass k (true ∷ bs) h = figures_pass (k + 1) bs h
figures_pass k (false ∷ bs) h = cc

pub then_pass : (a b : Check) → ◌≡◌ {A = Check} (Ok tt) (a then b) → (◌≡◌ {A = Check} (Ok tt) a) × (◌≡◌ {A = Check} (Ok tt) b)
then_pass (Ok u) b h = (refl, h)
then_pass (Err f) b h = absurd (let z : ◌≡◌ {A = ℕ} 0 1 = cc in omega arith)

pub complete_pass : (n : ℕ) (gs : List Figures) → ◌≡◌ {A = Check} (Ok tt) (figures_complete n gs) → all complete gs ≡ true
complete_pass n [] h = refl
complete_pass n (g ∷ gs) h =
    let k = then_pass (unless (complete g) _) (figures_complete (n + 1) gs) h in
    and_both (complete g) _ (unless_pass (complete g) _ k.0) (complete_pass (n + 1) gs k.1)

pub passes : {a b : Check} → ◌≡◌ {A = Check} (Ok tt) a → b ≡ Ok tt → (a then b) ≡ Ok tt
passes {a} {b} h k = ap (λ (x : Check). x then b) (sym h) ∙ k

pub passes_last : {a : Check} → ◌≡◌ {A = Check} (Ok tt) a → (a then Ok tt) ≡ Ok tt
passes_last {a} h = ap (λ (x : Check). x then Ok tt) (sym h)

-- two figures before others
pub figures_two : (k : ℕ) (a b : Bool) (bs : List Bool) → ◌≡◌ {A = Check} (Ok tt) (figures k (a ∷ (b ∷ []))) → figures k (a ∷ (b ∷ bs)) ≡ figures (k + 2) bs
figures_two k true true bs h = ap (λ j. figures j bs) (omega arith)
figures_two k true false bs h = cc
figures_two k false b bs h = cc

pub figures_stop : (k : ℕ) (a b : Bool) (bs : List Bool) (f : Refusal) → ◌≡◌ {A = Check} (Err f) (figures k (a ∷ (b ∷ []))) → ◌≡◌ {A = Check} (Err f) (figures k (a ∷ (b ∷ bs)))
figures_stop k true true bs f h = cc
figures_stop k true false bs f h = h
figures_stop k false b bs f h = h

pub figures_two_pass : (k : ℕ) (a b : Bool) → ◌≡◌ {A = Check} (Ok tt) (figures k (a ∷ (b ∷ []))) → (a && b) ≡ true
figures_two_pass k true true h = refl
figures_two_pass k true false h = cc
figures_two_pass k false b h = cc

-- a sheet that takes the change is answered
pub becomes : (b : Bool) (g : Register) (r : Row) (o : Option Sheet) → Becomes b g r o → b ≡ true → is_some o ≡ true
becomes b g r None h t = absurd (true≢false (sym t ∙ h))
becomes b g r (Some s) h t = refl
