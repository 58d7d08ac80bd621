-- Sums over the facilities of an account, facility by facility.
use Rattle.std.proofs.Common.{◌≡◌, ◌≢◌, ℕ, ◌+◌, ◌*◌, ◌<◌, ◌≤◌, length, get_or, drop, sym, ap, ◌∙◌, subst, arith}
use Rattle.std.proofs.lemmas.Bool.Decides.{nat_tests}
use Rattle.std.proofs.lemmas.List.{drop_more, drop_all}
use Rattle.merit.specs.Held.{facilities_in, figures_in}
use Rattle.merit.proofs.Sound.{sheet_offering}
use Rattle.sheets.specs.declared.facility.Facility.{Facility}
use Rattle.sheets.specs.declared.row.Figures.{Figures}
use Rattle.sheets.specs.declared.sheet.Sheet.{Sheet}
use Rattle.sheets.specs.Sheets.{no_facility, no_figures}
use Rattle.amounts.specs.Sums.{if_of, sum_of, SumOver}

-- x is what e counts over the facilities of account a before place i, each at most B
pub record Summed (e : Facility → Figures → ℕ) (B a : ℕ) (s : Sheet) (i x : ℕ) : Type 0 where
  pub left : x + sum_of e a (drop i (facilities_in s)) (drop i (figures_in s)) ≡ sum_of e a (facilities_in s) (figures_in s)
  pub small : x ≤ B * i

module _ {a : ℕ} (f : Facility) (n : ℕ) where
  pub of_account : f.account ≡ a → n ≡ if_of a f n
  of_account h = grind (arith, nat_tests)

  pub of_another : f.account ≢ a → 0 ≡ if_of a f n
  of_another h = grind (arith, nat_tests)

module _ (e : Facility → Figures → ℕ) (B a : ℕ) (s : Sheet) (i x : ℕ) (h : Summed e B a s i x) where
  -- one facility more; j is how many were counted then
  pub summed_more : (f : Facility) (g : Figures) (j r : ℕ) → j ≡ i + 1 → i < length (facilities_in s) → f ≡ get_or (facilities_in s) i no_facility → g ≡ get_or (figures_in s) i no_figures → r ≡ if_of a f (e f g) → r ≤ B → Summed e B a s j (x + r)
  summed_more f g j r next lt p q is le =
      let fs = facilities_in s in
      let gs = figures_in s in
      let few : i < length gs = omega (arith, (sheet_offering s.register.now s.row s.sound).each) in
      let more : sum_of e a (drop i fs) (drop i gs) ≡ if_of a (get_or fs i no_facility) (e (get_or fs i no_facility) (get_or gs i no_figures)) + sum_of e a (drop (i + 1) fs) (drop (i + 1) gs) =
      λ k. sum_of e a (drop_more fs i no_facility lt k) (drop_more gs i no_figures few k) in
      let own : r ≡ if_of a (get_or fs i no_facility) (e (get_or fs i no_facility) (get_or gs i no_figures)) = is ∙ (λ k. if_of a (p k) (e (p k) (q k))) in
      subst (λ n. Summed e B a s n (x + r)) (sym next) (record { left = omega (arith, h.left); small = omega (arith, h.small) })

  -- and one of another account
  pub summed_same : (f : Facility) (g : Figures) (j : ℕ) → j ≡ i + 1 → i < length (facilities_in s) → f ≡ get_or (facilities_in s) i no_facility → g ≡ get_or (figures_in s) i no_figures → f.account ≢ a → Summed e B a s j x
  summed_same f g j next lt p q other =
      let more = summed_more f g j 0 next lt p q (of_another f (e f g) other) (omega arith) in
      subst (Summed e B a s j) (let none : x + 0 ≡ x = omega arith in none) more

  pub summed_all : length (facilities_in s) ≤ i → i ≤ 12 → SumOver e B a s x
  summed_all end few =
      let none : sum_of e a (drop i (facilities_in s)) (drop i (figures_in s)) ≡ 0 = ap (λ l. sum_of e a l (drop i (figures_in s))) (drop_all i (facilities_in s) end) in
      let most : B * i ≤ B * 12 = grind arith in
      (omega (arith, h.left), omega (arith, h.small))
