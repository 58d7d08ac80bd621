-- Sums over accounts and rows.
use Rattle.std.proofs.Common.{◌≡◌, ℕ, zero, suc, ◌<◌, ◌≤◌, List, [], ◌∷◌, length, ℤ, pos, ◌+ℤ◌, None, Ok, Err, Result, sym, refl, ap, ◌∙◌, ⊎_elim, arith}
use lib.IntN.{+ℤ_idr}
use Rattle.std.proofs.lemmas.List.{get_or_past}
use Rattle.std.proofs.lemmas.Int.{ints}
use Rattle.std.proofs.lemmas.Bool.{cases_lt}
use Rattle.ledger.specs.declared.row.RowRefusal.{RowRefusal}
use Rattle.ledger.specs.View.{View}
use Rattle.ledger.specs.Rows.{amount, row_refusal, Gained, RowAnswered}
use Rattle.ledger.specs.Sums.{sum_below, ledger_sum, row_sum}
use Rattle.ledger.proofs.Rows.{none_missing}

regrouped : (a b c d : ℤ) → (a +ℤ b) +ℤ (c +ℤ d) ≡ (a +ℤ c) +ℤ (b +ℤ d)
regrouped a b c d = omega (arith, ints)

carried : (a b c : ℤ) → (a +ℤ b) +ℤ c ≡ a +ℤ (b +ℤ c)
carried a b c = omega (arith, ints)

-- sums add up
pub sum_add : (n : ℕ) (h f g : ℕ → ℤ) → ((k : ℕ) → k < n → h k ≡ f k +ℤ g k) → sum_below n h ≡ sum_below n f +ℤ sum_below n g
sum_add zero h f g each = refl
sum_add (suc n) h f g each =
    ap (λ z. z +ℤ h n) (sum_add n h f g (λ k l. each k (omega arith))) ∙ ap (λ z. (sum_below n f +ℤ sum_below n g) +ℤ z) (each n (omega arith)) ∙ regrouped (sum_below n f) (sum_below n g) (f n) (g n)

-- zeros past m add nothing
pub sum_beyond : (n m : ℕ) (f : ℕ → ℤ) → m ≤ n → ((k : ℕ) → m ≤ k → f k ≡ pos 0) → sum_below n f ≡ sum_below m f
sum_beyond zero m f le zeros = ap (λ j. sum_below j f) (let e : 0 ≡ m = omega arith in e)
sum_beyond (suc n) m f le zeros =
    ⊎_elim
    (λ (l : n < m). ap (λ j. sum_below j f) (let e : suc n ≡ m = omega arith in e))
    (λ (l : m ≤ n). ap (λ z. z +ℤ f n) (sum_beyond n m f l zeros) ∙ ap (λ z. sum_below m f +ℤ z) (zeros n l) ∙ +ℤ_idr (sum_below m f))
    (cases_lt n m)

-- the first of the sum apart
sum_first : (n : ℕ) (f : ℕ → ℤ) → sum_below (suc n) f ≡ f 0 +ℤ sum_below n (λ k. f (suc k))
sum_first zero f = let z = f 0 in omega (arith, ints)
sum_first (suc n) f = ap (λ z. z +ℤ f (suc n)) (sum_first n f) ∙ carried (f 0) (sum_below n (λ k. f (suc k))) (f (suc n))

-- a row's sum is that of its accounts' amounts
pub row_sum_amounts : (xs : List ℤ) → row_sum xs ≡ sum_below (length xs) (amount xs)
row_sum_amounts [] = refl
row_sum_amounts (x ∷ xs) = ap (λ z. x +ℤ z) (row_sum_amounts xs) ∙ sym (sum_first (length xs) (amount (x ∷ xs)))

-- the sum of all balances grows by the sum of what they gained
pub ledger_sum_gained : (v w : View) (f : ℕ → ℤ) → Gained v f w → ledger_sum w ≡ ledger_sum v +ℤ sum_below v.count f
ledger_sum_gained v w f g = ap (λ n. sum_below n w.balance) g.count ∙ sum_add v.count w.balance v.balance f g.balances

-- a row that is not refused has all its amounts among the ledger's accounts
pub sum_of_taken : (v : View) (xs : List ℤ) → row_refusal v xs ≡ None → sum_below v.count (amount xs) ≡ row_sum xs
sum_of_taken v xs ok =
    ⊎_elim
    (λ (l : v.count < length xs). sym (sum_beyond (length xs) v.count (amount xs) (omega arith) (none_missing v xs ok)))
    (λ (l : length xs ≤ v.count). sum_beyond v.count (length xs) (amount xs) l (λ k. get_or_past xs k (pos 0)))
    (cases_lt v.count (length xs))
    ∙ sym (row_sum_amounts xs)

-- amounts that sum to zero leave the sum of all balances as it was
pub row_conserves : (v : View) (xs : List ℤ) (r : Result ℕ RowRefusal) (w : View) → RowAnswered v xs r w → row_sum xs ≡ pos 0 → ledger_sum w ≡ ledger_sum v
row_conserves v xs (Ok n) w h z = ledger_sum_gained v w (amount xs) h.2.gained ∙ ap (λ s. ledger_sum v +ℤ s) (sum_of_taken v xs h.0 ∙ z) ∙ +ℤ_idr (ledger_sum v)
row_conserves v xs (Err e) w h z = ap ledger_sum h.1
