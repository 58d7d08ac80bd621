-- Tests over lists.
use Rattle.std.proofs.Common.{◌≡◌, ℕ, zero, suc, ◌<◌, ◌≤◌, Bool, true, false, ◌&&◌, List, [], ◌∷◌, ◌++◌, length, get_or, set, refl, ap, arith}
use Rattle.std.specs.Bool.{MatchBool}
use Rattle.std.specs.List.{zip, AllWithin, HoldsAt}
use Rattle.std.proofs.lemmas.List.Recursion.{and_is}
use Rattle.offers.specs.Tests.{all}
use Rattle.offers.proofs.Tests.{and_first, and_second, and_both}
use Rattle.sheets.specs.Tests.{all2}

pub all_push : {X : Type 0} (p : X → Bool) (xs : List X) (x : X) → all p xs ≡ true → p x ≡ true → all p (xs ++ x ∷ []) ≡ true
all_push p [] x h k = and_both (p x) true k refl
all_push p (y ∷ ys) x h k = and_both (p y) _ (and_first (p y) _ h) (all_push p ys x (and_second (p y) _ h) k)

-- where the second list is no shorter, the test of both is one test of the pairs
pub all2_zip : {X Y : Type 0} (p : X → Y → Bool) (xs : List X) (ys : List Y) → length xs ≤ length ys → all (λ (q : X × Y). p q.0 q.1) (zip xs ys) ≡ all2 p xs ys
all2_zip p [] ys h = refl
all2_zip p (x ∷ xs) [] h = absurd (omega arith)
all2_zip p (x ∷ xs) (y ∷ ys) h = ap (λ b. p x y && b) (all2_zip p xs ys (omega arith))

-- what `all` answers by its cases is the test of the list
pub all_by_cases : {X : Type 0} (p : X → Bool) (xs : List X) (d : X) (r : Bool) → MatchBool r (AllWithin (λ x. p x ≡ true) xs 0 (length xs)) ((k : ℕ) × (k < length xs) × HoldsAt (λ x. p x ≡ false) xs k) → r ≡ all p xs
all_by_cases p xs d true h = and_is (all p) p refl (λ _ _. refl) xs d true (λ _ i l. h i d (omega arith) l) (λ e. cc)
all_by_cases p xs d false h = and_is (all p) p refl (λ _ _. refl) xs d false (λ e. cc) (λ _. (h.0, h.1, h.2 d))

-- one element changed by value: what was sound stays so
pub all2_set : {X Y : Type 0} (p : X → Y → Bool) (xs : List X) (ys : List Y) (i : ℕ) (d : X) (y : Y) → p (get_or xs i d) y ≡ true → all2 p xs ys ≡ true → all2 p xs (set ys i y) ≡ true
all2_set p [] ys i d y t h = refl
all2_set p (x ∷ xs) [] i d y t h = h
all2_set p (x ∷ xs) (z ∷ zs) zero d y t h = and_both (p x y) _ t (and_second (p x z) _ h)
all2_set p (x ∷ xs) (z ∷ zs) (suc i) d y t h = and_both (p x z) _ (and_first (p x z) _ h) (all2_set p xs zs i d y t (and_second (p x z) _ h))

-- what stands at a place within both
pub all2_at : {X Y : Type 0} (p : X → Y → Bool) (xs : List X) (ys : List Y) (i : ℕ) (d : X) (e : Y) → i < length xs → all2 p xs ys ≡ true → p (get_or xs i d) (get_or ys i e) ≡ true
all2_at p [] ys i d e h t = absurd (omega arith)
all2_at p (x ∷ xs) [] i d e h t = cc
all2_at p (x ∷ xs) (y ∷ ys) zero d e h t = and_first (p x y) _ t
all2_at p (x ∷ xs) (y ∷ ys) (suc i) d e h t = all2_at p xs ys i d e (omega arith) (and_second (p x y) _ t)

pub all_at : {X : Type 0} (p : X → Bool) (xs : List X) (i : ℕ) (d : X) → i < length xs → all p xs ≡ true → p (get_or xs i d) ≡ true
all_at p [] i d h t = absurd (omega arith)
all_at p (x ∷ xs) zero d h t = and_first (p x) _ t
all_at p (x ∷ xs) (suc i) d h t = all_at p xs i d (omega arith) (and_second (p x) _ t)
