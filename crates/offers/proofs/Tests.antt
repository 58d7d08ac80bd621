-- Tests joined by `and`, and tests over lists.
use Rattle.std.proofs.Common.{◌≡◌, ℕ, ◌+◌, ◌<◌, ◌≤◌, Bool, true, false, ◌&&◌, List, length, get_or, drop, sym, refl, ap, ◌∙◌, arith}
use Rattle.std.proofs.lemmas.List.{at_drop_more, at_drop_all}
use Rattle.offers.specs.Tests.{all}

pub and_first : (a b : Bool) → (a && b) ≡ true → a ≡ true
and_first true b h = refl
and_first false b h = h

pub and_second : (a b : Bool) → (a && b) ≡ true → b ≡ true
and_second true b h = h
and_second false b h = grind arith

pub and_both : (a b : Bool) → a ≡ true → b ≡ true → (a && b) ≡ true
and_both a b h k = grind arith

-- a loop that tests each element: its step, its refusal and its end
module _ {X : Type 0} (p : X → Bool) (xs : List X) (i : ℕ) where
  pub all_again : (d : X) → i < length xs → p (get_or xs i d) ≡ true → all p (drop i xs) ≡ all p xs → all p (drop (i + 1) xs) ≡ all p xs
  all_again d h t e = ap (λ b. b && all p (drop (i + 1) xs)) (sym t) ∙ sym (at_drop_more (all p) xs i d h) ∙ e

  pub all_fails : (d : X) → i < length xs → p (get_or xs i d) ≡ false → all p (drop i xs) ≡ all p xs → false ≡ all p xs
  all_fails d h t e = ap (λ b. b && all p (drop (i + 1) xs)) (sym t) ∙ sym (at_drop_more (all p) xs i d h) ∙ e

  pub all_ends : length xs ≤ i → all p (drop i xs) ≡ all p xs → true ≡ all p xs
  all_ends h e = sym (at_drop_all (all p) xs i h) ∙ e
