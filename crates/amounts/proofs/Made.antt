-- Lists that a closure which changes nothing makes, index by index.
use Rattle.std.proofs.Common.{◌≡◌, ℕ, zero, suc, ◌+◌, ◌<◌, ◌≤◌, List, [], ◌∷◌, map, get_or, sym, ◌∙◌, subst, ⊎_elim, arith}
use Rattle.std.specs.Array.{index_steps, IsFromFnResultFrom, IsFromFnResult}
use Rattle.std.specs.Iterator.{CallableAtEachTurn}
use Rattle.std.specs.List.{FoldsTo, range_with_len}
use Rattle.std.specs.Fn.{Called}
use denote.Param.Members.{Mut}
use Rattle.std.proofs.lemmas.Bool.{cases_eq}
use Rattle.std.proofs.lemmas.List.FromFn.{fill_by_all}

still : {P : Type 0} (R : P → ℕ → P → Type 0) (p : P) → ((x : ℕ) (q : P) → R p x q → q ≡ p) → (xs : List ℕ) (q : P) → FoldsTo R p xs q → q ≡ p
still R p stays [] q c = sym c
still R p stays (x ∷ xs) q c = still R p stays xs q (subst (λ k. FoldsTo R k xs q) (stays x c.0 c.1) c.2)

-- a closure that stays as it is may be called at each index
pub serves_from_indices : {P : Type 0} {R : P → ℕ → P → Type 0} {Q : P → ℕ → Type 0} {n : ℕ} {p : P}
    → ((x : ℕ) (q : P) → R p x q → q ≡ p) → ((x : ℕ) → x < n → Q p x) → CallableAtEachTurn (index_steps n) R Q 0 p
serves_from_indices {R = R} {Q = Q} {p = p} stays h = record {
  at = λ xs t q x u y c e. subst (λ k. Q k x) (sym (still R p stays xs q c)) (h x (omega (arith, e.0, e.1)));
}

module _ {F B : Type 0} (g : Mut F (ℕ × Unit {0}) B) (f : F) (h : ℕ → B) (known : (i : ℕ) (y : B) (q : F) → Called g f (i, tt) y q → (q ≡ f) × (y ≡ h i)) (ys : List B) where
  from_here : (i n : ℕ) → IsFromFnResultFrom g f ys i n → (k : ℕ) (d : B) → i ≤ k → k < i + n → get_or ys k d ≡ h k
  from_here i zero r k d low high = absurd (omega arith)
  from_here i (suc n) r k d low high =
      let own = known i r.1 r.0 r.3 in
      ⊎_elim (λ (e : k ≡ i). subst (λ j. get_or ys j d ≡ h j) (sym e) (r.2.1 d ∙ own.1))
      (λ (ne : k ≡ i → ⊥). from_here (i + 1) n (subst (λ p. IsFromFnResultFrom g p ys (i + 1) n) own.0 r.4) k d (omega arith) (omega arith))
      (cases_eq k i)

  pub made_at : (n : ℕ) → IsFromFnResult g f ys n → (k : ℕ) (d : B) → k < n → get_or ys k d ≡ h k
  made_at n r k d lt = from_here 0 n r.each k d (omega arith) (omega arith)

  pub made_all : (n : ℕ) (d : B) → IsFromFnResult g f ys n → ys ≡ map h (range_with_len 0 n)
  made_all n d r = fill_by_all h ys n d r.long (λ k lt. made_at n r k d lt)
