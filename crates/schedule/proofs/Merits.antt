-- The direction of the energy that counts.
use Rattle.std.proofs.Common.{◌≡◌, ℕ, ◌<◌, ◌≤◌, true, false, cond, ltb, ℤ, sym, ap, ◌∙◌, arith}
use Rattle.std.proofs.lemmas.Bool.{lt-ltb, le-ltb}
use Rattle.schedule.specs.Stations.{Operation, upward, downward, out_of_merit}
use Rattle.schedule.specs.declared.direction.OutOfMerit.TheVariants.{Upward, Downward, Neither}

module _ (o : Operation) (P : ℤ) (x : ℕ) (up : x ≡ upward o P) where
  pub merit_up : 0 < x → Upward x ≡ out_of_merit o P
  unfolding out_of_merit
  merit_up h =
      let t : ltb 0 (upward o P) ≡ true = lt-ltb 0 (upward o P) (omega (arith, up)) in
      ap Upward up ∙ ap (λ b. cond b (Upward (upward o P)) (cond (ltb 0 (downward o P)) (Downward (downward o P)) Neither)) (sym t)

  module _ (h : x ≤ 0) (y : ℕ) (down : y ≡ downward o P) where
    not_up : cond (ltb 0 (downward o P)) (Downward (downward o P)) Neither ≡ out_of_merit o P
    unfolding out_of_merit
    not_up =
        let t : ltb 0 (upward o P) ≡ false = le-ltb 0 (upward o P) (omega (arith, up)) in
        ap (λ b. cond b (Upward (upward o P)) (cond (ltb 0 (downward o P)) (Downward (downward o P)) Neither)) (sym t)

    pub merit_down : 0 < y → Downward y ≡ out_of_merit o P
    merit_down k =
        let t : ltb 0 (downward o P) ≡ true = lt-ltb 0 (downward o P) (omega (arith, down)) in
        ap Downward down ∙ ap (λ b. cond b (Downward (downward o P)) Neither) (sym t) ∙ not_up

    pub merit_none : y ≤ 0 → Neither ≡ out_of_merit o P
    merit_none k =
        let t : ltb 0 (downward o P) ≡ false = le-ltb 0 (downward o P) (omega (arith, down)) in
        ap (λ b. cond b (Downward (downward o P)) Neither) (sym t) ∙ not_up
