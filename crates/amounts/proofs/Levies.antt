-- The levy of one account: no more than the total, and nothing where nobody has a load.
use Rattle.std.proofs.Common.{◌≡◌, ℕ, ◌*◌, ◌/◌, ◌<◌, ◌≤◌, Bool, true, false, cond, ◌&&◌, ltb, leb, List, Some, None, Option, unwrap_or, sym, refl, ap, ◌∙◌, ⊎_elim, arith}
use native.Mathlib.Nat.{div-zero}
use Rattle.std.proofs.lemmas.Bool.{cases_lt}
use Rattle.schedule.specs.Levies.{loads_to, share_to, levy, levy_of}
use Rattle.schedule.proofs.Levying.{loads_rise, share_le, levy_some}

share_none : (T : ℕ) (ls : List ℕ) (a : ℕ) → loads_to ls 11 ≡ 0 → share_to T ls a ≡ 0
unfolding share_to
share_none T ls a e = ap (λ n. T * loads_to ls a / n) e ∙ div-zero (T * loads_to ls a)

share_most : (T : ℕ) (ls : List ℕ) (a : ℕ) → a ≤ 11 → share_to T ls a ≤ T
unfolding share_to
share_most T ls a le =
    ⊎_elim (λ (some : 0 < loads_to ls 11). share_le T (loads_to ls a) (loads_to ls 11) some (loads_rise ls a 11 le))
    (λ (none : loads_to ls 11 ≤ 0). omega (arith, share_none T ls a (omega arith)))
    (cases_lt 0 (loads_to ls 11))

pub levy_most : (T : ℕ) (ls : List ℕ) (a : ℕ) → a ≤ 11 → levy T ls a ≤ T
levy_most T ls a le = omega (arith, share_most T ls a le)

module _ (T : ℕ) (ls : List ℕ) (a : ℕ) (low : 1 ≤ a) (high : a ≤ 11) where
  levy_borne : (x : ℕ) → Some x ≡ levy_of T ls a → x ≡ levy T ls a
  levy_borne x h = borne (leb 1 a && (leb a 11 && ltb 0 (loads_to ls 11))) (levy T ls a) x h
    where
      borne : (b : Bool) (y x : ℕ) → Some x ≡ cond b (Some y) None → x ≡ y
      borne true y x h = cc
      borne false y x h = cc

  levy_none : None ≡ levy_of T ls a → 0 ≡ levy T ls a
  levy_none h =
      ⊎_elim (λ (some : 0 < loads_to ls 11). let e = h ∙ sym (levy_some T ls a _ _ low high some refl refl) in cc)
      (λ (none : loads_to ls 11 ≤ 0). omega (arith, share_none T ls a (omega arith)))
      (cases_lt 0 (loads_to ls 11))

  pub levied_or_none : (o : Option ℕ) → o ≡ levy_of T ls a → unwrap_or o 0 ≡ levy T ls a
  levied_or_none None h = levy_none h
  levied_or_none (Some x) h = levy_borne x h
