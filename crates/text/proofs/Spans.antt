-- The span of a number with a sign tells no difference between the number and what the cap makes of it.
use Rattle.std.proofs.Common.{◌≡◌, ℕ, ◌-◌, ◌^◌, min, false, ◌&&◌, List, ℤ, pos, negsuc, Some, None, Ok, Err, Option, Result, sym, ap, ◌∙◌, ⊎_elim, arith, w64, SFits, to_z, of_z}
use lib.Signed.{le_z}
use Rattle.std.proofs.lemmas.Int.{ints, to_z-of_z}
use Rattle.std.proofs.lemmas.Bool.{cond-false, and_right, and_left, cases_lt}
use Rattle.std.specs.Option.{option_map}
use Rattle.text.specs.declared.number.NumberFault.{NumberFault}
use Rattle.text.specs.declared.number.NumberFault.TheVariants.{Span}
use Rattle.text.specs.Numbers.{clamped, in_signed_span, signed_of}

below : (low high z : ℤ) → le_z low z ≡ false → in_signed_span low high (Some z) ≡ Err Span
below low high z e = cond-false (le_z low z && le_z z high) (Ok z) (Err Span) (and_left (le_z low z) (le_z z high) e)

above : (low high z : ℤ) → le_z z high ≡ false → in_signed_span low high (Some z) ≡ Err Span
above low high z e = cond-false (le_z low z && le_z z high) (Ok z) (Err Span) (and_right (le_z low z) (le_z z high) e)

module _ (low high : ℤ) (fl : SFits w64 low) (fh : SFits w64 high) where
  span_of_clamped : (z : ℤ) → in_signed_span low high (Some (clamped z)) ≡ in_signed_span low high (Some z)
  span_of_clamped (pos n) =
      ⊎_elim
      (λ h. let e : min (2 ^ 64) n ≡ n = omega arith in ap (λ k. in_signed_span low high (Some (pos k))) e)
      (λ h. let a : le_z (pos (min (2 ^ 64) n)) high ≡ false = grind (arith, ints) in
      let b : le_z (pos n) high ≡ false = grind (arith, ints) in
      above low high (pos (min (2 ^ 64) n)) a ∙ sym (above low high (pos n) b))
      (cases_lt n (2 ^ 64))
  span_of_clamped (negsuc n) =
      ⊎_elim
      (λ h. let e : min (2 ^ 64 - 1) n ≡ n = omega arith in ap (λ k. in_signed_span low high (Some (negsuc k))) e)
      (λ h. let a : le_z low (negsuc (min (2 ^ 64 - 1) n)) ≡ false = grind (arith, ints) in
      let b : le_z low (negsuc n) ≡ false = grind (arith, ints) in
      below low high (negsuc (min (2 ^ 64 - 1) n)) a ∙ sym (below low high (negsuc n) b))
      (cases_lt n (2 ^ 64 - 1))

  pub span_clamped : (o : Option ℤ) (z : ℤ) → Some z ≡ option_map clamped o → in_signed_span low high (Some z) ≡ in_signed_span low high o
  span_clamped None z e = let k : ◌≡◌ {A = ℕ} 0 1 = cc in absurd (omega arith)
  span_clamped (Some y) z e = ap (in_signed_span low high) e ∙ span_of_clamped y

  -- bounds that are passed on are as they were
  pub told_span : (r : Result ℤ NumberFault) (s : List ℕ) → r ≡ signed_of (to_z w64 (of_z w64 low)) (to_z w64 (of_z w64 high)) s → r ≡ signed_of low high s
  told_span r s e = rw (to_z-of_z w64 low fl, to_z-of_z w64 high fh) at e
