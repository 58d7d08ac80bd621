use Rattle.std.proofs.Common.{◌≡◌, ◌≤◌, ℤ, ◌*ℤ◌, nat_abs, ap, ◌∙◌, arith, w64, to_z, of_z}
use Rattle.std.proofs.lemmas.Int.{ints, to_z-of_z}
use Rattle.schedule.specs.Rounding.{rounded, M}
use Rattle.amounts.specs.Amounts.{energy_amount, deviation}
use Rattle.amounts.specs.Held.{held}
use Rattle.amounts.proofs.Bounds.{product_bound, fits, rounded_bound}
use Rattle.amounts.proofs.account.AtPrice.energy_amount.Goals as goal

abbrev bits : ℤ → ℤ
bits z = to_z w64 (of_z w64 z)

small : (P D : ℤ) → nat_abs P ≤ 125000 → nat_abs D ≤ 6000000000000 → nat_abs (bits P *ℤ bits D) ≤ 750000000000000000
small P D p d = product_bound (bits P) (bits D) 125000 6000000000000 (omega (arith, ints)) (omega (arith, ints))

pub overflow_mul-get : goal.overflow_mul-get
overflow_mul-get c = fits _ (small c.get.result c.deviation.result c.get.ensures.near c.deviation.ensures.bound)

pub returns : goal.returns
unfolding energy_amount
returns c =
    let P = c.get.result in
    let D = c.deviation.result in
    let h = held c.args.self in
    let b = small P D c.get.ensures.near c.deviation.ensures.bound in
    let back = to_z-of_z w64 (bits P *ℤ bits D) (fits (bits P *ℤ bits D) b) in
    let e = c.signed_cents_of.ensures ∙ ap (λ x. rounded x M) back in
    let p : bits P ≡ c.args.self.price.cents = to_z-of_z w64 P record { sfits = c.get.type_inv } ∙ c.get.ensures.value in
    let d : bits D ≡ deviation h c.args.account.number = to_z-of_z w64 D record { sfits = c.deviation.type_inv } ∙ c.deviation.ensures.value in
    let r = to_z-of_z w64 c.signed_cents_of.result record { sfits = c.signed_cents_of.type_inv } in
    record {
      value = r ∙ e ∙ (λ i. rounded (p i *ℤ d i) M);
      bound = omega (arith, ap nat_abs (r ∙ e), rounded_bound (bits P *ℤ bits D) b);
    }
