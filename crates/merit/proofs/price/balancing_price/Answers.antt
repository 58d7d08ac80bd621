use Rattle.std.proofs.Common.{◌≡◌, ℕ, ◌≤◌, true, ℤ, nat_abs, is_some, Some, sym, ap, ◌∙◌, arith, w64, to_z, of_z}
use Rattle.std.specs.Option.{option_map}
use Rattle.std.proofs.lemmas.Int.{ints}
use Rattle.schedule.specs.declared.span.BalancingPrice.{BalancingPrice}
use Rattle.schedule.specs.Spans.{balancing_fits}
use Rattle.schedule.proofs.Fitting.{balancing_near}
use Rattle.merit.proofs.Unwrapping.{is_ok_where}
use Rattle.merit.proofs.Sound.{found_price, found_near, found_none, sheet_reaches}
use Rattle.merit.proofs.price.balancing_price.Goals as goal

pub returns-in_err-marginal : goal.returns-in_err-marginal
returns-in_err-marginal c =
    let s = c.args.sheet.now in
    let g = s.register.now in
    let d = c.in_ok-demand.demand in
    let e = sym c.in_err-marginal.ensures.value in
    let none = found_none g s.row d s.sound (sym c.in_ok-demand.ensures) e in
    let got = c.from_residual-in_err-marginal.ensures in
    record {
      value = ap (option_map (λ (x : BalancingPrice × ℕ). (x.0.cents, x.1))) got ∙ sym none;
      told = ap is_some got ∙ sym (ap is_some none) ∙ sheet_reaches g s.row s.sound;
    }

pub unwrap-price-requires : goal.unwrap-price-requires
unwrap-price-requires c =
    let s = c.args.sheet.now in
    let g = s.register.now in
    let d = c.in_ok-demand.demand in
    let m = c.in_ok-marginal.marginal in
    let e = sym c.in_ok-marginal.ensures.value in
    is_ok_where _ _ c.try_from.result c.try_from.ensures (fits m.price (found_near g s.row d s.sound (sym c.in_ok-demand.ensures) m e))
  where
    fits : (z : ℤ) → nat_abs z ≤ 125000 → balancing_fits (to_z w64 (of_z w64 z)) ≡ true
    fits z near =
        let back : to_z w64 (of_z w64 z) ≡ z = omega (arith, ints) in
        ap balancing_fits back ∙ balancing_near z near

pub returns : goal.returns
returns c =
    let s = c.args.sheet.now in
    let g = s.register.now in
    let d = c.in_ok-demand.demand in
    let m = c.in_ok-marginal.marginal in
    let asks = sym c.in_ok-demand.ensures in
    let e = sym c.in_ok-marginal.ensures.value in
    let near : nat_abs m.price ≤ 125000 = found_near g s.row d s.sound asks m e in
    let back : to_z w64 (of_z w64 m.price) ≡ m.price = omega (arith, ints) in
    let price = found_price g s.row d s.sound asks m e in
    let given = rw c.unwrap-price.ensures at c.try_from.ensures in
    record {
      value = ap (λ (z : ℤ). Some (z, m.facility)) (given.1 ∙ back) ∙ sym price;
      told = sym (ap is_some price) ∙ sheet_reaches g s.row s.sound;
    }
