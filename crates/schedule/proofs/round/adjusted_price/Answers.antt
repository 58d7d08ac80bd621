use Rattle.std.proofs.Common.{◌≡◌, nat_abs, ap, arith, w64, to_z, of_z}
use Rattle.std.proofs.lemmas.Int.{ints, to_z-of_z}
use Rattle.schedule.specs.Rounding.{adjusted}
use Rattle.schedule.proofs.Rising.{adjusted_span}
use Rattle.schedule.proofs.round.adjusted_price.Goals as goal

pub returns : goal.returns
unfolding adjusted
returns c =
    let e : to_z w64 (of_z w64 c.rounded.result) ≡ adjusted c.args.price c.args.factor.value = grind (arith, ints, to_z-of_z, c.rounded.ensures, c.get.ensures.value) in
    record { value = e; near = λ h. omega (arith, ap nat_abs e, adjusted_span c.args.price c.args.factor.value h c.args.factor.low) }
