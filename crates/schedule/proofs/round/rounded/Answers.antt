use Rattle.std.proofs.Common.{◌*◌, ℤ, pos, ◌+ℤ◌, ◌*ℤ◌, arith, w64, to_z, of_z}
use Rattle.std.proofs.lemmas.Int.{ints}
use Rattle.schedule.specs.Rounding.{rounded}
use Rattle.schedule.proofs.Casts.{divided}
use Rattle.schedule.proofs.round.rounded.Goals as goal

pub returns : goal.returns
unfolding rounded
returns c =
    let bits : ℤ → ℤ = λ z. to_z w64 (of_z w64 z) in
    divided w64 c.div_euclid.result
    (bits (bits (pos 2 *ℤ bits c.args.x) +ℤ to_z w64 c.args.m)) (bits (pos 2 *ℤ to_z w64 c.args.m))
    (pos 2 *ℤ c.args.x +ℤ pos c.args.m) (pos (2 * c.args.m))
    record { sfits = c.div_euclid.type_inv } c.div_euclid.ensures (omega (arith, ints)) (omega (arith, ints))
