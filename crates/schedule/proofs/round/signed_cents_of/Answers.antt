use Rattle.std.proofs.Common.{◌≡◌, ℤ, pos, ◌+ℤ◌, ◌*ℤ◌, ap, ◌∙◌, arith, w64, to_z, of_z}
use mir.Syntax.{w128}
use Rattle.std.specs.Int.{int_div_euclid}
use Rattle.std.proofs.lemmas.Int.{ints}
use Rattle.schedule.specs.Rounding.{rounded}
use Rattle.schedule.proofs.Rising.{euclid_low, euclid_high}
use Rattle.schedule.proofs.round.signed_cents_of.Goals as goal

pub returns : goal.returns
unfolding rounded
returns c =
    let z : ℤ = pos 2 *ℤ c.args.part +ℤ pos 600000000 in
    let e : c.div_euclid.result ≡ int_div_euclid z (pos 1200000000) = c.div_euclid.ensures ∙ ap (λ y. int_div_euclid y (pos 1200000000)) (omega (arith, ints)) in
    let low = euclid_low z 1200000000 100000000000 (omega arith) (omega (arith, ints)) in
    let high = euclid_high z 1200000000 100000000000 (omega arith) (omega (arith, ints)) in
    let back : to_z w64 (of_z w64 (to_z w128 (of_z w128 c.div_euclid.result))) ≡ c.div_euclid.result = omega (arith, ints) in
    back ∙ e
