use Rattle.std.proofs.Common.{◌≡◌, ◌<◌, true, not, ltb, length, take, is_some, sym, refl, ap, ◌∙◌, arith, length-set}
use Rattle.std.proofs.lemmas.List.{take_more_set}
use Rattle.std.proofs.lemmas.Bool.Decides.{nat_tests}
use Rattle.offers.proofs.Tests.{and_both}
use Rattle.sheets.specs.Held.{known}
use Rattle.sheets.specs.Spans.{facility_sound}
use Rattle.sheets.proofs.Lists.{all_push}
use Rattle.sheets.proofs.Registers.{known_count}
use Rattle.sheets.proofs.register.Register.add.Goals as goal

pub invariant_of-self : goal.invariant_of-self
invariant_of-self c =
    let g = c.args.self.now in
    let new = c.args.facility in
    let below : g.count < length g.facilities = omega (arith, g.slots) in
    record {
      slots = length-set g.facilities g.count new ∙ g.slots;
      few = omega arith;
      spans = rw (take_more_set g.facilities g.count new below) (all_push facility_sound (take g.count g.facilities) new g.spans (sym c.if-not-facility_sound.ensures));
      priced = g.priced;
    }

pub returns : goal.returns
returns c =
    let g = c.args.self.now in
    let new = c.args.facility in
    let below : g.count < length g.facilities = omega (arith, g.slots) in
    let n = known_count g in
    let shut : not (is_some g.prices) ≡ true = ap not (sym c.if-is_some.ensures) in
    let room : ltb (length (known g)) 12 ≡ true = grind (arith, nat_tests) in (
      and_both (not (is_some g.prices)) _ shut (and_both (ltb (length (known g)) 12) _ room (sym c.if-not-facility_sound.ensures)),
      (omega (arith, n), (take_more_set g.facilities g.count new below, refl)),
    )
