use Rattle.std.proofs.Common.{◌≡◌, sum_by, ◌∙◌, refl, arith, rules}
use Rattle.std.specs.List.{range_with_len}
use Rattle.std.proofs.lemmas.Iterator.{YieldsList-from_range, YieldsList-from_map}
use Rattle.std.proofs.lemmas.Iterator.Adapters.{fits_from_length, at_most_from_yields_List}
use Rattle.std.proofs.lemmas.Iterator.Consumers.{sum_by_from_yields_List}
use Rattle.std.proofs.lemmas.List.FromFn.{length-range_with_len}
use borrow.Author.Tests.{tests}
use Rattle.schedule.specs.Ramps.{energy, level, sum_to}
use Rattle.schedule.proofs.Rising.{level_bound}
use Rattle.schedule.proofs.ramp.Ramp.energy.Goals as goal

-- no level is above 32 bits, and there are thirty
pub sum-requires-clause-fits : goal.sum-requires-clause-fits
sum-requires-clause-fits c =
    fits_from_length _ _ 30 _ (at_most_from_yields_List (YieldsList-from_range 1 31 30 c.map.ensures.source (omega arith)) (omega (arith, length-range_with_len 1 30))) c.map.ensures.closure (omega arith)
    (λ x r q k.
    let s = c.args.self in
    let v : (q ≡ _) × (r ≡ level s.start s.up s.down c.args.target x) = search (rules, tests) in
    (v.0, omega (arith, v.1, level_bound s.start s.up s.down c.args.target x 4294967295 (search rules) (search rules))))

pub returns : goal.returns
unfolding energy
returns c =
    let f = level c.args.self.start c.args.self.up c.args.self.down c.args.target in
    let s : sum_by f (range_with_len 1 30) ≡ sum_to f 30 = refl in
    sum_by_from_yields_List f (range_with_len 1 30) c.map.result c.sum.result c.sum.ensures.ran
    (YieldsList-from_map _ f (YieldsList-from_range 1 31 30 c.map.ensures.source (omega arith)) c.map.ensures.closure (λ x r q k. search (rules, tests))) ∙ s
