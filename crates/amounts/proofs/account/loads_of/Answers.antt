use Rattle.std.proofs.Common.{◌≡◌, ℕ, length, map, get_or, sym, ◌∙◌, arith, rules}
use Rattle.std.proofs.lemmas.List.{ext_get_or, length-map, get_or-map}
use Rattle.sheets.specs.declared.row.Position.{Position}
use Rattle.sheets.specs.Sheets.{no_position}
use Rattle.amounts.proofs.account.loads_of.Goals as goal

pub returns : goal.returns
returns c =
    let ps = c.args.positions in
    let f : Position → ℕ = λ p. p.load in
    let of = c.map.ensures.items in
    let long : length ps ≡ 11 = search rules in
    ext_get_or 0 c.map.result (map f ps) (omega (arith, of.long, length-map ps f))
    (λ k lt.
    let called = of.at k no_position 0 (omega (arith, of.long)) in
    let load : get_or c.map.result k 0 ≡ (get_or ps k no_position).load = search rules in
    load ∙ sym (get_or-map f ps k no_position 0 (omega (arith, of.long))))
