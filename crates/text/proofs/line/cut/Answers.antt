use Rattle.std.proofs.Common.{eqb, rules, tests}
use Rattle.std.proofs.lemmas.Iterator.{YieldsList-from_slice}
use Rattle.std.proofs.lemmas.Iterator.Search.{position_from_yields_List}
use Rattle.text.proofs.Cuts.{found, not_found}
use Rattle.text.proofs.line.cut.Goals as goal

pub returns-in-Some : goal.returns-in-Some
returns-in-Some c =
    let h = position_from_yields_List (λ x. eqb x c.args.b) _ _ c.position.result c.position.ensures.ran (YieldsList-from_slice c.args.s.now (cc)) (λ x b q k. search (rules, tests)) in
    let p = found c.args.b c.args.s.now c.in-Some.i c.position.result h c.in-Some.is in record { front = p.0; back = p.1 }

pub returns-in-None : goal.returns-in-None
returns-in-None c =
    let h = position_from_yields_List (λ x. eqb x c.args.b) _ _ c.position.result c.position.ensures.ran (YieldsList-from_slice c.args.s.now (cc)) (λ x b q k. search (rules, tests)) in
    let p = not_found c.args.b c.args.s.now c.position.result h c.in-None.is in record { front = p.0; back = p.1 }
