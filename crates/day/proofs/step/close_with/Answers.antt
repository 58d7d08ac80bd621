use Rattle.std.proofs.Common.{arith, length-take, rules}
use Rattle.pool.specs.declared.call.Answer.TheVariants as answer
use Rattle.day.proofs.Answering.{answered, lent_alike}
use Rattle.day.proofs.step.close_with.Goals as goal

pub returns : goal.returns
returns c = λ v.
    let h = answered (λ x. answer.Price x.0 x.1) _ v _ _ c.map.result _ _ (search rules) (c.close.ensures.does v) in
    lent_alike _ v _ c.args.rungs _ _ _ _ (simp length-take (omega arith)) h
