use Rattle.std.proofs.Common.{◌∙◌, arith}
use Rattle.amounts.proofs.Levies.{levy_most, levied_or_none}
use Rattle.amounts.proofs.account.levied.Goals as goal

pub returns : goal.returns
returns c =
    let a = c.args.account in
    let T = c.args.total in
    let ls = c.args.loads.now in
    let e = c.unwrap_or.ensures ∙ levied_or_none T ls a.number a.least a.most c.levy.result c.levy.ensures in
    record { value = e; bound = omega (arith, e, levy_most T ls a.number a.most) }
