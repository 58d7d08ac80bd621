use Rattle.std.proofs.Common.{arith}
use Rattle.std.proofs.lemmas.Bool.Decides.{nat_tests}
use Rattle.text.proofs.Decimal.{onward_more}
use Rattle.text.proofs.number.digits.Goals as goal

pub loop-b-preserved : goal.loop-b-preserved
loop-b-preserved c =
    (omega arith, onward_more c.loop-b.n c.min-n.result c.loop-b.b-index c.args.rest.now _ (omega arith) (grind (arith, nat_tests)) (omega arith) c.loop-b.invariant.1)
