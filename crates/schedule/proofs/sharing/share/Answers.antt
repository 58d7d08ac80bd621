use Rattle.std.proofs.Common.{arith}
use Rattle.schedule.proofs.Levying.{share_le}
use Rattle.schedule.proofs.sharing.share.Goals as goal

pub overflow_cast-result-4 : goal.overflow_cast-result-4
overflow_cast-result-4 c = record { fits = omega (arith, share_le c.args.total c.args.part c.args.whole c.requires.0 c.requires.1) }
