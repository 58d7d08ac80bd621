use Rattle.std.proofs.Common.{arith}
use Rattle.schedule.specs.Held.{operation}
use Rattle.schedule.proofs.Nearest.{least_compensation}
use Rattle.schedule.proofs.Fitting.{fitting}
use Rattle.schedule.proofs.claims.least_paid.Goals as goal

pub returns : goal.returns
returns c =
    let s = c.args.station.now in
    let f = fitting s.factor.value s.tolerance s.start s.submission s.reading s.fits in
    least_compensation (operation s) c.args.price.cents (omega (arith, f.low)) f.form
