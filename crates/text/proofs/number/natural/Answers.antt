use Rattle.std.proofs.Common.{sym, subst}
use Rattle.text.specs.Numbers.{ReadsNatural}
use Rattle.text.proofs.Canonical.{natural_written, natural_within}
use Rattle.text.proofs.number.natural.Goals as goal

pub returns : goal.returns
returns c =
    let low = c.args.low in let high = c.args.high in let s = c.args.s.now in
    let e = c.read_natural.ensures in
    record { value = e; within = natural_within low high c.read_natural.result s e; written = subst (ReadsNatural low high s) (sym e) (natural_written low high s c.ranges.high.fits) }
