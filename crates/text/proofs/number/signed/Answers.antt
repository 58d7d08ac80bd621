use Rattle.std.proofs.Common.{sym, subst}
use Rattle.text.specs.Numbers.{ReadsSigned}
use Rattle.text.proofs.Canonical.{signed_written, signed_within}
use Rattle.text.proofs.Spans.{told_span}
use Rattle.text.proofs.number.signed.Goals as goal

pub returns : goal.returns
returns c =
    let low = c.args.low in let high = c.args.high in let s = c.args.s.now in
    let e = told_span low high c.ranges.low c.ranges.high c.read_signed.result s c.read_signed.ensures in
    record { value = e; within = signed_within low high c.read_signed.result s e; written = subst (ReadsSigned low high s) (sym e) (signed_written low high s c.ranges.low c.ranges.high) }
