use Rattle.std.proofs.Common.{◌≡◌, rules}
use Rattle.day_text.specs.declared.fault.WordFault.TheVariants.{NoNumber}
use Rattle.day_text.proofs.fault.WordFaultDisplay.fmt.Goals as goal

pub returns-in-NoNumber-clause-writes : goal.returns-in-NoNumber-clause-writes
returns-in-NoNumber-clause-writes g c =
    let told : c.args.self.now ≡ NoNumber c.in-NoNumber.word c.in-NoNumber.span = search rules in
    rw told c.write-in-NoNumber.ensures.writes
