use Rattle.std.proofs.Common.{w64, SFits}
use Rattle.std.proofs.lemmas.Int.{to_z-of_z}
use Rattle.std.specs.Fmt.{signed_decimal}
use Rattle.text.specs.Lines.{signed_line_text}
use Rattle.text.proofs.Drafting.{kept_line}
use Rattle.text.proofs.draft.Draft.push_signed_line.Goals as goal

pub returns : goal.returns
unfolding signed_line_text
returns c =
    let fits : SFits w64 c.args.z = c.ranges.z in
    let number = simp to_z-of_z at c.push_signed.ensures in
    kept_line _ _ _ _ c.args.key.now (signed_decimal c.args.z) c.push_key.ensures number c.push.ensures
