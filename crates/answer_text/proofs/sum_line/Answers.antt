use Rattle.std.proofs.Common.{◌++◌, codes, ap, ◌∙◌, arith, w64}
use Rattle.std.proofs.lemmas.List.{length-append}
use Rattle.std.proofs.lemmas.Int.{to_z-of_z}
use Rattle.std.specs.Fmt.{signed_decimal}
use Rattle.text.specs.Drafts.{kept}
use Rattle.answer_text.specs.Answers.{sum_text}
use Rattle.answer_text.proofs.Joining.{from_none, three, short_signed}
use Rattle.answer_text.proofs.sum_line.Goals as goal

pub returns : goal.returns
returns c =
    let new = c.new-draft.result in let a = c.push.new.self in
    let b = c.push_signed.new.self in let d = c.push-2.new.self in
    let z = c.args.cents in
    from_none new d (sum_text z) c.new-draft.ensures
    (omega (arith, length-append (signed_decimal z) (codes "\n"), short_signed z c.ranges.cents))
    (three new a b d (codes "sum=") (signed_decimal z) (codes "\n") c.push.ensures
    (c.push_signed.ensures ∙ ap (λ x. kept (a ++ signed_decimal x)) (to_z-of_z w64 z c.ranges.cents)) c.push-2.ensures)
