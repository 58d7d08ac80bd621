use Rattle.std.proofs.Common.{◌++◌, codes, decimal, ap, ◌∙◌, arith, w64}
use Rattle.std.proofs.lemmas.List.{length-append}
use Rattle.std.proofs.lemmas.Int.{to_z-of_z}
use Rattle.std.specs.Fmt.{signed_decimal}
use Rattle.text.specs.Drafts.{kept}
use Rattle.answer_text.specs.Answers.{balance_text}
use Rattle.answer_text.proofs.Joining.{from_none, four, short_signed}
use Rattle.answer_text.proofs.balance_line.Goals as goal

pub returns : goal.returns
returns c =
    let new = c.new-draft.result in let a = c.push_figure.new.draft in let b = c.push.new.self in
    let d = c.push_signed.new.self in let e = c.push-2.new.self in
    let n = c.args.account in let z = c.args.cents in
    from_none new e (balance_text n z) c.new-draft.ensures
    (omega (arith, length-append (codes "account=" ++ decimal n) (codes " balance=" ++ (signed_decimal z ++ codes "\n")), length-append (signed_decimal z) (codes "\n"), c.push_figure.ensures.short, short_signed z c.ranges.cents))
    (four new a b d e (codes "account=" ++ decimal n) (codes " balance=") (signed_decimal z) (codes "\n") c.push_figure.ensures.after c.push.ensures
    (c.push_signed.ensures ∙ ap (λ x. kept (b ++ signed_decimal x)) (to_z-of_z w64 z c.ranges.cents)) c.push-2.ensures)
