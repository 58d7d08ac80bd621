use Rattle.std.proofs.Common.{◌++◌, codes, decimal, ap, ◌∙◌, arith, w64}
use Rattle.std.proofs.lemmas.List.{length-append}
use Rattle.std.proofs.lemmas.Int.{to_z-of_z}
use Rattle.std.specs.Fmt.{signed_decimal}
use Rattle.text.specs.Drafts.{kept}
use Rattle.answer_text.specs.Answers.{journal_text}
use Rattle.answer_text.proofs.Joining.{from_none, five, short_signed}
use Rattle.answer_text.proofs.journal_line.Goals as goal

pub returns : goal.returns
returns c =
    let new = c.new-draft.result in let a = c.push_figure.new.draft in let b = c.push_figure-2.new.draft in
    let d = c.push.new.self in let e = c.push_signed.new.self in let f = c.push-2.new.self in
    let k = c.args.line in let n = c.args.account in let z = c.args.cents in
    let x = codes "line=" ++ decimal k in let y = codes " account=" ++ decimal n in let w = signed_decimal z in
    let all = five new a b d e f x y (codes " cents=") w (codes "\n") c.push_figure.ensures.after c.push_figure-2.ensures.after c.push.ensures
    (c.push_signed.ensures ∙ ap (λ v. kept (d ++ signed_decimal v)) (to_z-of_z w64 z c.ranges.cents)) c.push-2.ensures in
    from_none new f (journal_text k n z) c.new-draft.ensures
    (omega (arith, length-append x (y ++ (codes " cents=" ++ (w ++ codes "\n"))), length-append y (codes " cents=" ++ (w ++ codes "\n")), length-append w (codes "\n"), c.push_figure.ensures.short, c.push_figure-2.ensures.short, short_signed z c.ranges.cents))
    all
