use Rattle.std.proofs.Common.{◌++◌, codes, decimal, arith}
use Rattle.std.proofs.lemmas.List.{length-append}
use Rattle.answer_text.specs.Answers.{refused_text}
use Rattle.answer_text.proofs.Joining.{from_none, five, short_natural}
use Rattle.answer_text.proofs.refused_line.Goals as goal

pub returns : goal.returns
returns c =
    let new = c.new-draft.result in let a = c.push_natural.new.self in let b = c.push.new.self in
    let d = c.push_figure.new.draft in let e = c.push_figure-2.new.draft in let f = c.push-2.new.self in
    let n = c.args.line in let k = c.args.number in let p = c.args.place in
    let x = codes "refused=" ++ decimal k in let y = codes " place=" ++ decimal p in
    from_none new f (refused_text n k p) c.new-draft.ensures
    (omega (arith, length-append (decimal n) (codes ": " ++ (x ++ (y ++ codes "\n"))), length-append x (y ++ codes "\n"), length-append y (codes "\n"), short_natural n c.ranges.line, c.push_figure.ensures.short, c.push_figure-2.ensures.short))
    (five new a b d e f (decimal n) (codes ": ") x y (codes "\n") c.push_natural.ensures c.push.ensures c.push_figure.ensures.after c.push_figure-2.ensures.after c.push-2.ensures)
