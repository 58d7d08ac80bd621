use Rattle.std.proofs.Common.{◌++◌, codes, decimal, arith}
use Rattle.std.proofs.lemmas.List.{length-append}
use Rattle.answer_text.specs.Answers.{tally_text}
use Rattle.answer_text.proofs.Joining.{from_none, four}
use Rattle.answer_text.proofs.tally_line.Goals as goal

pub returns : goal.returns
returns c =
    let new = c.new-draft.result in let a = c.push_figure.new.draft in let b = c.push_figure-2.new.draft in
    let d = c.push_figure-3.new.draft in let e = c.push.new.self in
    let x = codes "calls=" ++ decimal c.args.calls in let y = codes " taken=" ++ decimal c.args.taken in
    let z = codes " refused=" ++ decimal c.args.refused in
    from_none new e (tally_text c.args.calls c.args.taken c.args.refused) c.new-draft.ensures
    (omega (arith, length-append x (y ++ (z ++ codes "\n")), length-append y (z ++ codes "\n"), length-append z (codes "\n"), c.push_figure.ensures.short, c.push_figure-2.ensures.short, c.push_figure-3.ensures.short))
    (four new a b d e x y z (codes "\n") c.push_figure.ensures.after c.push_figure-2.ensures.after c.push_figure-3.ensures.after c.push.ensures)
