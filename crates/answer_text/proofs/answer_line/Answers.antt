use Rattle.std.proofs.Common.{◌++◌, codes, decimal, arith}
use Rattle.std.proofs.lemmas.List.{length-append}
use Rattle.answer_text.specs.Answers.{result_words, answered}
use Rattle.answer_text.proofs.Joining.{from_none, four, short_natural}
use Rattle.answer_text.proofs.answer_line.Goals as goal

pub returns : goal.returns
returns c =
    let new = c.new-draft.result in let a = c.push_natural.new.self in let b = c.push.new.self in
    let d = c.push_result.new.draft in let e = c.push-2.new.self in
    let n = c.args.line in let r = c.args.res in
    from_none new e (answered n r) c.new-draft.ensures
    (omega (arith, length-append (decimal n) (codes ": " ++ (result_words r ++ codes "\n")), length-append (result_words r) (codes "\n"), short_natural n c.ranges.line, c.push_result.ensures.short))
    (four new a b d e (decimal n) (codes ": ") (result_words r) (codes "\n") c.push_natural.ensures c.push.ensures c.push_result.ensures.after c.push-2.ensures)
