use Rattle.std.proofs.Common.{◌++◌, length, codes, decimal, ap, ◌∙◌, arith}
use Rattle.std.proofs.lemmas.List.{length-append}
use Rattle.text.specs.Drafts.{kept}
use Rattle.refusals.specs.Table.{refusal_number, refusal_place, refusal_reason}
use Rattle.answer_text.specs.Answers.{reason_words}
use Rattle.answer_text.proofs.Joining.{three}
use Rattle.answer_text.proofs.push_refusal.Goals as goal

pub returns : goal.returns
returns c =
    let old = c.args.draft.now in let f = c.args.refusal in
    let a = c.push_figure.new.draft in let b = c.push_figure-2.new.draft in let d = c.push_reason.new.draft in
    let x = codes "refused=" ++ decimal (refusal_number f) in let y = codes " place=" ++ decimal (refusal_place f) in let z = reason_words (refusal_reason f) in
    record {
      after = three old a b d x y z
          (c.push_figure.ensures.after ∙ ap (λ n. kept (old ++ (codes "refused=" ++ decimal n))) c.number.ensures)
          (c.push_figure-2.ensures.after ∙ ap (λ n. kept (a ++ (codes " place=" ++ decimal n))) c.place.ensures)
          (c.push_reason.ensures.after ∙ ap (λ o. kept (b ++ reason_words o)) c.reason.ensures);
      short = omega (
        arith,
        length-append x (y ++ z),
        length-append y z,
        c.push_figure.ensures.short,
        c.push_figure-2.ensures.short,
        c.push_reason.ensures.short,
        ap (λ n. length (codes "refused=" ++ decimal n)) c.number.ensures,
        ap (λ n. length (codes " place=" ++ decimal n)) c.place.ensures,
        ap (λ o. length (reason_words o)) c.reason.ensures,
      );
    }
