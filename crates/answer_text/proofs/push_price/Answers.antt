use Rattle.std.proofs.Common.{◌++◌, codes, decimal, ap, ◌∙◌, arith, w64}
use Rattle.std.proofs.lemmas.List.{length-append}
use Rattle.std.proofs.lemmas.Int.{to_z-of_z}
use Rattle.std.specs.Fmt.{signed_decimal}
use Rattle.text.specs.Drafts.{kept}
use Rattle.answer_text.proofs.Joining.{three, short_signed}
use Rattle.answer_text.proofs.push_price.Goals as goal

pub returns : goal.returns
returns c =
    let old = c.args.draft.now in let z = c.args.price in let n = c.args.facility in
    let a = c.push.new.self in let b = c.push_signed.new.self in let d = c.push_figure.new.draft in
    let y = signed_decimal z in let w = codes " facility=" ++ decimal n in
    record {
      after = three old a b d (codes "price=") y w c.push.ensures
          (c.push_signed.ensures ∙ ap (λ x. kept (a ++ signed_decimal x)) (to_z-of_z w64 z c.ranges.price)) c.push_figure.ensures.after;
      short = omega (arith, length-append (codes "price=") (y ++ w), length-append y w, short_signed z c.ranges.price, c.push_figure.ensures.short);
    }
