use Rattle.std.proofs.Common.{◌∙◌, ap, drop}
use Rattle.std.proofs.lemmas.List.{drop-drop}
use Rattle.day_text.specs.Words.{word_list, Words}
use Rattle.day_text.proofs.Wording.{left-after}
use Rattle.day_text.proofs.pairs.after_ramps.Goals as goal

pub loop-preserved : goal.loop-preserved
loop-preserved c =
    let ws = c.loop.words in
    let passed = ap (λ (w : Words). w.left) c.next.ensures.passed in
    passed ∙ left-after ws.passed ws.left ∙ ap (drop 1) c.loop.invariant ∙ drop-drop 1 c.loop.counter (word_list c.args.line.now)
