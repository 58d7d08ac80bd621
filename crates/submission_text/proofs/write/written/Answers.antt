use Rattle.std.proofs.Common.{refl}
use Rattle.offers.specs.Curves.{no_pair}
use Rattle.submission_text.specs.Write.{head, pairs}
use Rattle.submission_text.proofs.Writing.{laid_none, laid_more, laid_all, filed}
use Rattle.submission_text.proofs.write.written.Goals as goal

pub loop-p-init : goal.loop-p-init
loop-p-init c = laid_none c.push_line.new.self _ c.listed-pairs.result.now c.push_line.ensures

pub loop-p-preserved : goal.loop-p-preserved
loop-p-preserved c =
    laid_more _ c.loop-p.draft c.push_pair.new.draft c.listed-pairs.result.now c.loop-p.p-index _ no_pair
    c.loop-p.invariant c.loop-p-test.true refl c.push_pair.ensures.after c.push_pair.ensures.short

pub returns : goal.returns
returns c =
    let x = c.args.file.now in
    let l = laid_all _ c.loop-p.draft c.listed-pairs.result.now c.loop-p.p-index c.loop-p.invariant c.loop-p-test.false c.loop-p.auto.p-index-end in
    filed c.new-draft.result c.push_head.new.draft c.push_line.new.self c.loop-p.draft
    (head x) (pairs x) c.listed-pairs.result.now c.new-draft.ensures c.listed-pairs.ensures.value c.listed-pairs.ensures.few
    c.push_head.ensures.after c.push_head.ensures.short c.push_line.ensures l.0 l.1
