use Rattle.std.proofs.Common.{◌≡◌, [], ◌++◌, length, get_or, take, drop, pos, sym, refl, ap, ◌∙◌, subst, w64, SFits, rules}
use Rattle.std.proofs.lemmas.List.{take_all}
use Rattle.std.proofs.lemmas.Int.{to_z-of_z}
use Rattle.std.proofs.lemmas.List.Sums.{fold_more}
use Rattle.journal.specs.Lines.{room, offered, entered}
use Rattle.journal.proofs.Running.{one_line}
use Rattle.journal.proofs.Entering.{Holding, holding_none, holding_offered}
use Rattle.journal.proofs.entry.enter_all.Goals as goal

pub loop-line-init : goal.loop-line-init
loop-line-init c = (holding_none _ _ _ c.new-journal.ensures.used refl, refl)

pub loop-line-preserved : goal.loop-line-preserved
loop-line-preserved c =
    let ss = c.new-journal.result.lines.now in
    let ps = c.args.posts.now in
    let i = c.loop-line.line-index in
    let no_line = one_line 0 (pos 0) in
    let f : SFits w64 (get_or ps i no_line).cents = search rules in
    let j = c.loop-line.journal in
    let k = c.post.new.self in
    let more = holding_offered ss _ j.used j.lines.now c.loop-line.invariant.0 j.balances k.balances (get_or ps i no_line) c.post.result k.lines.now k.used (simp to_z-of_z at c.post.ensures.written) in
    (subst (λ ls. Holding ss ls k.used k.lines.now) (sym (fold_more (offered (room ss)) [] ps i no_line c.loop-line-test.true)) more, c.post.ensures.lender ∙ c.loop-line.invariant.1)

pub returns : goal.returns
returns c =
    let ss = c.new-journal.result.lines.now in
    let ps = c.args.posts.now in
    let j = c.loop-line.journal in
    let h = c.loop-line.invariant.0 in
    let t : take c.loop-line.line-index ps ≡ ps = take_all c.loop-line.line-index ps c.loop-line-test.false in
    let n : j.used ≡ length (entered (room ss) ps) = h.count ∙ ap (λ xs. length (entered (room ss) xs)) t in
    let s : j.lines.now ≡ entered (room ss) ps ++ drop j.used ss = h.lines ∙ ap (λ xs. entered (room ss) xs ++ drop j.used ss) t in
    record { count = search rules; few = search rules; lines = search rules }
