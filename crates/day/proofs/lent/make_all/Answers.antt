use Rattle.std.proofs.Common.{◌≡◌, ◌+◌, ◌<◌, List, length, get_or, take, drop, sym, ap, ◌∙◌, subst, take_all, length-set, arith, rules}
use Rattle.std.proofs.lemmas.List.{take_more_set, drop-set-lt, drop-drop}
use Rattle.pool.specs.declared.call.Call.{Call}
use Rattle.pool.specs.declared.call.Call.TheVariants.{Register}
use Rattle.pool.specs.Held.{held}
use Rattle.amounts.proofs.Balance.{nets_balance}
use Rattle.day.specs.Law.{Goes}
use Rattle.day.proofs.Posts.{goes_took, goes_written}
use Rattle.day.proofs.Runs.{goes_one, goes_more, lawful}
use Rattle.day.proofs.lent.make_all.Goals as goal

pub loop-i-preserved : goal.loop-i-preserved
loop-i-preserved g c =
    let view = g.L.Accounts.view in
    let took = g.L.Ledger.took in
    let all = c.args.calls.now in
    let i = c.loop-i.i in
    let rs = c.loop-i.answers in
    let inv = c.loop-i.invariant in
    let r = c.step.result in
    let room : i < length rs = let e = inv.0 in omega arith in
    let d = held c.loop-i.register c.loop-i.sheets in
    let one = goes_one view took d c.loop-i.ledger (get_or all i (Register 0 0 0 0)) r (held c.step.new.register c.step.new.rows) c.step.new.ledger
    (g.L.Accounts.sound c.step.new.ledger) c.step.ensures.took c.step.ensures.kept c.step.ensures.does in (
      length-set rs i r ∙ inv.0,
      (
        drop-set-lt (i + 1) rs i r (omega arith) ∙ sym (drop-drop 1 i rs) ∙ ap (drop 1) inv.1.0 ∙ drop-drop 1 i c.args.answers.now,
        goes_more view took all i _ _ _ _ _ _ _ _ _ c.loop-i-test.true inv.1.1 one (take_more_set rs i r room),
      ),
    )

pub returns : goal.returns
returns g c =
    let view = g.L.Accounts.view in
    let took = g.L.Ledger.took in
    let x = c.args.ledger.now in
    let z = c.loop-i.ledger in
    let cs = c.args.calls.now in
    let rs = take (length cs) c.loop-i.answers in
    let d = held c.args.register.now c.args.sheets.now in
    let e = held c.loop-i.register c.loop-i.sheets in
    let m = length c.args.sheets.now in
    let n : c.loop-i.i ≡ length cs = let a = c.loop-i.auto.i-end in let b = c.loop-i-test.false in omega arith in
    let all = take_all c.loop-i.i cs c.loop-i-test.false in
    let goes = subst (λ (ks : List Call). Goes view took d x ks rs e z) all
    (subst (λ k. Goes view took d x (take c.loop-i.i cs) (take k c.loop-i.answers) e z) n c.loop-i.invariant.1.1) in
    record {
      room = search rules;
      law = λ h. lawful view took nets_balance m x cs rs d e z h goes;
      goes = goes;
      written = λ h. goes_written view took g.L.Ledger.none g.L.Ledger.more m d x cs rs e z h goes;
      posts = goes_took view took g.L.Ledger.none g.L.Ledger.more d x cs rs e z goes;
      behind = search rules;
      needed = tt;
      untouched = tt;
    }
