use Rattle.std.proofs.Common.{pos, [], ◌∷◌, ◌++◌, length}
use Rattle.pool.specs.declared.call.Call.TheVariants as call
use Rattle.pool.specs.declared.call.Answer.TheVariants as answer
use Rattle.pool.specs.Held.{held}
use Rattle.day.specs.Claims.{answer_of}
use Rattle.day_tests.proofs.tests.singly.open_then_settle.Goals as goal

pub returns : goal.returns
returns g c = λ h.
    let x = c.args.ledger.now in
    let z = c.settle-settled.new.ledger in
    let d = held c.args.register.now c.args.rows.now in
    let e = held c.open-opened.new.register c.args.rows.now in
    let f = held c.open-opened.new.register c.settle-settled.new.rows in
    let cs = call.Open (pos 1) (pos 2) ∷ [] in
    let ds = call.Settle 3 ∷ [] in
    let rs = answer_of (λ u. answer.Opened) c.open-opened.result ∷ [] in
    let ss = answer_of answer.Posts c.settle-settled.result ∷ [] in
    let first = c.one_call_goes.ensures.quiet (λ u. answer.Opened) d x (call.Open (pos 1) (pos 2)) c.open-opened.result e (λ v. c.open-opened.ensures v c.args.rows.now) in
    let second = c.one_call_goes-2.ensures.any answer.Posts e x (call.Settle 3) c.settle-settled.result f z c.settle-settled.ensures.does c.settle-settled.ensures.took c.settle-settled.ensures.kept in
    let both = c.lists_go_on.ensures d e f x x z cs ds rs ss first second in
    c.law_stands.ensures.law (length c.args.rows.now) d f x z (cs ++ ds) (rs ++ ss) h both
