use Rattle.std.proofs.Common.{◌≡◌, ◌-◌, ◌<◌, ◌≤◌, length, get_or, pos, ◌+ℤ◌, None, arith, w64, SFits, rules}
use Rattle.std.proofs.lemmas.Int.{to_z-of_z}
use Rattle.ledger.specs.Posting.{refusal}
use Rattle.ledger.proofs.Tested.{taken_because, taken_in_span, span_fits}
use Rattle.ledgers.proofs.Spans.{span_set}
use Rattle.day_tests.specs.Small.{small_view, small_sound}
use Rattle.day_tests.proofs.Posted.{small_posted}
use Rattle.day_tests.proofs.tests.small.SmallLedger.post.Goals as goal

pub invariant_of-self : goal.invariant_of-self
invariant_of-self c =
    let s = c.args.self.now in
    let zs = s.balances in
    let a = c.args.account in
    let x = c.args.cents in
    let inside : a < length zs = search rules in
    let f : SFits w64 (get_or zs a (pos 0)) = search rules in
    let k : SFits w64 x = c.ranges.cents in
    let ok : refusal (small_view zs s.left) a x ≡ None = simp to_z-of_z at c.in_ok-check_post.ensures in
    let span = taken_in_span (small_view zs s.left) a x (small_sound zs s.left s.spans s.few) ok in
    let m : SFits w64 (get_or zs a (pos 0) +ℤ x) = span_fits (get_or zs a (pos 0) +ℤ x) span in
    let few : s.left - 1 ≤ 65535 = omega (arith, s.few) in
    record { spans = span_set zs a _ inside s.spans (simp to_z-of_z span); few = few }

pub returns : goal.returns
returns c =
    let s = c.args.self.now in
    let zs = s.balances in
    let a = c.args.account in
    let x = c.args.cents in
    let inside : a < length zs = search rules in
    let f : SFits w64 (get_or zs a (pos 0)) = search rules in
    let k : SFits w64 x = c.ranges.cents in
    let ok : refusal (small_view zs s.left) a x ≡ None = simp to_z-of_z at c.in_ok-check_post.ensures in
    let span = taken_in_span (small_view zs s.left) a x (small_sound zs s.left s.spans s.few) ok in
    let m : SFits w64 (get_or zs a (pos 0) +ℤ x) = span_fits (get_or zs a (pos 0) +ℤ x) span in
    record { answered = (ok, simp to_z-of_z (small_posted zs s.left a x inside (taken_because (small_view zs s.left) a x ok).1)); took = tt }
