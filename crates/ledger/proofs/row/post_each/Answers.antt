use Rattle.std.proofs.Common.{◌≡◌, ◌<◌, ◌≤◌, true, length, get_or, take, pos, sym, refl, ap, ◌∙◌, subst, arith, take_all, w64, SFits, rules}
use Rattle.std.proofs.lemmas.Int.{to_z-of_z}
use Rattle.ledger.specs.Rows.{non_zero, posts, amount, Moved, row_posts}
use Rattle.ledger.proofs.Tested.{post_taken}
use Rattle.ledger.proofs.Rows.{zero_not_posted, zero_by_bits, posted_by_bits, account_there, row_posts_taken, row_posts_skipped, pushed_some}
use Rattle.ledger.proofs.Moves.{up_to, up_to_all, moved_none, moved_skip, moved_post, moved_as, still_taken}
use Rattle.ledger.proofs.row.post_each.Goals as goal
use Rattle.ledger.proofs.row.post_each.Goals.{then-cents-ne0, else-cents-ne0}

pub loop-account-init : goal.loop-account-init
loop-account-init g c = (g.L.Ledger.none c.args.ledger.now, (moved_none (g.L.Accounts.view c.args.ledger.now) c.args.amounts.now, λ e. refl))

pub unwrap-requires : goal.unwrap-requires
unwrap-requires g c =
    let v = g.L.Accounts.view c.args.ledger.now in
    let m = g.L.Accounts.view c.loop-account.ledger in
    let xs = c.args.amounts.now in
    let i = c.loop-account.account in
    let inside : c.loop-account.account < length c.args.amounts.now = omega arith in
    let f : SFits w64 (get_or c.args.amounts.now c.loop-account.account (pos 0)) = search rules in
    let some : non_zero (amount xs i) ≡ true = posted_by_bits (amount xs i) c.if-cents-ne0.true in
    post_taken m i (amount xs i) c.post.result _ (simp to_z-of_z at c.post.ensures.answered) (still_taken v m xs i c.requires inside some c.loop-account.invariant.1.0)

pub loop-account-preserved : goal.loop-account-preserved
loop-account-preserved g c =
    let v = g.L.Accounts.view c.args.ledger.now in
    let m = g.L.Accounts.view c.loop-account.ledger in
    let xs = c.args.amounts.now in
    let i = c.loop-account.account in
    let inside : c.loop-account.account < length c.args.amounts.now = omega arith in
    let f : SFits w64 (get_or c.args.amounts.now c.loop-account.account (pos 0)) = search rules in
    elim c.if-cents-ne0.branch [
      | then-cents-ne0 w ↦
          let some : non_zero (amount xs i) ≡ true = posted_by_bits (amount xs i) w.if-cents-ne0.true in
          let here = account_there v xs c.requires i inside some in
          let h = w.ledger-is in
          let next = w.post.new.self in
          let one = g.L.Ledger.more c.args.ledger.now c.loop-account.ledger next (row_posts 0 (take i xs)) _ c.loop-account.invariant.0 (simp to_z-of_z at (rw w.unwrap.ensures at w.post.ensures).took) in
          let took = subst (λ ps. g.L.Ledger.took c.args.ledger.now ps next) (sym (row_posts_taken xs i inside some)) one in
          rw h (
            took,
            (
              moved_post v m xs i inside c.loop-account.invariant.1.0 (g.L.Accounts.view w.post.new.self) some here (simp to_z-of_z at (rw w.unwrap.ensures at w.post.ensures).answered).1,
              λ e. absurd (pushed_some (row_posts 0 (take i xs)) _ (sym (row_posts_taken xs i inside some) ∙ e)),
            ),
          )
      | else-cents-ne0 w ↦
          let zero = zero_by_bits (amount xs i) f w.if-cents-ne0.false in
          let same = row_posts_skipped xs i inside (zero_not_posted (amount xs i) zero) in
          rw w.ledger-is (
            subst (λ ps. g.L.Ledger.took c.args.ledger.now ps c.loop-account.ledger) (sym same) c.loop-account.invariant.0,
            (moved_skip v m xs i inside c.loop-account.invariant.1.0 zero, λ e. c.loop-account.invariant.1.1 (sym same ∙ e)),
          )
    ]

pub returns : goal.returns
returns g c =
    let v = g.L.Accounts.view c.args.ledger.now in
    let m = g.L.Accounts.view c.loop-account.ledger in
    let xs = c.args.amounts.now in
    let full : length c.args.amounts.now ≤ c.loop-account.account = omega arith in
    let all = moved_as v m (up_to xs c.loop-account.account) (amount xs) (posts (take c.loop-account.account xs)) (λ k. sym (up_to_all xs c.loop-account.account full k)) c.loop-account.invariant.1.0 in
    record {
      took = subst (λ ys. g.L.Ledger.took c.args.ledger.now (row_posts 0 ys) c.loop-account.ledger) (take_all c.loop-account.account xs full) c.loop-account.invariant.0;
      moved = subst (λ n. Moved v (amount xs) n m) (ap posts (take_all c.loop-account.account xs full)) all;
      kept = λ e. c.loop-account.invariant.1.1 (ap (row_posts 0) (take_all c.loop-account.account xs full) ∙ e);
    }
