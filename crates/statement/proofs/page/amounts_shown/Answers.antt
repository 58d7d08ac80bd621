use Rattle.std.proofs.Common.{◌≡◌, ◌+◌, ◌-◌, ◌*◌, ◌<◌, ◌≤◌, ◌⊎◌, ⊎_elim, inl, inr, ◌++◌, ◌∷◌, [], get_or, refl, ap, ◌∙◌, w64, SFits, rules, arith}
use Rattle.std.proofs.lemmas.Bool.{cases_lt}
use Rattle.std.proofs.lemmas.Bool.Decides.{nat_tests}
use Rattle.std.proofs.lemmas.List.{take_all}
use Rattle.statement.specs.Pages.{postings_of, postings_on}
use Rattle.statement.proofs.Showing.{no_line, nothing_so_far, restated, room_left, other_account, on_page, off_page}
use Rattle.statement.proofs.page.amounts_shown.Goals as goal
use Rattle.statement.proofs.page.amounts_shown.Goals.{then-line-account, then-contains, else-contains, else-line-account}

pub loop-line-init : goal.loop-line-init
loop-line-init c = nothing_so_far c.args.account c.args.page c.args.lines.now c.new-amounts.result.items c.new-amounts.ensures

pub push-requires : goal.push-requires
push-requires c =
    let l = c.loop-line in
    let lt : l.passed < 64 * (c.args.page - 1) + 64 = grind (arith, nat_tests) in
    (omega arith, room_left _ _ _ _ _ _ l.invariant lt)

pub loop-line-preserved : goal.loop-line-preserved
loop-line-preserved c =
    let l = c.loop-line in
    let ls = c.args.lines.now in
    let line = get_or ls l.line-index no_line in
    elim c.if-line-account.branch [
      | then-line-account w ↦ elim w.if-contains.branch [
        | then-contains v ↦
            let fits : SFits w64 line.cents = search rules in
            let least : 64 * (c.args.page - 1) ≤ l.passed = grind (arith, nat_tests) in
            let most : l.passed < 64 * (c.args.page - 1) + 64 = grind (arith, nat_tests) in
            let items : v.push.new.self.items ≡ l.amounts.items ++ (line.cents ∷ []) = search rules in
            restated _ _ _ _ _ _ _ _ (ap (λ b. b.items) (w.amounts-is ∙ v.amounts-is) ∙ items) w.passed-is
            (on_page _ _ _ _ _ _ l.invariant line c.loop-line-test.true refl w.if-line-account.true least most)
        | else-contains v ↦
            let out : (l.passed < 64 * (c.args.page - 1)) ⊎ (64 * (c.args.page - 1) + 64 ≤ l.passed) =
            ⊎_elim (λ h. inl h) (λ h. inr (grind (arith, nat_tests))) (cases_lt l.passed (64 * (c.args.page - 1))) in
            restated _ _ _ _ _ _ _ _ (ap (λ b. b.items) (w.amounts-is ∙ v.amounts-is)) w.passed-is
            (off_page _ _ _ _ _ _ l.invariant line c.loop-line-test.true refl w.if-line-account.true out)
      ]
      | else-line-account w ↦
          restated _ _ _ _ _ _ _ _ (ap (λ b. b.items) w.amounts-is) w.passed-is
          (other_account _ _ _ _ _ _ l.invariant line c.loop-line-test.true refl w.if-line-account.false)
    ]

pub returns : goal.returns
returns c =
    let l = c.loop-line in
    l.invariant.shown ∙ ap (λ ls. postings_on c.args.page (postings_of c.args.account ls)) (take_all l.line-index c.args.lines.now c.loop-line-test.false)
