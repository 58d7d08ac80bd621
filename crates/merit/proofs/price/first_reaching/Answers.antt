use Rattle.std.proofs.Common.{◌≡◌, ℕ, ◌+◌, ◌-◌, ◌<◌, cond, leb, List, length, get_or, drop, Some, sym, ap, ◌∙◌}
use Rattle.std.proofs.lemmas.List.{at_drop_more, at_drop_all}
use Rattle.std.proofs.lemmas.Bool.{le-leb, lt-leb}
use Rattle.merit.specs.declared.rung.Rung.{Rung}
use Rattle.merit.specs.Rungs.{no_rung}
use Rattle.merit.specs.Prices.{marginal}
use Rattle.merit.proofs.price.first_reaching.Goals as goal

-- what the walk finds from the rung at an index on
step : (rs : List Rung) (i left : ℕ) → i < length rs →
    marginal (drop i rs) left ≡ cond (leb left (get_or rs i no_rung).kw) (Some (get_or rs i no_rung)) (marginal (drop (i + 1) rs) (left - (get_or rs i no_rung).kw))
step rs i left lt = at_drop_more (λ xs. marginal xs left) rs i no_rung lt

pub loop-r-preserved : goal.loop-r-preserved
loop-r-preserved c =
    let rs = c.args.rungs.now in
    let i = c.loop-r.r-index in
    let left = c.loop-r.left in
    let r = get_or rs i no_rung in
    sym (step rs i left c.loop-r-test.true ∙ ap (λ b. cond b (Some r) (marginal (drop (i + 1) rs) (left - r.kw))) (lt-leb left r.kw c.if-r-left.false))
    ∙ c.loop-r.invariant

pub returns-then-r-left : goal.returns-then-r-left
returns-then-r-left c =
    let rs = c.args.rungs.now in
    let i = c.loop-r.r-index in
    let left = c.loop-r.left in
    let r = get_or rs i no_rung in
    sym (step rs i left c.loop-r-test.true ∙ ap (λ b. cond b (Some r) (marginal (drop (i + 1) rs) (left - r.kw))) (le-leb left r.kw c.if-r-left.true))
    ∙ c.loop-r.invariant

pub returns : goal.returns
returns c = sym (at_drop_all (λ xs. marginal xs c.loop-r.left) c.args.rungs.now c.loop-r.r-index c.loop-r-test.false) ∙ c.loop-r.invariant
