use Rattle.std.proofs.Common.{◌≡◌, ℕ, ◌-◌, ◌*◌, ◌/◌, ◌≤◌, List, length, sum, sym, ap, ◌∙◌, arith, rules}
use Rattle.std.proofs.lemmas.List.{take_all}
use Rattle.schedule.specs.Levies.{share_to, loads_to}
use Rattle.schedule.proofs.Levying.{loads_rise, share_rises, levy_some}
use Rattle.schedule.proofs.sharing.levy.Goals as goal

all_loads : (ls : List ℕ) (n : ℕ) → length ls ≡ 11 → n ≡ sum ls → n ≡ loads_to ls 11
all_loads ls n l e = e ∙ sym (ap sum (take_all 11 ls (omega arith)))

pub share-through-requires : goal.share-through-requires
share-through-requires c =
    let high : c.args.account ≤ 11 = search rules in
    let whole = all_loads c.args.loads.now c.sum_of-whole.result (search rules) c.sum_of-whole.ensures.value in
    let r = loads_rise c.args.loads.now c.args.account 11 (omega arith) in
    (omega arith, omega arith)

pub share-before-requires : goal.share-before-requires
share-before-requires c =
    let high : c.args.account ≤ 11 = search rules in
    let whole = all_loads c.args.loads.now c.sum_of-whole.result (search rules) c.sum_of-whole.ensures.value in
    let r = loads_rise c.args.loads.now (c.args.account - 1) 11 (omega arith) in
    (omega arith, omega arith)

through : (c : goal.After-share-before) → c.share-through.result ≡ share_to c.args.total c.args.loads.now c.args.account
unfolding share_to
through c =
    let whole = all_loads c.args.loads.now c.sum_of-whole.result (search rules) c.sum_of-whole.ensures.value in
    c.share-through.ensures ∙ (λ i. c.args.total * c.sum_of.ensures.value i / whole i)

before : (c : goal.After-share-before) → c.share-before.result ≡ share_to c.args.total c.args.loads.now (c.args.account - 1)
unfolding share_to
before c =
    let whole = all_loads c.args.loads.now c.sum_of-whole.result (search rules) c.sum_of-whole.ensures.value in
    c.share-before.ensures ∙ (λ i. c.args.total * c.sum_of-2.ensures.value i / whole i)

pub overflow_sub-result : goal.overflow_sub-result
overflow_sub-result c = omega (arith, through c, before c, share_rises c.args.total c.args.loads.now (c.args.account - 1) c.args.account (omega arith))

pub returns : goal.returns
returns c =
    let low : 1 ≤ c.args.account = search rules in
    let high : c.args.account ≤ 11 = search rules in
    let whole = all_loads c.args.loads.now c.sum_of-whole.result (search rules) c.sum_of-whole.ensures.value in
    levy_some c.args.total c.args.loads.now c.args.account c.share-through.result c.share-before.result low high (omega arith) (through c) (before c)
