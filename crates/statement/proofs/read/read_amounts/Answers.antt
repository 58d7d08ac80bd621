use Rattle.std.proofs.Common.{◌≡◌, ◌+◌, ◌<◌, [], ◌∷◌, ◌++◌, length, Ok, sym, ◌∙◌, subst, rules, arith}
use Rattle.text.specs.Lines.{placed}
use Rattle.text.proofs.Lined.{exit_err}
use Rattle.statement.specs.Read.{amount_line_of}
use Rattle.statement.proofs.Reading.{Listed, told_err, listed_none, listed_more, listed_fails, listed_all}
use Rattle.statement.proofs.read.read_amounts.Goals as goal

pub loop-read-init : goal.loop-read-init
loop-read-init c = listed_none c.args.text.now c.args.count _ c.requires.none

pub push-requires : goal.push-requires
push-requires c =
    let room : length c.loop-read.amounts.items < 64 = omega (arith, c.loop-read.invariant.long, c.loop-read-test.true, c.requires.few) in
    (omega arith, room)

pub returns-in_err-cents : goal.returns-in_err-cents
returns-in_err-cents c =
    let l = c.loop-read in
    let e = c.in_err-cents.field-0.0 in
    let refused = told_err (λ x. (x.0, x.1.now)) (4 + l.read) c.signed_line-line.result (amount_line_of l.rest.now) e c.signed_line-line.ensures.value (sym c.on_line.ensures ∙ c.in_err-cents.was) in
    exit_err _ e c.from_residual.result _ c.from_residual.ensures.1 (listed_fails _ _ _ _ _ l.invariant c.loop-read-test.true e refused)

pub loop-read-preserved : goal.loop-read-preserved
loop-read-preserved c =
    let l = c.loop-read in
    let cents = c.in_ok-cents.cents in
    let rest = c.in_ok-cents.left.now in
    let read : placed (4 + l.read) (amount_line_of l.rest.now) ≡ Ok (cents, rest) = search rules in
    let items : c.push.new.self.items ≡ l.amounts.items ++ (cents ∷ []) = search rules in
    subst (λ zs. Listed c.args.text.now c.args.count (l.read + 1) zs rest) (sym items)
    (listed_more _ _ _ _ _ l.invariant c.loop-read-test.true cents rest read)

pub returns : goal.returns
returns c = listed_all _ _ _ _ _ c.loop-read.invariant c.loop-read-test.false
