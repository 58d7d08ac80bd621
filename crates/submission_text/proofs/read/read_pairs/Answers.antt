use Rattle.std.proofs.Common.{◌≡◌, Ok, IsSome, sym, refl, ap, ◌∙◌, subst, arith, rules}
use Rattle.std.proofs.lemmas.List.{length-take-le}
use Rattle.std.proofs.lemmas.Result.{IfOk-from_err}
use Rattle.text.specs.Lines.{placed}
use Rattle.text.proofs.Lined.{placed_ok, exit_err}
use Rattle.offers.specs.Curves.{curve, stored}
use Rattle.submission_text.specs.Read.{pair_of, pair_line_of}
use Rattle.submission_text.proofs.Listing.{listed_none, listed_more, listed_fails, listed_curve, listed_all}
use Rattle.submission_text.proofs.read.read_pairs.Goals as goal

pub loop-slot-init : goal.loop-slot-init
loop-slot-init c =
    record { read = listed_none c.args.lines.now.rest.now c.args.count _ (length-take-le c.args.count _ c.requires.few); at = c.requires.first }

pub returns-in_err-pair : goal.returns-in_err-pair
returns-in_err-pair c =
    let l = c.loop-slot in
    let e = c.in_err-pair.field-0.0 in
    let value = c.in_err-pair.ensures.value (pair_of l.room) (λ v r a. search rules) in
    let refused = ap (λ k. placed k (pair_line_of l.room l.lines.rest.now)) (sym l.invariant.at) ∙ sym value in
    record {
      next = IfOk-from_err c.from_residual.result _ c.from_residual.ensures.0;
      value = exit_err _ e c.from_residual.result _ c.from_residual.ensures.1 (listed_fails _ _ _ l.slot-index _ _ _ l.invariant.read c.loop-slot-test.true e refused);
    }

pub loop-slot-preserved : goal.loop-slot-preserved
loop-slot-preserved c =
    let l = c.loop-slot in
    let told = c.in_ok-pair.ensures in
    let value = told.value (pair_of l.room) (λ v r a. search rules) in
    record {
      read = listed_more _ _ _ l.slot-index _ _ _ l.invariant.read c.loop-slot-test.true c.in_ok-pair.pair c.next.new.self.rest.now (placed_ok l.lines.number _ _ (sym value)) (search rules);
      at = omega (arith, told.next, l.invariant.at);
    }

pub unwrap-requires : goal.unwrap-requires
unwrap-requires c =
    subst IsSome (sym (c.of.ensures ∙ listed_curve _ _ _ _ _ _ _ c.loop-slot.invariant.read c.loop-slot-test.false c.requires.few)) refl

pub returns : goal.returns
returns c =
    let e = c.of.ensures ∙ listed_curve _ _ _ _ _ _ _ c.loop-slot.invariant.read c.loop-slot-test.false c.requires.few in
    let same : c.unwrap.result ≡ stored (curve c.loop-slot.pairs) = cc in
    record {
      next = omega (arith, c.loop-slot.invariant.at, c.loop-slot.invariant.read.last, c.loop-slot-test.false, c.loop-slot.auto.slot-index-end);
      value = ap (λ x. Ok (x, c.loop-slot.lines.rest.now)) same ∙ sym (listed_all _ _ _ _ _ _ _ c.loop-slot.invariant.read c.loop-slot-test.false);
    }
