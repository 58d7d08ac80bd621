use Rattle.std.proofs.Common.{length, ap, ◌∙◌, arith, rules}
use Rattle.std.proofs.lemmas.List.{length-append}
use Rattle.std.proofs.lemmas.Slice.Zip.{zip_turn, zip_end}
use Rattle.merit.specs.Held.{facilities_in, figures_in}
use Rattle.merit.proofs.Sound.{sheet_offering}
use Rattle.sheets.specs.Sheets.{no_facility, no_figures}
use Rattle.amounts.proofs.Spans.{standing}
use Rattle.amounts.proofs.Summing.{of_account, summed_more, summed_same, summed_all}
use Rattle.amounts.proofs.facility.sum_over.Goals as goal

pub invariant_of-standing : goal.invariant_of-standing
invariant_of-standing g c =
    let s = c.args.sheet.now in
    let t = zip_turn (facilities_in s) (figures_in s) c.loop-facility.yielded c.into_iter-facility-iterator.result c.loop-facility.facility-iterator c.next.new.self c.next.result (search rules) (search rules) c.loop-facility.yielded_by _ c.in-Some.is c.next.ensures.steps in
    let k = standing s _ _ _ t.0 (t.2 no_facility) (t.3 no_figures) in
    record { near = k.metered; works = k.works }

pub loop-facility-preserved-then-facility-account : goal.loop-facility-preserved-then-facility-account
loop-facility-preserved-then-facility-account g c =
    let s = c.args.sheet.now in
    let l = c.loop-facility in
    let t = zip_turn (facilities_in s) (figures_in s) l.yielded c.into_iter-facility-iterator.result l.facility-iterator c.next.new.self c.next.result (search rules) (search rules) l.yielded_by _ c.in-Some.is c.next.ensures.steps in
    let one = length-append l.yielded _ in
    let count = c.count-sum.ensures in
    record {
      few = omega (arith, one, l.invariant.few, c.requires.few _ _ count);
      counted = λ e most k. summed_more e most c.args.account.number s _ _ (l.invariant.counted e most k) c.in-Some.facility.now c.in-Some.figures.now _ _ one t.0 (t.2 no_facility) (t.3 no_figures) ((k _ _ count).0 ∙ of_account c.in-Some.facility.now _ c.if-facility-account.true) (k _ _ count).1;
    }

pub loop-facility-preserved : goal.loop-facility-preserved
loop-facility-preserved g c =
    let s = c.args.sheet.now in
    let l = c.loop-facility in
    let t = zip_turn (facilities_in s) (figures_in s) l.yielded c.into_iter-facility-iterator.result l.facility-iterator c.next.new.self c.next.result (search rules) (search rules) l.yielded_by _ c.in-Some.is c.next.ensures.steps in
    let one = length-append l.yielded _ in
    record {
      few = omega (arith, one, l.invariant.few);
      counted = λ e most k. summed_same e most c.args.account.number s _ _ (l.invariant.counted e most k) c.in-Some.facility.now c.in-Some.figures.now _ one t.0 (t.2 no_facility) (t.3 no_figures) c.if-facility-account.false;
    }

pub returns : goal.returns
returns g c = λ e most k.
    let s = c.args.sheet.now in
    let end = zip_end (facilities_in s) (figures_in s) c.loop-facility.yielded c.into_iter-facility-iterator.result c.loop-facility.facility-iterator c.next.new.self c.next.result (search rules) (search rules) c.loop-facility.yielded_by c.in-None.is c.next.ensures.steps in
    let each = (sheet_offering s.register.now s.row s.sound).each in
    summed_all e most c.args.account.number s _ _ (c.loop-facility.invariant.counted e most k) (omega (arith, end, each)) (omega (arith, end, c.facilities.ensures.few, ap length c.facilities.ensures.value))
