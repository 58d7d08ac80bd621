use Rattle.std.proofs.Common.{◌≡◌, ◌≤◌, leb, length, ℤ, nat_abs, Some, sym, ap, ◌∙◌, arith, w64, to_z, of_z}
use Rattle.std.proofs.lemmas.Int.{ints}
use Rattle.std.proofs.lemmas.Bool.{le-leb}
use Rattle.offers.proofs.Tests.{and_both}
use Rattle.sheets.specs.Changes.{table}
use Rattle.sheets.specs.Sheets.{offers, reaches}
use Rattle.merit.proofs.Unwrapping.{is_some_unless}
use Rattle.merit.proofs.Sound.{found_price, found_near, found_some}
use Rattle.merit.proofs.price.clearing.Goals as goal

pub unwrap-marginal-requires : goal.unwrap-marginal-requires
unwrap-marginal-requires c =
    let s = c.args.sheet.now in
    let g = s.register.now in
    let d = c.in_ok-demand.demand in
    let le : d ≤ offers (table g s.row) = omega (arith, c.offered.ensures, c.from.ensures, c.if-offered-from.false) in
    is_some_unless c.marginal_rung.result
    (λ none. found_some g s.row d s.sound (sym c.in_ok-demand.ensures) le (sym c.marginal_rung.ensures.value ∙ none))

pub returns : goal.returns
returns c =
    let s = c.args.sheet.now in
    let g = s.register.now in
    let d = c.in_ok-demand.demand in
    let m = c.unwrap-marginal.result in
    let asks = sym c.in_ok-demand.ensures in
    let e = sym c.marginal_rung.ensures.value ∙ c.unwrap-marginal.ensures in
    let le : d ≤ offers (table g s.row) = omega (arith, c.offered.ensures, c.from.ensures, c.if-offered-from.false) in
    let near : nat_abs m.price ≤ 125000 = found_near g s.row d s.sound asks m e in
    let back : m.price ≡ to_z w64 (of_z w64 m.price) = omega (arith, ints) in (
      and_both (leb 96 (length c.args.working.now)) (reaches (table g s.row) s.row.demand) (le-leb 96 (length c.args.working.now) c.if-working-lt-RUNGS.false) (ap (reaches (table g s.row)) asks ∙ le-leb d (offers (table g s.row)) le),
      (found_price g s.row d s.sound asks m e ∙ ap (λ (z : ℤ). Some (z, m.facility)) back, c.marginal_rung.ensures.slots),
    )
