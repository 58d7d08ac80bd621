use Rattle.std.proofs.Common.{length, sym, ap, ◌∙◌}
use Rattle.offers.specs.Tests.{all}
use Rattle.merit.specs.Working.{factored, eight_at_most}
use Rattle.merit.proofs.Sound.{register_factors, sheet_offering}
use Rattle.merit.proofs.price.lay_sheet.Goals as goal

pub lay_offers-requires : goal.lay_offers-requires
lay_offers-requires c =
    let s = c.args.sheet.now in
    let g = s.register.now in
    record {
      room = c.requires;
      few = c.facilities.ensures.few;
      each = c.figures.ensures.each ∙ sym (ap length c.facilities.ensures.value);
      factors = ap (all factored) c.facilities.ensures.value ∙ register_factors g;
      curves = ap (all eight_at_most) c.figures.ensures.value ∙ (sheet_offering g s.row s.sound).curves;
    }
