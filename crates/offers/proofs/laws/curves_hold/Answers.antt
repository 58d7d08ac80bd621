use Rattle.std.proofs.Common.{rules}
use Rattle.offers.proofs.Claims.{curve_in_form, same_offer, one_curve, splitting, emptying, reordering, own_curve, same_pairs_equal}
use Rattle.offers.proofs.laws.curves_hold.Goals as goal

pub returns : goal.returns
returns c =
    record {
      form = curve_in_form;
      offer = same_offer;
      one = one_curve;
      split = splitting;
      empty = emptying;
      order = reordering;
      own = own_curve;
      same = same_pairs_equal;
      equal_pairs = λ p q. search rules;
      equal_submissions = λ s t. search rules;
    }
