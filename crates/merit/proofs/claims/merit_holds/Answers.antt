use Rattle.merit.proofs.Ranking.{merit_order_stands}
use Rattle.merit.proofs.Margins.{marginal_first}
use Rattle.merit.proofs.Least.{least_price, reached_exactly, marginal_price, priced_exactly}
use Rattle.merit.proofs.Counting.{each_pair_once}
use Rattle.merit.proofs.Sound.{closed_price}
use Rattle.merit.proofs.claims.merit_holds.Goals as goal

pub returns : goal.returns
returns c =
    record {
      price = least_price;
      reached = reached_exactly;
      first = marginal_first;
      margin = marginal_price;
      priced = priced_exactly;
      order = merit_order_stands;
      offers = each_pair_once;
      past = closed_price;
    }
