use Rattle.std.proofs.Common.{◌≡◌, ℕ, ◌<◌, length, pos, sym, ap, ◌∙◌, subst, arith, rules}
use Rattle.std.proofs.lemmas.List.FromFn.{fill_by_all}
use Rattle.std.proofs.ByRecursion.{All-from_get_or}
use Rattle.ledger.specs.Sums.{row_sum}
use Rattle.sheets.specs.declared.row.Row.{Row}
use Rattle.amounts.specs.Amounts.{net, nets, loads}
use Rattle.amounts.specs.Held.{held}
use Rattle.amounts.specs.Tallies.{near, net_from}
use Rattle.amounts.proofs.Balance.{nets_balance}
use Rattle.amounts.proofs.Made.{serves_from_indices, made_at}
use Rattle.amounts.proofs.Tallies.{tallied_net, tallied_near}
use Rattle.amounts.proofs.nets.nets_at.Goals as goal

pub from_fn-requires : goal.from_fn-requires
from_fn-requires c = (search rules, serves_from_indices (λ x q r. search rules) (λ x lt. search rules))

pub returns : goal.returns
unfolding nets
returns c =
    let h = held c.args.at in
    let t = c.tally_up-tally.result in
    let ls = c.loads_of-loads.result in
    let made = c.from_fn.ensures.items in
    let taken = c.loads_of-loads.ensures ∙ ap (λ (r : Row). loads r.positions) c.row.ensures in
    let few : length c.row.result.positions ≡ 11 = search rules in
    let at = made_at _ _ (net_from t.each t.pool t.compensation ls) (λ i y q called. search rules) _ 12 made in
    let known = λ (k : ℕ) (lt : k < 12). at k (pos 0) lt ∙ tallied_net h t.each t.pool t.compensation ls c.tally_up-tally.ensures taken k lt in
    let value : c.from_fn.result ≡ nets h = fill_by_all (net h) c.from_fn.result 12 (pos 0) made.long known in
    record {
      value = value;
      balance = λ some. ap row_sum value ∙ nets_balance h (omega (arith, few, ap (λ (r : Row). length r.positions) c.row.ensures)) some;
      small = All-from_get_or near c.from_fn.result (pos 0) (λ k lt. subst near (sym (at k (pos 0) (omega (arith, made.long)))) (tallied_near h t.each t.pool t.compensation ls c.tally_up-tally.ensures k (omega (arith, made.long))));
    }
