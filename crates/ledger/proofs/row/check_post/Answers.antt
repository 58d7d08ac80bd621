use Rattle.std.proofs.Common.{◌≡◌, sym, arith, w64, SFits, rules}
use Rattle.std.proofs.lemmas.Int.{to_z-of_z}
use Rattle.std.proofs.lemmas.Bool.{ne_eqb}
use Rattle.ledger.proofs.Tested.{bounds_decide}
use Rattle.ledger.proofs.row.check_post.Goals as goal

pub returns : goal.returns
returns g c =
    let v = g.L.Accounts.view c.args.ledger.now in
    let told = c.in-Some-Some-Some in
    let f : SFits w64 told.balance = search rules in
    let l : SFits w64 told.lowest = search rules in
    let h : SFits w64 told.highest = search rules in
    let k : SFits w64 c.args.cents = c.ranges.cents in
    let room = ne_eqb v.places 0 (λ (e : v.places ≡ 0). omega arith) in
    rw (sym (bounds_decide v c.args.account c.args.cents told.balance told.lowest told.highest told.ensures told.ensures' told.ensures'' room)) (simp to_z-of_z at c.check_bounds.ensures)
