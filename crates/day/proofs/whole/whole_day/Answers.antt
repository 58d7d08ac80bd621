use Rattle.std.proofs.Common.{◌≡◌, ◌≤◌, List, ◌++◌, length, take, drop, replicate, sym, ap, ◌∙◌, subst, arith, rules}
use Rattle.std.proofs.lemmas.List.{take-append-le}
use Rattle.sheets.specs.Held.{known}
use Rattle.sheets.specs.Sheets.{blank_row}
use Rattle.pool.specs.Held.{held}
use Rattle.day.specs.Book.{Answered, blank}
use Rattle.day.specs.Law.{Law, written}
use Rattle.day.proofs.Runs.{blank_held}
use Rattle.day.proofs.whole.whole_day.Goals as goal

pub returns : goal.returns
returns g c =
    let view = g.L.Accounts.view in
    let took = g.L.Ledger.took in
    let rows = c.fill.new.self in
    let m = length c.args.sheets.now in
    let n : length rows ≡ m = c.fill.ensures.len in
    let cleared : rows ≡ replicate m blank_row = search rules in
    let begun = blank_held c.blank-register.result rows (length rows) c.blank-register.ensures.facilities c.blank-register.ensures.prices (cleared ∙ ap (λ k. replicate k blank_row) (sym n)) in
    let a = c.in_ok-answers.answers in
    let cs = c.args.calls.now in
    let new = c.make_all.new.answers in
    let room : length cs ≤ length new = omega arith in
    let rs : List Answered = take a.len (new ++ drop (length new) a.items) in
    let same : take (length cs) new ≡ rs =
    sym (take-append-le (length cs) new (drop (length new) a.items) room) ∙ ap (λ k. take k (new ++ drop (length new) a.items)) (sym c.in_ok-answers.ensures) in
    let x = c.args.ledger.now in
    let z = c.make_all.new.ledger in
    let end = c.make_all.new.register in
    let d = held end c.make_all.new.sheets in
    let done = rw c.unwrap.ensures at c.make_all.ensures in
    record {
      law = (known end, (end.prices, subst (λ i. Law view took i x cs rs d z) n (subst (λ ss. Law view took (length rows) x cs ss d z) same (done.law begun))));
      written = subst (λ i. took x (written (blank i) cs rs) z) n (subst (λ ss. took x (written (blank (length rows)) cs ss) z) same (done.written begun));
      unmade = tt;
    }
