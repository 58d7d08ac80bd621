-- What a call answers, from what it does.
use Rattle.std.proofs.Common.{◌≡◌, ℕ, List, [], ◌∷◌, ℤ, pos, replicate, Some, Ok, Err, Result, refl, sym, ap, ◌∙◌}
use Rattle.std.specs.Result.{result_map_both}
use Rattle.ledger.specs.View.{View}
use Rattle.ledgers.specs.Limits.{limited}
use Rattle.ledgers.specs.Tables.{table_view}
use Rattle.refusals.specs.declared.Refusal.{Refusal}
use Rattle.sheets.specs.declared.register.Register.{Register}
use Rattle.sheets.specs.declared.row.Row.{Row}
use Rattle.sheets.specs.declared.row.State.{State}
use Rattle.sheets.specs.declared.row.State.TheVariants.{Closed, Settled}
use Rattle.sheets.specs.Held.{known}
use Rattle.amounts.specs.Figures.{facilities}
use Rattle.pool.specs.declared.call.Call.{Call}
use Rattle.pool.specs.declared.call.Call.TheVariants.{Settle, Adjust}
use Rattle.pool.specs.declared.call.Answer.TheVariants.{Posts}
use Rattle.pool.specs.Day.{Day, Does, answer}
use Rattle.pool.specs.Held.{held}
use Rattle.worked_figures.specs.Nets.{prices, row}
use Rattle.worked_figures.specs.Postings.{unless_refused, answer_of, day, limits, table_under, settled, corrected}

answered : (d e : Day) (v w : View) (c : Call) (r : Result ℕ Refusal) → Does Posts d v c r e w → result_map_both Posts (λ f. f) r ≡ answer_of d v c
unfolding answer_of
answered d e v w c (Ok n) h = ap Ok h.answers ∙ sym (ap (λ t. unless_refused t (answer d c)) h.passes)
answered d e v w c (Err f) h = sym (ap (λ t. unless_refused t (answer d c)) h.fails)

day_is : (g : Register) (r : Row) (s : State) (reading : ℕ) → known g ≡ facilities → g.prices ≡ Some prices → r ≡ row s reading → held g (r ∷ []) ≡ day s reading
day_is g r s reading k p m = rw (k, p, m) refl

table_is : (ls bs : List ℤ) (limit : ℕ) → ls ≡ limits limit → bs ≡ replicate 12 (pos 0) → limited ls (table_view bs) ≡ table_under limit
table_is ls bs limit l b = rw (l, b) refl

pub settled_as : (g : Register) (r : Row) (ls bs : List ℤ) (limit : ℕ) (x : Result ℕ Refusal) (e : Day) (w : View)
    → known g ≡ facilities → g.prices ≡ Some prices → r ≡ row Closed 700000 → ls ≡ limits limit → bs ≡ replicate 12 (pos 0)
    → Does Posts (held g (r ∷ [])) (limited ls (table_view bs)) (Settle 1) x e w → result_map_both Posts (λ f. f) x ≡ settled limit
unfolding settled
settled_as g r ls bs limit x e w k p m l b does =
    answered _ e _ w _ x does
    ∙ ap (λ d. answer_of d (limited ls (table_view bs)) (Settle 1)) (day_is g r Closed 700000 k p m)
    ∙ ap (λ v. answer_of (day Closed 700000) v (Settle 1)) (table_is ls bs limit l b)

pub corrected_as : (g : Register) (r : Row) (ls bs : List ℤ) (to : ℕ) (x : Result ℕ Refusal) (e : Day) (w : View)
    → known g ≡ facilities → g.prices ≡ Some prices → r ≡ row Settled 700000 → ls ≡ limits 4294967295 → bs ≡ replicate 12 (pos 0)
    → Does Posts (held g (r ∷ [])) (limited ls (table_view bs)) (Adjust 1 1 to) x e w → result_map_both Posts (λ f. f) x ≡ corrected to
unfolding corrected
corrected_as g r ls bs to x e w k p m l b does =
    answered _ e _ w _ x does
    ∙ ap (λ d. answer_of d (limited ls (table_view bs)) (Adjust 1 1 to)) (day_is g r Settled 700000 k p m)
    ∙ ap (λ v. answer_of (day Settled 700000) v (Adjust 1 1 to)) (table_is ls bs 4294967295 l b)
