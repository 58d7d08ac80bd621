-- The same call with its answer in another form, or with more working rungs than it needs.
use Rattle.std.proofs.Common.{◌≡◌, ℕ, ◌<◌, ◌≤◌, min, Bool, Ok, Err, Result, sym, ap, ◌∙◌, subst, ⊎_elim, MatchResult, IsOkAnd, arith, rules}
use Rattle.std.proofs.lemmas.Bool.{cases_lt, le-leb}
use Rattle.ledger.specs.View.{View}
use Rattle.refusals.specs.declared.Refusal.{Refusal}
use Rattle.refusals.specs.declared.Refusal.TheVariants as refusal
use Rattle.sheets.specs.declared.row.Event.TheVariants as event
use Rattle.pool.specs.declared.call.Call.{Call}
use Rattle.pool.specs.declared.call.Call.TheVariants.{Close}
use Rattle.pool.specs.declared.call.Answer.{Answer}
use Rattle.pool.specs.Checks.{Check, unless, ◌then◌}
use Rattle.pool.specs.Day.{Day, Does, table, is_open, interval_known, at_sheet, has_demand, demand_reached, figures_on, sheet}
use Rattle.day.specs.Book.{Answered}

pub answered : {X : Type 0} (wrap : X → Answer) (d : Day) (v : View) (c : Call) (r : Result X Refusal) (s : Answered) (e : Day) (w : View) →
    MatchResult r (λ x. IsOkAnd s (λ a. a ≡ wrap x)) (λ f. s ≡ Err f) → Does wrap d v c r e w → Does (λ x. x) d v c s e w
answered wrap d v c (Ok x) s e w h t = search rules
answered wrap d v c (Err f) s e w h t = subst (λ (k : Answered). Does (λ x. x) d v c k e w) (sym h) t

-- 96 working rungs and more are checked alike
enough_alike : (d : Day) (v : View) (i k : ℕ) → 96 ≤ k → table d v (Close i 96) ≡ table d v (Close i k)
enough_alike d v i k h =
    let Rest : Bool → Check = λ b. is_open d.prices then (interval_known d.rows i then (at_sheet d event.Close i then (unless b (refusal.TooFewRungs k) then (has_demand (sheet d i).demand then (demand_reached (figures_on d i) (sheet d i).demand i then Ok tt))))) in
    ap Rest (sym (le-leb 96 k h))

alike : (d : Day) (v : View) (i k : ℕ) (r : Answered) (e : Day) (w : View) → 96 ≤ k → Does (λ x. x) d v (Close i 96) r e w → Does (λ x. x) d v (Close i k) r e w
alike d v i k (Ok a) e w h t = record { passes = sym (enough_alike d v i k h) ∙ t.passes; answers = t.answers; changes = t.changes; moves = t.moves }
alike d v i k (Err f) e w h t = record { fails = sym (enough_alike d v i k h) ∙ t.fails; same = t.same; still = t.still }

pub lent_alike : (d : Day) (v : View) (i k m : ℕ) (r : Answered) (e : Day) (w : View) → m ≡ min k 96 → Does (λ x. x) d v (Close i m) r e w → Does (λ x. x) d v (Close i k) r e w
lent_alike d v i k m r e w is t =
    ⊎_elim
    (λ (l : k < 96). subst (λ (n : ℕ). Does (λ x. x) d v (Close i n) r e w) (let q : m ≡ k = omega arith in q) t)
    (λ (l : 96 ≤ k). alike d v i k r e w l (subst (λ (n : ℕ). Does (λ x. x) d v (Close i n) r e w) (let q : m ≡ 96 = omega arith in q) t))
    (cases_lt k 96)
