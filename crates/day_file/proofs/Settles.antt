-- What is told over a ledger is told over its balances, or over its lines.
use Rattle.std.proofs.Common.{◌≡◌, ℕ, min, List, [], ◌∷◌, ◌++◌, length, take, Some, None, Ok, Err, IfOk, OnOk, Result, ℤ, pos, replicate, append-nil, append_assoc, sym, ap, ◌∙◌, subst, arith}
use Rattle.ledger.specs.View.{View, Sound}
use Rattle.ledger.specs.Posting.{Post}
use Rattle.ledger.specs.Rows.{Gained}
use Rattle.ledger.specs.Sums.{ledger_sum}
use Rattle.ledgers.specs.declared.limit.CreditLimit.{CreditLimit}
use Rattle.ledgers.specs.declared.table.AccountTable.{AccountTable}
use Rattle.ledgers.specs.Limits.{limited}
use Rattle.ledgers.specs.Tables.{table_view, with_posts}
use Rattle.journal.specs.declared.journal.Journal.{Journal}
use Rattle.journal.specs.declared.line.Line.{Line}
use Rattle.journal.specs.Extending.{Extended, front_stands}
use Rattle.journal.specs.Lines.{room, journal_view, lines_view}
use Rattle.pool.specs.declared.call.Call.{Call}
use Rattle.day.specs.Book.{Book, Answered, fed}
use Rattle.day.specs.Law.{Heeds, Follows}
use Rattle.day.specs.Claims.{LawStands}
use Rattle.answer_text.specs.Answers.{tally_text}
use Rattle.day_file.specs.declared.course.Course.{Course}
use Rattle.day_file.specs.declared.tally.Tally.{Tally}
use Rattle.day_file.specs.declared.terms.Terms.{Terms}
use Rattle.day_file.specs.Calls.{numbers_on}
use Rattle.day_file.specs.Reports.{balances_text, answers_text, taken_in, tally_of}
use Rattle.day_file.specs.Courses.{IsBlank, Makes, day_of}
use Rattle.day_file.specs.Settles.{Tells, Prints, text_behind, PrintsOver, table_seen, balance_by_balance, journal_seen, line_by_line}

pub if_ok : {X E : Type 0} {P Q : X → Type 0} (r : Result X E) → IfOk r P → ((x : X) → P x → Q x) → IfOk r Q
if_ok (Ok x) p f = f x p
if_ok (Err e) p f = tt

pub on_ok : {X E P Q : Type 0} (r : Result X E) → (P → Q) → OnOk r P → OnOk r Q
on_ok (Ok x) f p = f p
on_ok (Err e) f p = tt

gained_seen : (v v' w w' : View) (f : ℕ → ℤ) → v ≡ v' → w ≡ w' → Gained v f w → Gained v' f w'
gained_seen v v' w w' f p q g = subst (λ (u : View). Gained u f w') p (subst (λ (u : View). Gained v f u) q g)

-- ---- a ledger by what is read off it: where it keeps something, it is seen as that, and posts do to it what they do to that
module _ {L M : Type 0} (view : L → View) (took : L → List Post → L → Type 0) (seen : M → View) (does : M → List Post → M → Type 0)
    (read : L → M) (Keeps : L → Type 0) (same : (x : L) → Keeps x → view x ≡ seen (read x))
    (on : (x : L) (ps : List Post) (y : L) → Keeps x → took x ps y → Keeps y × does (read x) ps (read y)) where
  follows_read : (b : Book) (x : L) (cs : List Call) (rs : List Answered) (z : L) → Keeps x → Follows view took b x cs rs z → Keeps z × Follows seen does b (read x) cs rs (read z)
  follows_read b x [] [] z k g = (subst Keeps (sym g) k, ap read g)
  follows_read b x [] (r ∷ rs) z k g = absurd g
  follows_read b x (c ∷ cs) [] z k g = absurd g
  follows_read b x (c ∷ cs) (r ∷ rs) z k g =
      let y = g.0 in
      let o = on x _ y k g.1.1.0 in
      let rest = follows_read (fed b c r) y cs rs z o.0 g.1.1.1.1.1 in
      let heeds = subst (λ (u : View). Heeds b u c r (seen (read y))) (same x k) (subst (λ (u : View). Heeds b (view x) c r u) (same y o.0) g.1.1.1.1.0) in
      (rest.0, (read y, (subst Sound (same y o.0) g.1.0, (o.1, (λ e. ap read (g.1.1.1.0 e), (heeds, rest.1))))))

  -- what is printed of the balances, of the ledger and of the tally behind them
  pub prints_read : (sheets : ℕ) (ss : List (List ℕ)) (x z : L) (c : Course) (behind : M → List ℕ) (text : List ℕ) → Keeps x → Tells view took sheets ss x z c
      → text ≡ (c.text.items ++ behind (read z)) ++ tally_text c.tally.calls c.tally.taken c.tally.refused
      → Prints seen does sheets ss (read x) behind text
  prints_read sheets ss x z c behind text k t e =
      let l = t.law in
      let f = follows_read _ x t.calls t.answers z k l.heeded in
      let now = same x k in
      let end = same z f.0 in
      let answers = answers_text (numbers_on 1 ss) t.answers in
      let balances = balances_text (seen (read z)) in
      let told = behind (read z) in
      let tally : tally_text c.tally.calls c.tally.taken c.tally.refused ≡ tally_of t.answers = ap (λ k. tally_text k c.tally.taken c.tally.refused) t.count ∙ ap (λ k. tally_text (length t.answers) k c.tally.refused) t.taken ∙ ap (tally_text (length t.answers) (taken_in t.answers)) t.refused in
      let first : c.text.items ≡ answers ++ balances = t.text ∙ ap (λ (u : View). answers ++ balances_text u) end in
      record {
        calls = t.calls;
        said = t.said;
        answers = t.answers;
        day = t.day;
        last = read z;
        law = record {
          sum = sym (ap ledger_sum end) ∙ l.sum ∙ ap ledger_sum now;
          heeded = f.1;
          holds = l.holds;
          gained = gained_seen _ _ _ _ _ now end l.gained;
          whole = l.whole;
          least = l.least;
        };
        printed = e ∙ ap (λ l. (c.text.items ++ told) ++ l) tally ∙ ap (λ l. (l ++ told) ++ tally_of t.answers) first
            ∙ ap (λ l. l ++ tally_of t.answers) (append_assoc answers balances told) ∙ append_assoc answers (balances ++ told) (tally_of t.answers)
            ∙ ap (λ l. answers ++ l) (append_assoc balances told (tally_of t.answers));
      }

-- ---- the account table, by its balances
abbrev Table : Type 0
Table = CreditLimit AccountTable

abbrev table_sees : Table → View
table_sees x = limited x.limits (table_view x.below.balances)

abbrev table_takes : Table → List Post → Table → Type 0
table_takes x ps y = (y.below.balances ≡ with_posts x.below.balances ps) × (y.limits ≡ x.limits)

pub prints_table : (t : Terms) (ss : List (List ℕ)) (x z : Table) (c : Course) (text : List ℕ) → t.journal ≡ None → x.limits ≡ t.limits → x.below.balances ≡ replicate 12 (pos 0)
    → Tells table_sees table_takes t.sheets ss x z c → text ≡ c.text.items ++ tally_text c.tally.calls c.tally.taken c.tally.refused
    → PrintsOver t.journal t ss text
prints_table t ss x z c text none limits zero tells e =
    let all = t.limits in
    let balances : Table → List ℤ = λ s. s.below.balances in
    let prints = prints_read table_sees table_takes (table_seen all) balance_by_balance balances (λ s. s.limits ≡ all) (λ s k. ap (λ ls. limited ls (table_view s.below.balances)) k) (λ s ps y k h. (h.1 ∙ k, h.0))
    t.sheets ss x z c (λ zs. []) text limits tells (e ∙ ap (λ l. l ++ tally_text c.tally.calls c.tally.taken c.tally.refused) (sym (append-nil c.text.items)))
    in subst (λ j. PrintsOver j t ss text) (sym none)
    (subst (λ (zs : List ℤ). Prints (table_seen all) balance_by_balance t.sheets ss zs (λ zs. []) text) zero prints)

-- ---- a journal, by its lines
abbrev Lines : Type 0
Lines = CreditLimit Journal

abbrev lines_see : Lines → View
lines_see x = limited x.limits (journal_view x.below.lines.now x.below.used)

abbrev lines_take : Lines → List Post → Lines → Type 0
lines_take x ps y =
    (Extended x.below.lines.now x.below.used ps y.below.lines.now y.below.used × (y.below.lines.ghost_name ≡ x.below.lines.ghost_name)) × (y.limits ≡ x.limits)

abbrev pub written : Journal → List Line
written j = take j.used j.lines.now

pub prints_journal : (t : Terms) (n : ℕ) (ss : List (List ℕ)) (x z : Lines) (c : Course) (text : List ℕ) → t.journal ≡ Some n → x.limits ≡ t.limits → x.below.used ≡ 0 → length x.below.lines.now ≡ n
    → Tells lines_see lines_take t.sheets ss x z c → text ≡ (c.text.items ++ text_behind t.print ss (written z.below)) ++ tally_text c.tally.calls c.tally.taken c.tally.refused
    → PrintsOver t.journal t ss text
prints_journal t n ss x z c text some limits none long tells e =
    let all = t.limits in
    let lines : Lines → List Line = λ s. written s.below in
    let prints = prints_read lines_see lines_take (journal_seen all n) line_by_line lines (λ s. (s.limits ≡ all) × (room s.below.lines.now ≡ min n 4096))
    (λ s k. ap (λ ls. limited ls (journal_view s.below.lines.now s.below.used)) k.0 ∙ ap (λ m. limited all (lines_view m (lines s))) k.1)
    (λ s ps y k h. ((h.1 ∙ k.0, ap (λ m. min m 4096) h.0.0.size ∙ k.1), front_stands s.below.lines.now s.below.used ps y.below.lines.now y.below.used s.below.within h.0.0))
    t.sheets ss x z c (text_behind t.print ss) text (limits, ap (λ m. min m 4096) long) tells e
    in
    let begun : lines x ≡ [] = ap (λ k. take k x.below.lines.now) none in
    subst (λ j. PrintsOver j t ss text) (sym some)
    (subst (λ (ls : List Line). Prints (journal_seen all n) line_by_line t.sheets ss ls (text_behind t.print ss) text) begun prints)

-- ---- blank register and sheets, and lines that make their calls
module _ {L : Type 0} (view : L → View) (took : L → List Post → L → Type 0) where
  pub tells : LawStands view took → (sheets : ℕ) (ss : List (List ℕ)) (c d e : Course) (x z : L) → IsBlank sheets c → Makes view took 1 ss c x d z
      → e.text.items ≡ d.text.items ++ balances_text (view z) → e.tally ≡ d.tally → Tells view took sheets ss x z e
  tells law sheets ss c d e x z b m told tally = record {
    calls = m.calls;
    said = m.said;
    answers = m.answers;
    day = day_of d;
    law = law sheets (day_of c) (day_of d) x z m.calls m.answers b.day m.goes;
    text = told ∙ ap (λ l. l ++ balances_text (view z)) (m.printed.text ∙ ap (λ l. l ++ answers_text (numbers_on 1 ss) m.answers) b.text);
    count = let same = ap (λ (t : Tally). t.calls) tally in omega (arith, same, m.printed.calls, b.calls);
    taken = let same = ap (λ (t : Tally). t.taken) tally in omega (arith, same, m.printed.taken, b.taken);
    refused = let same = ap (λ (t : Tally). t.refused) tally in omega (arith, same, m.printed.refused, b.refused);
  }
