-- A page is read by a plan of lines, so its first faulty line is told, and there is one.
use Rattle.std.proofs.Common.{◌≡◌, ℕ, zero, suc, ◌+◌, ◌<◌, ◌↔◌, true, false, ltb, List, [], ◌∷◌, ◌++◌, ℤ, pos, neg_ℤ, Ok, Err, codes, Result, sym, refl, ap, ◌∙◌, arith, add-one}
use Rattle.std.specs.Option.{option_map_or}
use Rattle.std.proofs.lemmas.Bool.{cond-true, cond-false}
use Rattle.std.proofs.lemmas.Bool.Decides.{nat_tests}
use Rattle.text.specs.declared.refusal.Refusal.{Refusal}
use Rattle.text.specs.Numbers.{natural_of, signed_of}
use Rattle.text.specs.Lines.{before, keyed, valued, natural_line_of, placed, and_then, closed}
use Rattle.text.specs.Faults.{line_after}
use Rattle.text.proofs.Lined.{Plain, line_parts}
use Rattle.text.proofs.Plans.{Plan, run, Runs, Sound, Good, Due, then_same, first_fault_of, one_fault_of}
use Rattle.text.proofs.Plans.Plan.{done, line}
use Rattle.ledger.specs.View.{most}
use Rattle.journal.specs.Lines.{most_moved}
use Rattle.statement.specs.Pages.{StatementPage}
use Rattle.statement.specs.Read.{amount_line_of, balance_line_of, amounts_from, read_of}
use Rattle.statement.specs.Faults.{IsPage, count_or_none, count_told, due_key, TellsFirst, OneFault}
use Rattle.statement.proofs.Trips.{plain_account, plain_page, plain_lines, plain_amount, plain_balance, from_balance}
use Rattle.statement.proofs.PagesHold.{reads_pages}

-- ---- the plan
module _ (a n : ℕ) where
  abbrev amounts_plan : ℕ → List ℤ → Plan StatementPage
  amounts_plan zero zs =
      line (codes "balance") (signed_of (neg_ℤ most) most) (λ b.
      done (record { account = a; page = n; amounts = zs; balance = b }))
  amounts_plan (suc k) zs =
      line (codes "amount") (signed_of (neg_ℤ most_moved) most_moved) (λ z. amounts_plan k (zs ++ (z ∷ [])))

abbrev page_plan : Plan StatementPage
page_plan =
    line (codes "account") (natural_of 0 11) (λ a.
    line (codes "page") (natural_of 1 64) (λ n.
    line (codes "lines") (natural_of 0 64) (λ k.
    amounts_plan a n k [])))

-- ---- it reads what the definition reads
amounts_run : (a n k left at all : ℕ) (zs : List ℤ) (s : List ℕ) → at + left ≡ 4 + k → all ≡ k
    → and_then (amounts_from left at zs s) (λ x. from_balance a n x.0 all x.1) ≡ run (amounts_plan a n left zs) at s
amounts_run a n k zero at all zs s e f =
    let page : ℤ → StatementPage = λ b. record { account = a; page = n; amounts = zs; balance = b } in
    let here : 4 + all ≡ at = omega arith in
    let next : 5 + all ≡ suc at = omega arith in
    ap (λ m. and_then (placed m (balance_line_of s)) (λ b. closed (5 + all) b.1 (page b.0))) here
    ∙ ap (λ m. and_then (placed at (balance_line_of s)) (λ b. closed m b.1 (page b.0))) next
amounts_run a n k (suc left) at all zs s e f =
    one_more (placed at (amount_line_of s)) (λ x. amounts_run a n k left (suc at) all (zs ++ (x.0 ∷ [])) x.1 (omega arith) f)
  where
    one_more : (r : Result (ℤ × List ℕ) Refusal)
        → ((x : ℤ × List ℕ) → and_then (amounts_from left (suc at) (zs ++ (x.0 ∷ [])) x.1) (λ y. from_balance a n y.0 all y.1)
        ≡ run (amounts_plan a n left (zs ++ (x.0 ∷ []))) (suc at) x.1)
        → and_then (and_then r (λ x. amounts_from left (at + 1) (zs ++ (x.0 ∷ [])) x.1)) (λ y. from_balance a n y.0 all y.1)
        ≡ and_then r (λ x. run (amounts_plan a n left (zs ++ (x.0 ∷ []))) (suc at) x.1)
    one_more (Err d) h = refl
    one_more (Ok x) h =
        ap (λ m. and_then (amounts_from left m (zs ++ (x.0 ∷ [])) x.1) (λ y. from_balance a n y.0 all y.1)) (add-one at) ∙ h x

page_run : (s : List ℕ) → read_of s ≡ run page_plan 1 s
page_run s =
    then_same (placed 1 (natural_line_of (codes "account") 0 11 s)) _ _ (λ a.
    then_same (placed 2 (natural_line_of (codes "page") 1 64 a.1)) _ _ (λ n.
    then_same (placed 3 (natural_line_of (codes "lines") 0 64 n.1)) _ _ (λ k.
    amounts_run a.0 n.0 k.0 k.0 4 k.0 [] k.1 refl refl)))

-- ---- its lines are sound
sound_figure : (key : List ℕ) (low high : ℕ) → Plain key → natural_of low high (codes "1") ≡ Ok 1 → Sound key (natural_of low high)
sound_figure key low high k e = record { plain = k; sample = codes "1"; value = 1; read = e; free = (refl, tt) }

sound_cents : (key : List ℕ) (low high : ℤ) → Plain key → signed_of low high (codes "0") ≡ Ok (pos 0) → Sound key (signed_of low high)
sound_cents key low high k e = record { plain = k; sample = codes "0"; value = pos 0; read = e; free = (refl, tt) }

amounts_good : (a n k : ℕ) (zs : List ℤ) → Good (amounts_plan a n k zs)
amounts_good a n zero zs = (sound_cents (codes "balance") (neg_ℤ most) most plain_balance refl, λ b. tt)
amounts_good a n (suc k) zs =
    (sound_cents (codes "amount") (neg_ℤ most_moved) most_moved plain_amount refl, λ z. amounts_good a n k (zs ++ (z ∷ [])))

page_good : Good page_plan
page_good = (
  sound_figure (codes "account") 0 11 plain_account refl,
  λ a. (
    sound_figure (codes "page") 1 64 plain_page refl,
    λ n. (sound_figure (codes "lines") 0 64 plain_lines refl, λ k. amounts_good a n k []),
  ),
)

-- ---- its keys are those that are due
amounts_due : (a n left : ℕ) (zs : List ℤ) (due : ℕ → List ℕ) (s : List ℕ) → ((m : ℕ) → m < left → codes "amount" ≡ due m) → codes "balance" ≡ due left
    → Due (amounts_plan a n left zs) due s
amounts_due a n zero zs due s amount balance = (balance, λ b rest read. tt)
amounts_due a n (suc left) zs due s amount balance =
    (amount 0 (omega arith), λ z rest read. amounts_due a n left (zs ++ (z ∷ [])) (λ m. due (suc m)) rest (λ m lt. amount (suc m) (omega arith)) balance)

-- the third line says how many amounts follow
third_line : (s s₁ s₂ s₃ : List ℕ) (a n k : ℕ) → natural_line_of (codes "account") 0 11 s ≡ Ok (a, s₁) → natural_line_of (codes "page") 1 64 s₁ ≡ Ok (n, s₂)
    → natural_line_of (codes "lines") 0 64 s₂ ≡ Ok (k, s₃) → count_told s ≡ k
third_line s s₁ s₂ s₃ a n k e₁ e₂ e₃ =
    let p₁ = line_parts (natural_of 0 11) (codes "account") s a s₁ e₁ in
    let p₂ = line_parts (natural_of 1 64) (codes "page") s₁ n s₂ e₂ in
    let p₃ = line_parts (natural_of 0 64) (codes "lines") s₂ k s₃ e₃ in
    let at : line_after 2 s ≡ before 10 s₂ =
    ap (λ o. option_map_or (line_after 1) o []) p₁.1 ∙ ap (λ o. option_map_or (line_after 0) o []) p₂.1 in
    ap (λ l. count_or_none (valued (natural_of 0 64) (keyed (codes "lines") l))) at ∙ ap count_or_none p₃.0

due_amount : (k m : ℕ) → m < k → codes "amount" ≡ due_key k (suc (suc (suc m)))
due_amount k m lt = let t : ltb m k ≡ true = grind (arith, nat_tests) in sym (cond-true (ltb m k) (codes "amount") (codes "balance") t)

due_balance : (k : ℕ) → codes "balance" ≡ due_key k (suc (suc (suc k)))
due_balance k = let t : ltb k k ≡ false = grind (arith, nat_tests) in sym (cond-false (ltb k k) (codes "amount") (codes "balance") t)

page_due : (s : List ℕ) → Due page_plan (due_key (count_told s)) s
page_due s = (
  refl,
  λ a s₁ e₁. (
    refl,
    λ n s₂ e₂. (
      refl,
      λ k s₃ e₃.
          let same = third_line s s₁ s₂ s₃ a n k e₁ e₂ e₃ in
          amounts_due a n k [] (λ m. due_key (count_told s) (suc (suc (suc m)))) s₃
          (λ m lt. due_amount k m lt ∙ ap (λ j. due_key j (suc (suc (suc m)))) (sym same))
          (due_balance k ∙ ap (λ j. due_key j (suc (suc (suc k)))) (sym same)),
    ),
  ),
)

-- ---- the claims
pub tells_first : TellsFirst
tells_first s r e = first_fault_of page_plan IsPage (due_key (count_told s)) page_good read s (page_due s) r (sym (page_run s) ∙ e)
  where
    read : (t : List ℕ) → Runs page_plan 1 t ↔ IsPage t
    read t = (
      (λ z. let h = (reads_pages t z.0).0 (page_run t ∙ z.1) in (z.0, h.0, h.1)),
      (λ z. (z.0, sym (page_run t) ∙ (reads_pages t z.0).1 z.1 z.2)),
    )

pub one_fault : OneFault
one_fault s q r g h = one_fault_of IsPage (due_key (count_told s)) s q r g h
