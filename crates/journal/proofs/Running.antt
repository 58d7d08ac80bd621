-- The running balances beside the lines: none yet, and one line more.
use Rattle.std.proofs.Common.{◌≡◌, ℕ, suc, ◌+◌, ◌-◌, ◌<◌, ◌≤◌, false, eqb, ◌≢◌, List, [], ◌∷◌, ◌++◌, length, get_or, take, drop, set, replicate, ℤ, pos, ◌+ℤ◌, None, sym, refl, ap, ◌∙◌, subst, inr, ⊎_elim, add-one, arith, get_or-set_other, get_or-set_same, w64, SFits}
use lib.Seq.{set_split}
use Rattle.std.proofs.lemmas.Int.{ints}
use Rattle.std.proofs.lemmas.List.{get_or-replicate, take_more_set, append_assoc, length-set, length-take-le}
use Rattle.std.proofs.lemmas.List.Elements.{All-push}
use Rattle.std.proofs.lemmas.List.Sums.{fold_push}
use Rattle.std.proofs.lemmas.Bool.{eq-eqb, ne_eqb, cond-true, cond-false, cases_eq, eqb-false, ltb-true}
use Rattle.ledger.specs.View.{InSpan}
use Rattle.ledger.specs.Posting.{refusal, Posted}
use Rattle.ledger.proofs.Tested.{taken_because, taken_in_span, span_fits}
use Rattle.journal.specs.declared.line.Line.{Line}
use Rattle.journal.specs.Extending.{Extended}
use Rattle.journal.specs.Lines.{add_line, line_sum, room, journal_view, journal_sound, InMove, MovesFit, Running, Spans}

pub running_none : Running (replicate 12 (pos 0)) []
running_none a l = get_or-replicate 12 a (pos 0) (pos 0) l

abbrev pub one_line : ℕ → ℤ → Line
one_line a x = record { account = a; cents = x }

-- ---- a line behind the last
module _ (ls : List Line) (a : ℕ) (x : ℤ) where
  sum_here : line_sum a (ls ++ (one_line a x ∷ [])) ≡ line_sum a ls +ℤ x
  sum_here = fold_push (add_line a) (pos 0) ls (one_line a x) ∙ cond-true (eqb a a) _ _ (eq-eqb a a refl)

  sum_there : (k : ℕ) → k ≢ a → line_sum k (ls ++ (one_line a x ∷ [])) ≡ line_sum k ls
  sum_there k ne = fold_push (add_line k) (pos 0) ls (one_line a x) ∙ cond-false (eqb a k) _ _ (ne_eqb a k (λ e. ne (sym e)))

  pub running_push : (zs : List ℤ) → length zs ≡ 12 → a < 12 → Running zs ls → Running (set zs a (get_or zs a (pos 0) +ℤ x)) (ls ++ (one_line a x ∷ []))
  running_push zs twelve here run k l =
      ⊎_elim
      (λ (e : k ≡ a). subst (λ j. get_or (set zs a (get_or zs a (pos 0) +ℤ x)) j (pos 0) ≡ line_sum j (ls ++ (one_line a x ∷ []))) (sym e) (get_or-set_same zs a (get_or zs a (pos 0) +ℤ x) (pos 0) (rw twelve here) ∙ ap (λ z. z +ℤ x) (run a here) ∙ sym sum_here))
      (λ (ne : k ≢ a). get_or-set_other zs a k (get_or zs a (pos 0) +ℤ x) (pos 0) ne ∙ run k l ∙ sym (sum_there k ne))
      (cases_eq k a)

  pub spans_push : InSpan (line_sum a ls +ℤ x) → Spans ls → Spans (ls ++ (one_line a x ∷ []))
  spans_push sum spans k l =
      ⊎_elim
      (λ (e : k ≡ a). subst (λ j. InSpan (line_sum j (ls ++ (one_line a x ∷ [])))) (sym e) (subst InSpan (sym sum_here) sum))
      (λ (ne : k ≢ a). subst InSpan (sym (sum_there k ne)) (spans k l))
      (cases_eq k a)

-- from one figure in the span of money to another it is no further than from end to end
moved_at_most : (b x : ℤ) → InSpan b → InSpan (b +ℤ x) → InMove x
moved_at_most b x h k = (omega (arith, ints, h.0, h.1, k.0, k.1), omega (arith, ints, h.0, h.1, k.0, k.1))

module _ (ls : List Line) (u a : ℕ) (x : ℤ) (free : u < room ls) where
  -- the lines in use after a post
  pub posted_more : take (u + 1) (set ls u (one_line a x)) ≡ take u ls ++ (one_line a x ∷ [])
  posted_more = take_more_set ls u (one_line a x) (omega arith)

  fewer : room (set ls u (one_line a x)) - length (take (u + 1) (set ls u (one_line a x))) + 1 ≡ room ls - length (take u ls)
  fewer =
      let before = length-take-le u ls (omega arith) in
      let same = length-set ls u (one_line a x) in
      let after = length-take-le (u + 1) (set ls u (one_line a x)) (omega arith) in
      omega arith

  pub journal_posted : Posted (journal_view ls u) a x (journal_view (set ls u (one_line a x)) (u + 1))
  journal_posted = record {
    count = refl;
    places = inr fewer;
    balance = ap (line_sum a) posted_more ∙ sum_here (take u ls) a x;
    balances = λ k _ ne. ap (line_sum k) posted_more ∙ sum_there (take u ls) a x k ne;
    lows = λ _ _ _. refl;
    highs = λ _ _ _. refl;
  }

-- a place left is a line unused
pub line_free : (ls : List Line) (u : ℕ) → u ≤ room ls → eqb (room ls - length (take u ls)) 0 ≡ false → u < room ls
line_free ls u within some =
    let before = length-take-le u ls (omega arith) in
    let left : room ls - length (take u ls) ≢ 0 = eqb-false _ 0 some in
    omega arith

line_written : (ls : List Line) (u a : ℕ) (x : ℤ) → u < length ls → set ls u (one_line a x) ≡ (take u ls ++ (one_line a x ∷ [])) ++ drop (u + 1) ls
line_written ls u a x inside = rw add-one (set_split ls u (one_line a x) inside ∙ sym (append_assoc (take u ls) (one_line a x ∷ []) (drop (suc u) ls)))

-- a taken post keeps what a journal keeps
pub record OneMore (ls : List Line) (u : ℕ) (zs : List ℤ) (a : ℕ) (x : ℤ) : Type 0 where
  pub fits : SFits w64 (get_or zs a (pos 0) +ℤ x)
  pub within : u + 1 ≤ room (set ls u (one_line a x))
  pub slots : length (set zs a (get_or zs a (pos 0) +ℤ x)) ≡ 12
  pub running : Running (set zs a (get_or zs a (pos 0) +ℤ x)) (take (u + 1) (set ls u (one_line a x)))
  pub spans : Spans (take (u + 1) (set ls u (one_line a x)))
  pub moves : MovesFit (take (u + 1) (set ls u (one_line a x)))
  pub extended : Extended ls u (record { account = a; cents = x } ∷ []) (set ls u (one_line a x)) (u + 1)
  pub posted : Posted (journal_view ls u) a x (journal_view (set ls u (one_line a x)) (u + 1))

pub one_more : (ls : List Line) (u : ℕ) (zs : List ℤ) (a : ℕ) (x : ℤ) → u ≤ room ls → length zs ≡ 12 → Running zs (take u ls) → Spans (take u ls) → MovesFit (take u ls) → refusal (journal_view ls u) a x ≡ None → OneMore ls u zs a x
one_more ls u zs a x within twelve run spans moves ok =
    let v = journal_view ls u in
    let why = taken_because v a x ok in
    let here : a < 12 = ltb-true a 12 why.0 in
    let free = line_free ls u within why.1 in
    let sum : InSpan (line_sum a (take u ls) +ℤ x) = taken_in_span v a x (journal_sound ls u spans) ok in
    let more = posted_more ls u a x free in
    record {
      fits = span_fits _ (subst (λ z. InSpan (z +ℤ x)) (sym (run a here)) sum);
      within = simp length-set (omega arith);
      slots = simp length-set twelve;
      running = subst (Running (set zs a (get_or zs a (pos 0) +ℤ x))) (sym more) (running_push (take u ls) a x zs twelve here run);
      spans = subst Spans (sym more) (spans_push (take u ls) a x sum spans);
      moves = subst MovesFit (sym more) (All-push (λ l. InMove l.cents) (take u ls) (one_line a x) moves (moved_at_most (line_sum a (take u ls)) x (spans a here) sum));
      extended = record { used = omega arith; lines = line_written ls u a x (omega arith); size = length-set ls u (one_line a x) };
      posted = journal_posted ls u a x free;
    }
