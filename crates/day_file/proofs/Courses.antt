-- What lines do to a day under way, one after another.
use Rattle.std.proofs.Common.{◌≡◌, ℕ, ◌+◌, ◌^◌, ◌<◌, ◌≤◌, List, [], ◌∷◌, ◌++◌, length, map, take, get_or, unwrap_or, Some, None, Ok, Err, Option, Result, refl, sym, ap, ◌∙◌, subst, append_assoc, append-nil, length-append, arith}
use Rattle.std.proofs.lemmas.List.{map-append, length-map}
use Rattle.offers.specs.declared.pair.Pair.{Pair}
use Rattle.day_text.specs.declared.fault.Fault.{Fault}
use Rattle.day_text.specs.declared.line.DayLine.{DayLine}
use Rattle.day_text.specs.Lines.{line_of, pairs_of}
use Rattle.pool.specs.declared.call.Call.{Call}
use Rattle.pool.specs.Day.{Day}
use Rattle.day.specs.Book.{Answered}
use Rattle.day.specs.Law.{Seen, Took, Goes}
use Rattle.day.specs.Claims.{ListsGoOn}
use Rattle.answer_text.specs.Answers.{answered}
use Rattle.day_file.specs.declared.course.Course.{Course}
use Rattle.day_file.specs.Lines.{Numbered, lines, next_of, next_line}
use Rattle.day_file.specs.Calls.{said, calling, listed, brought, call_on, calls_on, numbers_on}
use Rattle.day_file.specs.Reports.{answers_text, taken_in, refused_in}
use Rattle.day_file.specs.Courses.{day_of, Printed, Makes, MakesOne}

taken_in-append : (rs qs : List Answered) → taken_in (rs ++ qs) ≡ taken_in rs + taken_in qs
taken_in-append [] qs = omega arith
taken_in-append (Ok a ∷ rs) qs = let h = taken_in-append rs qs in omega arith
taken_in-append (Err f ∷ rs) qs = taken_in-append rs qs

refused_in-append : (rs qs : List Answered) → refused_in (rs ++ qs) ≡ refused_in rs + refused_in qs
refused_in-append [] qs = omega arith
refused_in-append (Ok a ∷ rs) qs = refused_in-append rs qs
refused_in-append (Err f ∷ rs) qs = let h = refused_in-append rs qs in omega arith

answers_text-append : (ns ms : List ℕ) (rs qs : List Answered) → length ns ≡ length rs →
    answers_text (ns ++ ms) (rs ++ qs) ≡ answers_text ns rs ++ answers_text ms qs
answers_text-append [] ms [] qs e = refl
answers_text-append [] ms (r ∷ rs) qs e = absurd (omega arith)
answers_text-append (n ∷ ns) ms [] qs e = absurd (omega arith)
answers_text-append (n ∷ ns) ms (r ∷ rs) qs e =
    ap (λ l. answered n r ++ l) (answers_text-append ns ms rs qs (omega arith))
    ∙ sym (append_assoc (answered n r) (answers_text ns rs) (answers_text ms qs))

calls_on-append : (ss ts : List (List ℕ)) → calls_on (ss ++ ts) ≡ calls_on ss ++ calls_on ts
calls_on-append [] ts = refl
calls_on-append (s ∷ ss) ts =
    ap (λ l. call_on s ++ l) (calls_on-append ss ts) ∙ sym (append_assoc (call_on s) (calls_on ss) (calls_on ts))

numbers_on-append : (n : ℕ) (ss ts : List (List ℕ)) → numbers_on n (ss ++ ts) ≡ numbers_on n ss ++ numbers_on (n + length ss) ts
numbers_on-append n [] ts = let same : n ≡ n + 0 = omega arith in ap (λ k. numbers_on k ts) same
numbers_on-append n (s ∷ ss) ts =
    let here = map (λ _. n) (call_on s) in
    let same : n + 1 + length ss ≡ n + length (s ∷ ss) = omega arith in
    ap (λ l. here ++ l) (numbers_on-append (n + 1) ss ts)
    ∙ sym (append_assoc here (numbers_on (n + 1) ss) (numbers_on (n + 1 + length ss) ts))
    ∙ ap (λ k. (here ++ numbers_on (n + 1) ss) ++ numbers_on k ts) same

printed_more : (ns ms : List ℕ) (rs qs : List Answered) (c d e : Course) → Printed ns rs c d → Printed ms qs d e → Printed (ns ++ ms) (rs ++ qs) c e
printed_more ns ms rs qs c d e p q = record {
  each = omega (arith, p.each, q.each, length-append ns ms, length-append rs qs);
  text = q.text ∙ ap (λ l. l ++ answers_text ms qs) p.text ∙ append_assoc c.text.items (answers_text ns rs) (answers_text ms qs)
      ∙ ap (λ l. c.text.items ++ l) (sym (answers_text-append ns ms rs qs p.each));
  calls = omega (arith, p.calls, q.calls, length-append rs qs);
  taken = omega (arith, p.taken, q.taken, taken_in-append rs qs);
  refused = omega (arith, p.refused, q.refused, refused_in-append rs qs);
}

printed_none : (c : Course) → Printed [] [] c c
printed_none c = record { each = refl; text = sym (append-nil c.text.items); calls = omega arith; taken = omega arith; refused = omega arith }

-- at most one call stands on a line
one_at_most : (r : Result DayLine Fault) (ps : List Pair) → length (brought r ps) ≤ 1
one_at_most (Err f) ps = omega arith
one_at_most (Ok l) ps = go (calling l ps)
  where
    go : (o : Option (DayLine × List Pair)) → length (listed o) ≤ 1
    go None = omega arith
    go (Some x) = omega arith

module _ {L : Type 0} (view : Seen L) (took : Took L) where
  -- the answer of one call, at the front of a list
  pub made_one : (d e : Day) (x z : L) (call : Call) (rs : List Answered) (r : Answered) → Goes view took d x (call ∷ []) (take 1 rs) e z → Goes view took d x (call ∷ []) (get_or rs 0 r ∷ []) e z
  made_one d e x z call [] r g = absurd g
  made_one d e x z call (q ∷ qs) r g = g

  pub makes_none : (n : ℕ) (c : Course) (x : L) → Makes view took n [] c x c x
  makes_none n c x = record { calls = []; said = refl; answers = []; goes = (refl, refl); printed = printed_none c }

  -- a line without a call
  pub makes_no_call : (n : ℕ) (s : List ℕ) (c : Course) (x : L) → call_on s ≡ [] → Makes view took n (s ∷ []) c x c x
  makes_no_call n s c x e = record {
    calls = [];
    said = sym (ap (λ l. l ++ []) e);
    answers = [];
    goes = (refl, refl);
    printed = subst (λ (ns : List ℕ). Printed ns [] c c) (sym (ap (λ l. map (λ _. n) l ++ []) e)) (printed_none c);
  }

  -- a line with one
  pub makes_call : (n : ℕ) (s : List ℕ) (call : Call) (c e : Course) (x z : L) → call_on s ≡ said call ∷ [] → MakesOne view took n call c x e z
      → Makes view took n (s ∷ []) c x e z
  makes_call n s call c e x z h m = record {
    calls = call ∷ [];
    said = sym (ap (λ l. l ++ []) h);
    answers = m.answer ∷ [];
    goes = m.goes;
    printed = subst (λ (ns : List ℕ). Printed ns (m.answer ∷ []) c e) (sym (ap (λ l. map (λ _. n) l ++ []) h)) m.printed;
  }

  makes_more : ListsGoOn view took → (n : ℕ) (ss ts : List (List ℕ)) (c d e : Course) (x y z : L)
      → Makes view took n ss c x d y → Makes view took (n + length ss) ts d y e z → Makes view took n (ss ++ ts) c x e z
  makes_more on n ss ts c d e x y z a b = record {
    calls = a.calls ++ b.calls;
    said = map-append said a.calls b.calls ∙ ap (λ l. l ++ map said b.calls) a.said ∙ ap (λ l. calls_on ss ++ l) b.said ∙ sym (calls_on-append ss ts);
    answers = a.answers ++ b.answers;
    goes = on (day_of c) (day_of d) (day_of e) x y z a.calls b.calls a.answers b.answers a.goes b.goes;
    printed = subst (λ (ns : List ℕ). Printed ns (a.answers ++ b.answers) c e) (sym (numbers_on-append n ss ts))
        (printed_more (numbers_on n ss) (numbers_on (n + length ss) ts) a.answers b.answers c d e a.printed b.printed);
  }

  -- the lines so far are made, and the others are left
  pub record Going (file : List ℕ) (c : Course) (x : L) (ls : Numbered) (e : Course) (z : L) : Type 0 where
    pub done : List (List ℕ)
    pub split : done ++ ls.left ≡ lines file
    pub passed : ls.passed ≡ length done
    pub room : ls.passed + length ls.left ≤ 2 ^ 63
    pub few : e.tally.calls ≤ ls.passed
    pub makes : Makes view took 1 done c x e z

  pub begun : (file : List ℕ) (c : Course) (x : L) → c.tally.calls ≡ 0 → length (lines file) ≤ 2 ^ 63 → Going file c x (record { passed = 0; left = lines file }) c x
  begun file c x e h = record { done = []; split = refl; passed = refl; room = omega arith; few = omega arith; makes = makes_none 1 c x }

  pub goes_on : ListsGoOn view took → (file : List ℕ) (c : Course) (x : L) (p : ℕ) (s : List ℕ) (ss : List (List ℕ)) (d e : Course) (y z : L)
      → Going file c x (record { passed = p; left = s ∷ ss }) d y → Makes view took (p + 1) (s ∷ []) d y e z → Going file c x (record { passed = p + 1; left = ss }) e z
  goes_on on file c x p s ss d e y z g m =
      let at : 1 + length g.done ≡ p + 1 = omega (arith, g.passed) in
      let one = one_at_most (line_of s) (pairs_of s) in
      let count : length (numbers_on (p + 1) (s ∷ [])) ≡ length (call_on s) = ap length (append-nil (map (λ _. p + 1) (call_on s))) ∙ length-map (call_on s) (λ _. p + 1) in
      let here = subst (λ k. Makes view took k (s ∷ []) d y e z) (sym at) m in
      record {
        done = g.done ++ (s ∷ []);
        split = append_assoc g.done (s ∷ []) ss ∙ g.split;
        passed = omega (arith, g.passed, length-append g.done (s ∷ []));
        room = omega (arith, g.room);
        few = omega (arith, g.few, m.printed.calls, m.printed.each, one, count);
        makes = makes_more on 1 g.done (s ∷ []) c d e x y z g.makes here;
      }

  all_made : (file : List ℕ) (c : Course) (x : L) (p : ℕ) (e : Course) (z : L) → Going file c x (record { passed = p; left = [] }) e z → Makes view took 1 (lines file) c x e z
  all_made file c x p e z g = subst (λ (ss : List (List ℕ)). Makes view took 1 ss c x e z) (sym (append-nil g.done) ∙ g.split) g.makes

  -- the next line is there
  pub goes_next : ListsGoOn view took → (file : List ℕ) (c : Course) (x : L) (ls new : Numbered) (n : ℕ) (s : List ℕ) (d e : Course) (y z : L)
      → Some ((n, s), new) ≡ next_line ls → Going file c x ls d y → Makes view took n (s ∷ []) d y e z → Going file c x new e z
  goes_next on file c x ls new n s d e y z step g m = go ls.passed ls.left step g
    where
      go : (p : ℕ) (left : List (List ℕ)) → Some ((n, s), new) ≡ next_of p left → Going file c x (record { passed = p; left = left }) d y → Going file c x new e z
      go p [] h g = let z : ◌≡◌ {A = ℕ} 0 1 = cc in absurd (omega arith)
      go p (l ∷ rest) h g =
          let same = ap (λ o. unwrap_or o ((n, s), new)) h in
          let here = subst (λ (t : (ℕ × List ℕ) × Numbered). Makes view took t.0.0 (t.0.1 ∷ []) d y e z) same m in
          subst (λ (t : (ℕ × List ℕ) × Numbered). Going file c x t.1 e z) (sym same) (goes_on on file c x p l rest d e y z g here)

  -- where a line is there, few calls were made
  pub few_before : (file : List ℕ) (c : Course) (x : L) (ls new : Numbered) (n : ℕ) (s : List ℕ) (d : Course) (y : L)
      → Some ((n, s), new) ≡ next_line ls → Going file c x ls d y → d.tally.calls < 2 ^ 63
  few_before file c x ls new n s d y step g = go ls.passed ls.left step g
    where
      go : (p : ℕ) (left : List (List ℕ)) → Some ((n, s), new) ≡ next_of p left → Going file c x (record { passed = p; left = left }) d y → d.tally.calls < 2 ^ 63
      go p [] h g = let z : ◌≡◌ {A = ℕ} 0 1 = cc in absurd (omega arith)
      go p (l ∷ rest) h g = omega (arith, g.few, g.room)

  -- no line is left
  pub goes_whole : (file : List ℕ) (c : Course) (x : L) (ls : Numbered) (e : Course) (z : L) → None ≡ next_line ls → Going file c x ls e z → Makes view took 1 (lines file) c x e z
  goes_whole file c x ls e z step g = go ls.passed ls.left step g
    where
      go : (p : ℕ) (left : List (List ℕ)) → None ≡ next_of p left → Going file c x (record { passed = p; left = left }) e z → Makes view took 1 (lines file) c x e z
      go p [] h g = all_made file c x p e z g
      go p (l ∷ rest) h g = let z : ◌≡◌ {A = ℕ} 0 1 = cc in absurd (omega arith)

-- ---- the call on a line, as it was read
pub on_no_line : (s : List ℕ) (f : Fault) → Err f ≡ line_of s → call_on s ≡ []
on_no_line s f p = ap (λ x. brought x (pairs_of s)) (sym p)

pub on_line : (s : List ℕ) (l : DayLine) (ps : List Pair) (o : Option (DayLine × List Pair)) → Ok l ≡ line_of s → ps ≡ pairs_of s → o ≡ calling l ps → call_on s ≡ listed o
on_line s l ps o p e k = ap (λ x. brought x (pairs_of s)) (sym p) ∙ ap (λ x. listed (calling l x)) (sym e) ∙ ap listed (sym k)
