-- What is read line by line, each line as those before it ask: the first faulty line is told.
use Rattle.std.proofs.Common.{◌≡◌, ℕ, suc, ◌+◌, ◌↔◌, List, [], ◌∷◌, ◌++◌, Some, None, Ok, Err, codes, Option, Result, sym, refl, ap, ◌∙◌, subst, inl, inr, ⊎_elim, arith, zero, ◌-◌, ◌<◌}
use Rattle.std.proofs.lemmas.Bool.{cond-true, cond-false, cases_Bool, cases_lt}
use Rattle.std.specs.Option.{option_map, option_map_or}
use Rattle.std.specs.Str.{bytes_eq}
use Rattle.text.specs.declared.number.NumberFault.{NumberFault}
use Rattle.text.specs.declared.line.LineFault.{LineFault}
use Rattle.text.specs.declared.line.LineFault.TheVariants.{Key, Number, Feed, Extra}
use Rattle.text.specs.declared.refusal.Refusal.{Refusal}
use Rattle.text.specs.Lines.{before, after, keyed, of_number, valued, ended, line_of, placed, and_then, closed}
use Rattle.text.specs.Refusals.{refusal_number, cause}
use Rattle.text.proofs.Lined.{Free, Plain, apart_ok, joined_key, line_back, apart_some}
use Rattle.text.specs.Faults.{first_lines, line_after, HasKey, CanGoOn, IsWhole, FeedMends, FaultAfter, FirstFaultOf, SameFault}
use Rattle.text.proofs.FirstLines as texts

-- ---- one step after another
pub then_same : {X Y E : Type 0} (r : Result X E) (f g : X → Result Y E)
    → ((x : X) → f x ≡ g x) → and_then r f ≡ and_then r g
then_same (Ok x) f g h = h x
then_same (Err e) f g h = refl

pub then_joined : {X Y Z E : Type 0} (r : Result X E) (f : X → Result Y E) (g : Y → Result Z E)
    (h : X → Result Z E) → ((x : X) → and_then (f x) g ≡ h x) → and_then (and_then r f) g ≡ and_then r h
then_joined (Ok x) f g h k = k x
then_joined (Err e) f g h k = refl

-- what is still to be read: nothing, or a line with a key and a reader of its value,
-- and then as the value says
pub data Plan (A : Type 0) : Type 1 where
  done : A → Plan A
  line : {X : Type 0} → (key : List ℕ) → (List ℕ → Result X NumberFault) → (X → Plan A) → Plan A

-- a text read by a plan, from the given line number
abbrev pub run : {A : Type 0} → Plan A → ℕ → List ℕ → Result A Refusal
run (done a) n s = closed n s a
run (line key f next) n s = and_then (placed n (line_of f key s)) (λ x. run (next x.0) (suc n) x.1)

-- the plan reads the text to its end
abbrev pub Runs : {A : Type 0} → Plan A → ℕ → List ℕ → Type 0
Runs {A = A} p n s = (a : A) × (run p n s ≡ Ok a)

-- some value is read after the key
pub record Sound {X : Type 0} (key : List ℕ) (f : List ℕ → Result X NumberFault) : Type 0 where
  pub plain : Plain key
  pub sample : List ℕ
  pub value : X
  pub read : f sample ≡ Ok value
  pub free : Free 10 sample

-- each line of the plan is sound
abbrev pub Good : {A : Type 0} → Plan A → Type 0
Good (done a) = Unit {0}
Good (line {X = X} key f next) = Sound key f × ((x : X) → Good (next x))

-- the keys that the plan reads from this text are those that are due
abbrev pub Due : {A : Type 0} → Plan A → (ℕ → List ℕ) → List ℕ → Type 0
Due (done a) due s = Unit {0}
Due (line {X = X} key f next) due s =
    (key ≡ due 0) × ((x : X) (rest : List ℕ) → line_of f key s ≡ Ok (x, rest) → Due (next x) (λ k. due (suc k)) rest)

-- ---- the law, from one kind of texts to another
record Carries (P Q : List ℕ → Type 0) (due need : ℕ → List ℕ) (s t : List ℕ) (k m : ℕ) : Type 0 where
  begun : CanGoOn P k s → CanGoOn Q m t
  faulty : CanGoOn Q (suc m) t → CanGoOn P (suc k) s
  whole : IsWhole P k s ↔ IsWhole Q m t
  key : HasKey (due k) (line_after k s) ↔ HasKey (need m) (line_after m t)
  fed : FeedMends P (suc k) s ↔ FeedMends Q (suc m) t

carried : (P Q : List ℕ → Type 0) (due need : ℕ → List ℕ) (s t : List ℕ) (k m number : ℕ)
    → Carries P Q due need s t k m → FaultAfter P due s k number → FaultAfter Q need t m number
carried P Q due need s t k m number c h =
    record {
      begun = c.begun h.begun;
      faulty = λ z. h.faulty (c.faulty z);
      wrong_key = (
        (λ e. let y = h.wrong_key.0 e in ((λ a. y.0 (c.whole.1 a)), (λ a. y.1 (c.key.1 a)))),
        (λ y. h.wrong_key.1 ((λ a. y.0 (c.whole.0 a)), (λ a. y.1 (c.key.0 a)))),
      );
      bad_number = (
        (λ e. let y = h.bad_number.0 e in ((λ a. y.0 (c.whole.1 a)), c.key.0 y.1, (λ a. y.2 (c.fed.1 a)))),
        (λ y. h.bad_number.1 ((λ a. y.0 (c.whole.0 a)), c.key.1 y.1, (λ a. y.2 (c.fed.0 a)))),
      );
      bad_end = (
        (λ e. ⊎_elim (λ a. inl (c.whole.0 a)) (λ a. inr (c.fed.0 a)) (h.bad_end.0 e)),
        (λ y. h.bad_end.1 (⊎_elim (λ a. inl (c.whole.1 a)) (λ a. inr (c.fed.1 a)) y)),
      );
    }

goes_too : (P Q : List ℕ → Type 0) → ((t : List ℕ) → P t → Q t)
    → (n : ℕ) (s : List ℕ) → CanGoOn P n s → CanGoOn Q n s
goes_too P Q f n s z = (z.0, f z.0 z.1, z.2)

-- the same texts in other words
retold : (P Q : List ℕ → Type 0) (due : ℕ → List ℕ) (s : List ℕ) (k number : ℕ)
    → ((t : List ℕ) → P t ↔ Q t) → FaultAfter P due s k number → FaultAfter Q due s k number
retold P Q due s k number f h =
    let on = goes_too P Q (λ t. (f t).0) in
    let off = goes_too Q P (λ t. (f t).1) in
    let fed = s ++ codes "\n" in
    carried P Q due due s s k k number
    (record {
      begun = on k s;
      faulty = off (suc k) s;
      whole = f (first_lines k s);
      key = ((λ a. a), (λ a. a));
      fed = (on (suc k) fed, off (suc k) fed);
    }) h

-- ---- a plan that is done
done_runs : {A : Type 0} (a : A) (n : ℕ) (t : List ℕ) → Runs (done a) n t → t ≡ []
done_runs a n [] z = refl
done_runs a n (c ∷ cs) z = absurd (apart_ok _ z.0 z.1)

extra : {A : Type 0} (a : A) (due : ℕ → List ℕ) (n c : ℕ) (cs : List ℕ)
    → FaultAfter (Runs (done a) n) due (c ∷ cs) 0 22
extra a due n c cs =
    record {
      begun = ([], (a, refl), refl);
      faulty = λ z. texts.first_bytes c cs (sym (ap (first_lines 1) (done_runs a n z.0 z.1)) ∙ z.2);
      wrong_key = ((λ e. absurd (omega arith)), (λ y. absurd (y.0 (a, refl))));
      bad_number = ((λ e. absurd (omega arith)), (λ y. absurd (y.0 (a, refl))));
      bad_end = ((λ e. inl (a, refl)), (λ y. refl));
    }

-- ---- what is told of a plan
-- a plan of sound lines reads some text
abbrev Sample : {A : Type 0} → Plan A → ℕ → Type 0
Sample p n = (t : List ℕ) × Runs p n t

sample_of : {A : Type 0} (p : Plan A) → Good p → (n : ℕ) → Sample p n
sample_of (done a) g n = ([], (a, refl))
sample_of (line key f next) g n =
    let l = g.0 in
    let more = sample_of (next l.value) (g.1 l.value) (suc n) in
    let read = line_back f key l.plain l.sample l.value more.0 l.free l.read in (
      key ++ 61 ∷ (l.sample ++ 10 ∷ more.0),
      (more.1.0, ap (λ y. and_then (placed n y) (λ x. run (next x.0) (suc n) x.1)) read ∙ more.1.1),
    )

-- the refusal is for the first faulty line, counted from line n
abbrev Faulty : {A : Type 0} → Plan A → (ℕ → List ℕ) → ℕ → List ℕ → Refusal → Type 0
Faulty p due n s r = (k : ℕ) × (r.line ≡ n + k) × FaultAfter (Runs p n) due s k (refusal_number (cause r.fault))

same_err : {X E : Type 0} (d e : E) → ◌≡◌ {A = Result X E} (Err d) (Err e) → d ≡ e
same_err d e q = cc

-- a fault of the first line, or of bytes past the last
at_once : {A : Type 0} (p : Plan A) (due : ℕ → List ℕ) (n : ℕ) (s : List ℕ) (e : LineFault) (r : Refusal)
    → run p n s ≡ Err record { line = n; fault = e } → run p n s ≡ Err r
    → FaultAfter (Runs p n) due s 0 (refusal_number (cause e)) → Faulty p due n s r
at_once {A = A} p due n s e r a b h =
    let q : Refusal = record { line = n; fault = e } in
    let start : q.line ≡ n + 0 = omega arith in
    subst (Faulty p due n s) (same_err {X = A} q r (sym a ∙ b)) (0, start, h)

-- ---- a plan that begins with a line
keyed_none : (key : List ℕ) → keyed key [] ≡ None
keyed_none key =
    ⊎_elim
    (λ t. cond-true (bytes_eq [] key) None None t)
    (λ f. cond-false (bytes_eq [] key) None None f)
    (cases_Bool (bytes_eq [] key))

module _ {A X : Type 0} (key : List ℕ) (f : List ℕ → Result X NumberFault) (next : X → Plan A) (n : ℕ) where
  abbrev plan : Plan A
  plan = line key f next

  -- what is made of the value of the first line
  abbrev first : List ℕ → Result X LineFault
  first s = valued f (keyed key (before 10 s))

  -- and of the whole text, once the first line gave this
  abbrev onto : Result (X × List ℕ) LineFault → Result A Refusal
  onto r = and_then (placed n r) (λ x. run (next x.0) (suc n) x.1)

  alike : (s t : List ℕ) → before 10 t ≡ before 10 s → first t ≡ first s
  alike s t q = ap (λ l. valued f (keyed key l)) q

  goes_on : (s rest : List ℕ) (x : X) → first s ≡ Ok x → after 10 s ≡ Some rest
      → run plan n s ≡ run (next x) (suc n) rest
  goes_on s rest x a b = ap (λ r. onto (ended r (after 10 s))) a ∙ ap (λ o. onto (ended (Ok x) o)) b

  stops : (s : List ℕ) (e : LineFault) → first s ≡ Err e → run plan n s ≡ Err record { line = n; fault = e }
  stops s e a = ap (λ r. onto (ended r (after 10 s))) a

  unfed : (s : List ℕ) (x : X) → first s ≡ Ok x → after 10 s ≡ None
      → run plan n s ≡ Err record { line = n; fault = Feed }
  unfed s x a b = ap (λ r. onto (ended r (after 10 s))) a ∙ ap (λ o. onto (ended (Ok x) o)) b

  refuted : (s : List ℕ) (r : Refusal) → run plan n s ≡ Err r → Runs plan n s → ⊥
  refuted s r e z = apart_ok r z.0 (sym e ∙ z.1)

  no_bytes : Runs plan n [] → ⊥
  no_bytes z = refuted [] _ (stops [] Key (ap (valued f) (keyed_none key))) z

  -- ---- the first line is read
  module _ (x : X) where
    module _ (s rest : List ℕ) (read : first s ≡ Ok x) (fed : after 10 s ≡ Some rest) where
      out : (m : ℕ) → CanGoOn (Runs plan n) (suc m) s → CanGoOn (Runs (next x) (suc n)) m rest
      out m z =
          let t = z.0 in
          let o = texts.same_rest m s t z.2 rest fed in
          let same = alike s t (texts.same_front m s t z.2) ∙ read in
          (o.0, (z.1.0, sym (goes_on t o.0 x same o.1) ∙ z.1.1), o.2)

      back : (m : ℕ) → CanGoOn (Runs (next x) (suc n)) m rest → CanGoOn (Runs plan n) (suc m) s
      back m z =
          let l = before 10 s in
          let t = l ++ 10 ∷ z.0 in
          let front = texts.joined_front s z.0 in
          let behind = texts.joined_back s z.0 in (
            t,
            (z.1.0, goes_on t z.0 x (alike s t front ∙ read) behind ∙ z.1.1),
            texts.first_of m t l (Some z.0) front behind ∙ ap (λ u. l ++ 10 ∷ u) z.2
                ∙ sym (texts.first_of m s l (Some rest) refl fed),
          )

      whole : (m : ℕ) → run plan n (first_lines (suc m) s) ≡ run (next x) (suc n) (first_lines m rest)
      whole m =
          goes_on (first_lines (suc m) s) (first_lines m rest) x
          (alike s (first_lines (suc m) s) (texts.first_front m s) ∙ read)
          (texts.first_back m s ∙ ap (option_map (first_lines m)) fed)

    onward : (due : ℕ → List ℕ) (s rest : List ℕ) (k number : ℕ) → first s ≡ Ok x → after 10 s ≡ Some rest
        → FaultAfter (Runs (next x) (suc n)) (λ k. due (suc k)) rest k number
        → FaultAfter (Runs plan n) due s (suc k) number
    onward due s rest k number read fed h =
        let feed = codes "\n" in
        let read' = alike s (s ++ feed) (texts.longer_front s rest feed fed) ∙ read in
        let fed' = texts.longer_back s rest feed fed in
        let same = whole s rest read fed k in
        let at : line_after (suc k) s ≡ line_after k rest = ap (λ o. option_map_or (line_after k) o []) fed in
        carried (Runs (next x) (suc n)) (Runs plan n) (λ k. due (suc k)) due rest s k (suc k) number
        (record {
          begun = back s rest read fed k;
          faulty = out s rest read fed (suc k);
          whole = ((λ a. (a.0, same ∙ a.1)), (λ a. (a.0, sym same ∙ a.1)));
          key = (subst (HasKey (due (suc k))) (sym at), subst (HasKey (due (suc k))) at);
          fed = (back (s ++ feed) (rest ++ feed) read' fed' (suc k), out (s ++ feed) (rest ++ feed) read' fed' (suc k));
        }) h

  -- ---- the first line is not read
  module _ (due : ℕ → List ℕ) (own : key ≡ due 0) (sound : Sound key f) (sample : Sample plan n) (s : List ℕ) where
    begun : CanGoOn (Runs plan n) 0 s
    begun = (sample.0, sample.1, refl)

    no_key : keyed key (before 10 s) ≡ None → HasKey (due 0) (line_after 0 s) → ⊥
    no_key e z =
        let v = z.0 in
        let named : before 10 s ≡ key ++ 61 ∷ v = z.1 ∙ ap (λ d. d ++ 61 ∷ v) (sym own) in
        apart_some v (sym e ∙ ap (keyed key) named ∙ sound.plain.name v)

    has_key : (v : List ℕ) → keyed key (before 10 s) ≡ Some v → HasKey (due 0) (line_after 0 s)
    has_key v e = (v, joined_key key (before 10 s) v e ∙ ap (λ d. d ++ 61 ∷ v) own)

    -- no text with this line is read, with its line feed or without
    module _ (e : LineFault) (a : first s ≡ Err e) where
      unread : (t : List ℕ) → before 10 t ≡ before 10 s → Runs plan n t → ⊥
      unread t q = refuted t _ (stops t e (alike s t q ∙ a))

      never : ¬ CanGoOn (Runs plan n) 1 s
      never z = unread z.0 (texts.same_front 0 s z.0 z.2) z.1

      never_fed : ¬ FeedMends (Runs plan n) 1 s
      never_fed z =
          unread z.0 (texts.same_front 0 (s ++ codes "\n") z.0 z.2 ∙ texts.closed_front s) z.1

    wrong_key : keyed key (before 10 s) ≡ None → FaultAfter (Runs plan n) due s 0 20
    wrong_key e =
        let a : first s ≡ Err Key = ap (valued f) e in
        record {
          begun = begun;
          faulty = never Key a;
          wrong_key = ((λ q. (no_bytes, no_key e)), (λ y. refl));
          bad_number = ((λ q. absurd (omega arith)), (λ y. absurd (no_key e y.1)));
          bad_end = ((λ q. absurd (omega arith)), (λ y. absurd (⊎_elim no_bytes (never_fed Key a) y)));
        }

    module _ (v : List ℕ) (e : keyed key (before 10 s) ≡ Some v) where
      valued_as : (r : Result X NumberFault) → f v ≡ r → first s ≡ of_number r
      valued_as r b = ap (valued f) e ∙ ap of_number b

      bad_number : (d : NumberFault) → f v ≡ Err d → FaultAfter (Runs plan n) due s 0 21
      bad_number d b =
          let a = valued_as (Err d) b in
          record {
            begun = begun;
            faulty = never (Number d) a;
            wrong_key = ((λ q. absurd (omega arith)), (λ y. absurd (y.1 (has_key v e))));
            bad_number = ((λ q. (no_bytes, has_key v e, never_fed (Number d) a)), (λ y. refl));
            bad_end = ((λ q. absurd (omega arith)), (λ y. absurd (⊎_elim no_bytes (never_fed (Number d) a) y)));
          }

      bad_end : (x : X) → f v ≡ Ok x → after 10 s ≡ None → Sample (next x) (suc n)
          → FaultAfter (Runs plan n) due s 0 22
      bad_end x b fed more =
          let a = valued_as (Ok x) b in
          let t = s ++ codes "\n" in
          let mended : CanGoOn (Runs plan n) 1 t =
          back x t [] (alike s t (texts.closed_front s) ∙ a) (texts.closed_back s fed) 0 (more.0, more.1, refl) in
          record {
            begun = begun;
            faulty = λ z.
                let u = z.0 in
                let read = alike s u (texts.same_front 0 s u z.2) ∙ a in
                refuted u _ (unfed u x read (texts.same_end 0 s u z.2 fed)) z.1;
            wrong_key = ((λ q. absurd (omega arith)), (λ y. absurd (y.1 (has_key v e))));
            bad_number = ((λ q. absurd (omega arith)), (λ y. absurd (y.2 mended)));
            bad_end = ((λ q. inr mended), (λ y. refl));
          }

  -- ---- by what the first line is, where the law holds of what follows it
  module _ (due : ℕ → List ℕ) (g : Good plan) (own : key ≡ due 0) (s : List ℕ) (r : Refusal)
      (later : (x : X) (rest : List ℕ) → line_of f key s ≡ Ok (x, rest) → run (next x) (suc n) rest ≡ Err r
      → Faulty (next x) (λ k. due (suc k)) (suc n) rest r)
      (e : run plan n s ≡ Err r) where
    sample : Sample plan n
    sample = sample_of plan g n

    module _ (v : List ℕ) (a : keyed key (before 10 s) ≡ Some v) where
      by_feed : (x : X) → f v ≡ Ok x → (o : Option (List ℕ)) → after 10 s ≡ o → Faulty plan due n s r
      by_feed x b None c =
          at_once plan due n s Feed r (unfed s x (valued_as due own g.0 sample s v a (Ok x) b) c) e
          (bad_end due own g.0 sample s v a x b c (sample_of (next x) (g.1 x) (suc n)))
      by_feed x b (Some rest) c =
          let read = valued_as due own g.0 sample s v a (Ok x) b in
          let first_read : line_of f key s ≡ Ok (x, rest) = ap (λ y. ended y (after 10 s)) read ∙ ap (ended (Ok x)) c in
          let h = later x rest first_read (sym (goes_on s rest x read c) ∙ e) in
          let at = h.1 in
          (suc h.0, omega arith, onward x due s rest h.0 (refusal_number (cause r.fault)) read c h.2)

      by_number : (y : Result X NumberFault) → f v ≡ y → Faulty plan due n s r
      by_number (Ok x) b = by_feed x b (after 10 s) refl
      by_number (Err d) b =
          at_once plan due n s (Number d) r (stops s (Number d) (valued_as due own g.0 sample s v a (Err d) b)) e
          (bad_number due own g.0 sample s v a d b)

    by_key : (o : Option (List ℕ)) → keyed key (before 10 s) ≡ o → Faulty plan due n s r
    by_key None a =
        at_once plan due n s Key r (stops s Key (ap (valued f) a)) e (wrong_key due own g.0 sample s a)
    by_key (Some v) a = by_number v a (f v) refl

-- ---- every plan of sound lines tells the first faulty one
first_faulty : {A : Type 0} (p : Plan A) (due : ℕ → List ℕ) → Good p
    → (n : ℕ) (s : List ℕ) → Due p due s → (r : Refusal) → run p n s ≡ Err r → Faulty p due n s r
first_faulty (done a) due g n [] d r e = absurd (apart_ok r a (sym e))
first_faulty (done a) due g n (c ∷ cs) d r e =
    at_once (done a) due n (c ∷ cs) Extra r refl e (extra a due n c cs)
first_faulty (line key f next) due g n s d r e =
    by_key key f next n due g d.0 s r
    (λ x rest read q. first_faulty (next x) (λ k. due (suc k)) (g.1 x) (suc n) rest (d.1 x rest read) r q)
    e (keyed key (before 10 s)) refl

-- what a plan refuses, where the texts that it reads are those that are accepted
pub first_fault_of : {A : Type 0} (p : Plan A) (Accepted : List ℕ → Type 0) (due : ℕ → List ℕ) → Good p
    → ((t : List ℕ) → Runs p 1 t ↔ Accepted t) → (s : List ℕ) → Due p due s → (r : Refusal) → run p 1 s ≡ Err r
    → FirstFaultOf Accepted due s r
first_fault_of p Accepted due g same s d r e =
    let h = first_faulty p due g 1 s d r e in
    let at = h.1 in
    record { good = h.0; place = omega arith; fault = retold (Runs p 1) Accepted due s h.0 _ same h.2 }

-- ---- one text, one fault
goes_less : (A : List ℕ → Type 0) (s : List ℕ) (k n m : ℕ) → m ≡ k + n → CanGoOn A m s → CanGoOn A n s
goes_less A s zero n m e z = let q : m ≡ n = omega arith in subst (λ x. CanGoOn A x s) q z
goes_less A s (suc k) n m e z =
    let q : m ≡ suc (k + n) = omega arith in
    let more : CanGoOn A (suc (k + n)) s = subst (λ x. CanGoOn A x s) q z in
    goes_less A s k n (k + n) refl (more.0, more.1, texts.same_fewer (k + n) s more.0 more.2)

module _ (A : List ℕ → Type 0) (due : ℕ → List ℕ) (s : List ℕ) where
  not_before : (m n a b : ℕ) → FaultAfter A due s m a → FaultAfter A due s n b → m < n → ⊥
  not_before m n a b g h lt =
      let e : n ≡ (n - suc m) + suc m = omega arith in g.faulty (goes_less A s (n - suc m) (suc m) n e h.begun)

  one_place : (m n a b : ℕ) → FaultAfter A due s m a → FaultAfter A due s n b → m ≡ n
  one_place m n a b g h =
      ⊎_elim
      (λ lt. absurd (not_before m n a b g h lt))
      (λ le. ⊎_elim (λ lt. absurd (not_before n m b a h g lt)) (λ ge. omega arith) (cases_lt n m))
      (cases_lt m n)

  one_number : (f : LineFault) (n b : ℕ) → FaultAfter A due s n (refusal_number (cause f))
      → FaultAfter A due s n b → b ≡ refusal_number (cause f)
  one_number Key n b g h = h.wrong_key.1 (g.wrong_key.0 refl)
  one_number (Number d) n b g h = h.bad_number.1 (g.bad_number.0 refl)
  one_number Feed n b g h = h.bad_end.1 (g.bad_end.0 refl)
  one_number Extra n b g h = h.bad_end.1 (g.bad_end.0 refl)

  pub one_fault_of : (q r : Refusal) → FirstFaultOf A due s q → FirstFaultOf A due s r → SameFault q r
  one_fault_of q r g h =
      let a = refusal_number (cause q.fault) in
      let b = refusal_number (cause r.fault) in
      let same = one_place g.good h.good a b g.fault h.fault in
      let here = subst (λ n. FaultAfter A due s n a) same g.fault in
      (g.place ∙ ap suc same ∙ sym h.place, one_number r.fault h.good a h.fault here)
