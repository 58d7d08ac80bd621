-- A line is read from its written form, and from no other bytes.
use Rattle.std.proofs.Common.{◌≡◌, ℕ, suc, ◌+◌, ◌^◌, ◌<◌, ◌≤◌, true, false, eqb, List, [], ◌∷◌, ◌++◌, length, ℤ, pos, negsuc, ◌≤ℤ◌, IsErrAnd, Some, None, Ok, Err, decimal, Option, Result, sym, refl, ap, ◌∙◌, subst, ⊎_elim, arith, w64, SFits}
use lib.Signed.{mag}
use Rattle.std.proofs.lemmas.Fmt.{digits_decimal, length-decimal-le, length_signed_le}
use Rattle.std.proofs.lemmas.Slice.Eq.{bytes_eq-Decides}
use Rattle.std.proofs.lemmas.List.{append_assoc, append-nil, length-append}
use Rattle.std.proofs.lemmas.Bool.{cond-true, cond-false, cases_Bool, eqb-true, and_parts}
use Rattle.std.proofs.lemmas.Bool.Decides.{nat_tests}
use Rattle.std.specs.Fmt.{signed_decimal}
use Rattle.std.specs.Result.{result_map_both}
use Rattle.std.proofs.lemmas.Result.{err_from_is_err_and}
use Rattle.std.specs.Str.{bytes_eq}
use Rattle.text.specs.declared.number.NumberFault.{NumberFault}
use Rattle.text.specs.declared.line.LineFault.{LineFault}
use Rattle.text.specs.declared.refusal.Refusal.{Refusal}
use Rattle.text.specs.Numbers.{is_digit, natural_of, signed_of}
use Rattle.text.specs.Lines.{before, after, keyed, of_number, valued, ended, line_of, natural_line_of, signed_line_of, placed, and_then, closed, line_text, signed_line_text}
use Rattle.text.proofs.Canonical.{are_digits, own, natural_back, natural_written, in_bits, signed_back, signed_written}

pub apart_ok : {X E : Type 0} (e : E) (x : X) → ◌≡◌ {A = Result X E} (Err e) (Ok x) → ⊥
apart_ok e x q = let k : ◌≡◌ {A = ℕ} 0 1 = cc in omega arith

pub apart_some : {X : Type 0} (x : X) → ◌≡◌ {A = Option X} None (Some x) → ⊥
apart_some x q = let k : ◌≡◌ {A = ℕ} 0 1 = cc in omega arith

pub same_some : {X : Type 0} (x y : X) → ◌≡◌ {A = Option X} (Some x) (Some y) → x ≡ y
same_some x y q = cc

pub same_ok : {X E : Type 0} (x y : X) → ◌≡◌ {A = Result X E} (Ok x) (Ok y) → x ≡ y
same_ok x y q = cc

-- ---- bytes that lack b
abbrev pub Free : ℕ → List ℕ → Type 0
Free b [] = Unit {0}
Free b (c ∷ cs) = (eqb c b ≡ false) × Free b cs

pub before_past : (b : ℕ) (xs t : List ℕ) → Free b xs → before b (xs ++ t) ≡ xs ++ before b t
before_past b [] t f = refl
before_past b (c ∷ cs) t f = cond-false (eqb c b) [] (c ∷ before b (cs ++ t)) f.0 ∙ ap (λ l. c ∷ l) (before_past b cs t f.1)

pub after_past : (b : ℕ) (xs t : List ℕ) → Free b xs → after b (xs ++ t) ≡ after b t
after_past b [] t f = refl
after_past b (c ∷ cs) t f = cond-false (eqb c b) (Some (cs ++ t)) (after b (cs ++ t)) f.0 ∙ after_past b cs t f.1

-- up to b
pub before_at : (b : ℕ) (xs t : List ℕ) → Free b xs → eqb b b ≡ true → before b (xs ++ b ∷ t) ≡ xs
before_at b xs t f e =
    before_past b xs (b ∷ t) f ∙ ap (λ l. xs ++ l) (cond-true (eqb b b) [] (b ∷ before b t) e) ∙ append-nil xs

pub after_at : (b : ℕ) (xs t : List ℕ) → Free b xs → eqb b b ≡ true → after b (xs ++ b ∷ t) ≡ Some t
after_at b xs t f e = after_past b xs (b ∷ t) f ∙ cond-true (eqb b b) (Some t) (after b t) e

pub free_append : (b : ℕ) (xs ys : List ℕ) → Free b xs → Free b ys → Free b (xs ++ ys)
free_append b [] ys f g = g
free_append b (x ∷ xs) ys f g = (f.0, free_append b xs ys f.1 g)

-- what stands before the first b lacks it
pub before_free : (b : ℕ) (s : List ℕ) → Free b (before b s)
before_free b [] = tt
before_free b (c ∷ cs) =
    ⊎_elim
    (λ t. subst (Free b) (sym (cond-true (eqb c b) [] (c ∷ before b cs) t)) tt)
    (λ f. subst (Free b) (sym (cond-false (eqb c b) [] (c ∷ before b cs) f)) (f, before_free b cs))
    (cases_Bool (eqb c b))

-- with no b, all of it stands before
pub uncut : (b : ℕ) (s : List ℕ) → after b s ≡ None → s ≡ before b s
uncut b [] e = refl
uncut b (c ∷ cs) e =
    ⊎_elim
    (λ t. absurd (apart_some cs (sym e ∙ cond-true (eqb c b) (Some cs) (after b cs) t)))
    (λ f. ap (λ l. c ∷ l) (uncut b cs (sym (cond-false (eqb c b) (Some cs) (after b cs) f) ∙ e))
    ∙ sym (cond-false (eqb c b) [] (c ∷ before b cs) f))
    (cases_Bool (eqb c b))

digits_free : (b : ℕ) → ((c : ℕ) → is_digit c ≡ true → eqb c b ≡ false) → (cs : List ℕ) → are_digits cs ≡ true → Free b cs
digits_free b h [] d = tt
digits_free b h (c ∷ cs) d = let p = and_parts (is_digit c) (are_digits cs) d in (h c p.0, digits_free b h cs p.1)

pub no_feed : (c : ℕ) → is_digit c ≡ true → eqb c 10 ≡ false
no_feed c d = grind (arith, nat_tests)

pub no_colon : (c : ℕ) → is_digit c ≡ true → eqb c 58 ≡ false
no_colon c d = grind (arith, nat_tests)

pub decimal_free : (b : ℕ) → ((c : ℕ) → is_digit c ≡ true → eqb c b ≡ false) → (n : ℕ) → n < 2 ^ 64 → Free b (decimal n)
decimal_free b h n lt = digits_free b h (decimal n) (digits_decimal own n lt)

pub signed_free : (b : ℕ) → ((c : ℕ) → is_digit c ≡ true → eqb c b ≡ false) → eqb 45 b ≡ false → (z : ℤ) → mag z < 2 ^ 63 → Free b (signed_decimal z)
signed_free b h m (pos n) lt = decimal_free b h n (omega arith)
signed_free b h m (negsuc n) lt = (m, decimal_free b h (suc n) (omega arith))

-- ---- a line and its value
-- a key that has no line feed and no `=`: each fact is by computing
pub record Plain (key : List ℕ) : Type 0 where
  pub feed : (t : List ℕ) → before 10 (key ++ t) ≡ key ++ before 10 t
  pub past : (t : List ℕ) → after 10 (key ++ t) ≡ after 10 t
  pub name : (t : List ℕ) → keyed key (key ++ 61 ∷ t) ≡ Some t

pub line_back : {X : Type 0} (f : List ℕ → Result X NumberFault) (key : List ℕ) → Plain key → (v : List ℕ) (x : X) (t : List ℕ) → Free 10 v → f v ≡ Ok x
    → line_of f key (key ++ 61 ∷ (v ++ 10 ∷ t)) ≡ Ok (x, t)
line_back f key k v x t free e =
    let rest = key ++ 61 ∷ (v ++ 10 ∷ t) in
    let line : before 10 rest ≡ key ++ 61 ∷ v = k.feed (61 ∷ (v ++ 10 ∷ t)) ∙ ap (λ l. key ++ 61 ∷ l) (before_at 10 v t free refl) in
    ap (λ l. ended (valued f (keyed key l)) (after 10 rest)) line
    ∙ ap (λ o. ended (valued f o) (after 10 rest)) (k.name v)
    ∙ ap (λ r. ended (of_number r) (after 10 rest)) e
    ∙ ap (ended (Ok x)) (k.past (61 ∷ (v ++ 10 ∷ t)) ∙ after_at 10 v t free refl)

-- a cut puts together again
pub joined_cut : (b : ℕ) (s rest : List ℕ) → after b s ≡ Some rest → s ≡ before b s ++ b ∷ rest
joined_cut b [] rest e = absurd (apart_some rest e)
joined_cut b (c ∷ cs) rest e =
    ⊎_elim
    (λ t. let r = same_some cs rest (sym (cond-true (eqb c b) (Some cs) (after b cs) t) ∙ e) in
    ap (λ l. c ∷ l) r ∙ ap (λ x. x ∷ rest) (eqb-true c b t)
    ∙ ap (λ l. l ++ b ∷ rest) (sym (cond-true (eqb c b) [] (c ∷ before b cs) t)))
    (λ f. let h = joined_cut b cs rest (sym (cond-false (eqb c b) (Some cs) (after b cs) f) ∙ e) in
    ap (λ l. c ∷ l) h ∙ ap (λ l. l ++ b ∷ rest) (sym (cond-false (eqb c b) [] (c ∷ before b cs) f)))
    (cases_Bool (eqb c b))

-- a line with the key is the key, `=` and the value
pub joined_key : (key line v : List ℕ) → keyed key line ≡ Some v → line ≡ key ++ 61 ∷ v
joined_key key line v e =
    ⊎_elim
    (λ t. joined_cut 61 line v (sym (cond-true (bytes_eq (before 61 line) key) (after 61 line) None t) ∙ e)
    ∙ ap (λ k. k ++ 61 ∷ v) ((bytes_eq-Decides (before 61 line) key).0 t))
    (λ f. absurd (apart_some v (sym (cond-false (bytes_eq (before 61 line) key) (after 61 line) None f) ∙ e)))
    (cases_Bool (bytes_eq (before 61 line) key))

ended_ok : {X : Type 0} (r : Result X LineFault) (o : Option (List ℕ)) (x : X) (rest : List ℕ) → ended r o ≡ Ok (x, rest) → (r ≡ Ok x) × (o ≡ Some rest)
ended_ok (Err e) o x rest q = absurd (apart_ok e (x, rest) q)
ended_ok (Ok y) None x rest q = absurd (apart_ok _ (x, rest) q)
ended_ok (Ok y) (Some t) x rest q = let p = same_ok (y, t) (x, rest) q in (ap (λ z. Ok z.0) p, ap (λ z. Some z.1) p)

of_number_ok : {X : Type 0} (r : Result X NumberFault) (x : X) → of_number r ≡ Ok x → r ≡ Ok x
of_number_ok (Ok y) x q = ap Ok (same_ok {E = LineFault} y x q)
of_number_ok (Err e) x q = absurd (apart_ok _ x q)

valued_ok : {X : Type 0} (f : List ℕ → Result X NumberFault) (x : X) (o : Option (List ℕ)) → valued f o ≡ Ok x → (v : List ℕ) × (o ≡ Some v) × (f v ≡ Ok x)
valued_ok f x None q = absurd (apart_ok _ x q)
valued_ok f x (Some v) q = (v, refl, of_number_ok (f v) x q)

-- the value of a line that was read, and what stands behind the line
pub line_parts : {X : Type 0} (f : List ℕ → Result X NumberFault) (key s : List ℕ) (x : X) (rest : List ℕ) → line_of f key s ≡ Ok (x, rest)
    → (valued f (keyed key (before 10 s)) ≡ Ok x) × (after 10 s ≡ Some rest)
line_parts f key s x rest e = ended_ok (valued f (keyed key (before 10 s))) (after 10 s) x rest e

pub line_only : {X : Type 0} (f : List ℕ → Result X NumberFault) (key s : List ℕ) (x : X) (rest : List ℕ) → line_of f key s ≡ Ok (x, rest)
    → (v : List ℕ) × (s ≡ key ++ 61 ∷ (v ++ 10 ∷ rest)) × (f v ≡ Ok x)
line_only f key s x rest e =
    let a = ended_ok (valued f (keyed key (before 10 s))) (after 10 s) x rest e in
    let b = valued_ok f x (keyed key (before 10 s)) a.0 in (
      b.0,
      joined_cut 10 s rest a.1 ∙ ap (λ l. l ++ 10 ∷ rest) (joined_key key (before 10 s) b.0 b.1) ∙ append_assoc key (61 ∷ b.0) (10 ∷ rest),
      b.2,
    )

-- ---- a line `key=number`
line_text_past : (key : List ℕ) (n : ℕ) (t : List ℕ) → line_text key n ++ t ≡ key ++ 61 ∷ (decimal n ++ 10 ∷ t)
unfolding line_text
line_text_past key n t =
    append_assoc key (61 ∷ (decimal n ++ 10 ∷ [])) t ∙ ap (λ l. key ++ 61 ∷ l) (append_assoc (decimal n) (10 ∷ []) t)

pub natural_line_back : (key : List ℕ) → Plain key → (low high n : ℕ) (t : List ℕ) → high < 2 ^ 64 → low ≤ n → n ≤ high
    → natural_line_of key low high (line_text key n ++ t) ≡ Ok (n, t)
natural_line_back key k low high n t lt a b =
    ap (natural_line_of key low high) (line_text_past key n t)
    ∙ line_back (natural_of low high) key k (decimal n) n t (decimal_free 10 no_feed n (omega arith)) (natural_back low high n lt a b)

pub natural_line_only : (key : List ℕ) (low high : ℕ) (s : List ℕ) (n : ℕ) (rest : List ℕ) → high < 2 ^ 64
    → natural_line_of key low high s ≡ Ok (n, rest) → (s ≡ line_text key n ++ rest) × (low ≤ n) × (n ≤ high)
natural_line_only key low high s n rest lt e =
    let a = line_only (natural_of low high) key s n rest e in
    let w = (natural_written low high a.0 lt n).0 a.2 in
    (a.1 ∙ ap (λ v. key ++ 61 ∷ (v ++ 10 ∷ rest)) w.0 ∙ sym (line_text_past key n rest), w.1, w.2)

pub length_line_text : (key : List ℕ) (n : ℕ) → n < 2 ^ 32 → length (line_text key n) ≤ length key + 12
unfolding line_text
length_line_text key n lt =
    let a = length-append key (61 ∷ (decimal n ++ 10 ∷ [])) in
    let b = length-append (decimal n) (10 ∷ []) in
    let d = length-decimal-le 10 n (omega arith) (omega arith) (omega arith) in
    omega arith

-- ---- a line `key=number` with a sign
signed_line_text_past : (key : List ℕ) (z : ℤ) (t : List ℕ) → signed_line_text key z ++ t ≡ key ++ 61 ∷ (signed_decimal z ++ 10 ∷ t)
unfolding signed_line_text
signed_line_text_past key z t =
    append_assoc key (61 ∷ (signed_decimal z ++ 10 ∷ [])) t ∙ ap (λ l. key ++ 61 ∷ l) (append_assoc (signed_decimal z) (10 ∷ []) t)

pub signed_line_back : (key : List ℕ) → Plain key → (low high z : ℤ) (t : List ℕ) → SFits w64 low → SFits w64 high → low ≤ℤ z → z ≤ℤ high
    → signed_line_of key low high (signed_line_text key z ++ t) ≡ Ok (z, t)
signed_line_back key k low high z t fl fh a b =
    let m = in_bits low high z fl fh a b in
    ap (signed_line_of key low high) (signed_line_text_past key z t)
    ∙ line_back (signed_of low high) key k (signed_decimal z) z t (signed_free 10 no_feed refl z m) (signed_back low high z m a b)

pub signed_line_only : (key : List ℕ) (low high : ℤ) (s : List ℕ) (z : ℤ) (rest : List ℕ) → SFits w64 low → SFits w64 high
    → signed_line_of key low high s ≡ Ok (z, rest) → (s ≡ signed_line_text key z ++ rest) × (low ≤ℤ z) × (z ≤ℤ high)
signed_line_only key low high s z rest fl fh e =
    let a = line_only (signed_of low high) key s z rest e in
    let w = (signed_written low high a.0 fl fh z).0 a.2 in
    (a.1 ∙ ap (λ v. key ++ 61 ∷ (v ++ 10 ∷ rest)) w.0 ∙ sym (signed_line_text_past key z rest), w.1, w.2)

pub length_signed_line_text : (key : List ℕ) (z : ℤ) → mag z < 2 ^ 63 → length (signed_line_text key z) ≤ length key + 22
unfolding signed_line_text
length_signed_line_text key z lt =
    let a = length-append key (61 ∷ (signed_decimal z ++ 10 ∷ [])) in
    let b = length-append (signed_decimal z) (10 ∷ []) in
    let d = length_signed_le 19 z (omega arith) (omega arith) in
    omega arith

-- ---- one step after another
pub and_then_ok : {X Y E : Type 0} (r : Result X E) (f : X → Result Y E) (y : Y) → and_then r f ≡ Ok y → (x : X) × (r ≡ Ok x) × (f x ≡ Ok y)
and_then_ok (Ok x) f y q = (x, refl, q)
and_then_ok (Err e) f y q = absurd (apart_ok e y q)

pub closed_ok : {X : Type 0} (line : ℕ) (t : List ℕ) (x y : X) → closed line t x ≡ Ok y → (t ≡ []) × (x ≡ y)
closed_ok line [] x y q = (refl, same_ok {E = Refusal} x y q)
closed_ok line (c ∷ cs) x y q = absurd (apart_ok _ y q)

-- ---- a fault with its line
pub placed_ok : {X : Type 0} (line : ℕ) (r : Result X LineFault) (x : X) → placed line r ≡ Ok x → r ≡ Ok x
placed_ok line (Ok y) x q = ap Ok (same_ok {E = Refusal} y x q)
placed_ok line (Err e) x q = absurd (apart_ok _ x q)

-- the exit of a `?` hands the refusal on
pub exit_err : {X Y : Type 0} (f : X → Y) (e : Refusal) (r : Result X Refusal) (s : Result Y Refusal)
    → IsErrAnd r (λ y. y ≡ e) → s ≡ Err e → result_map_both f (λ d. d) r ≡ s
exit_err f e r s b q = let p = err_from_is_err_and r b in ap (result_map_both f (λ d. d)) (p.1 ∙ ap Err p.2) ∙ sym q
