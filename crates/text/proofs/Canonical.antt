-- A number is read from its written form, and from no other bytes.
use Rattle.std.proofs.Common.{◌≡◌, ℕ, zero, suc, ◌+◌, ◌-◌, ◌*◌, ◌^◌, ◌<◌, ◌≤◌, Bool, true, ◌&&◌, T, eqb, leb, List, [], ◌∷◌, length, get_or, ℤ, pos, negsuc, ◌≤ℤ◌, IfOk, Some, None, Ok, Err, decimal, Option, Result, sym, refl, ap, ◌∙◌, subst, ⊎_elim, arith, w64, SFits, rules}
use lib.Signed.{le_z, mag, le_z_yes}
use Rattle.std.proofs.lemmas.Int.{ints}
use Rattle.std.proofs.lemmas.Bool.Decides.{nat_tests}
use Rattle.std.proofs.lemmas.Bool.{cond-true, cond-false, eq-eqb, ne_eqb, cases_eq, cases_Bool, and_parts, and_from}
use Rattle.std.proofs.lemmas.Str.Parse.{IsNumeralModel, numerals_by_fold}
use Rattle.std.proofs.lemmas.Fmt.{decimal-digits_value, decimal_digit, digits_decimal, digits_value-decimal, first_decimal, decimal_nonempty}
use Rattle.std.specs.Fmt.{signed_decimal}
use Rattle.std.specs.Option.{option_map}
use Rattle.text.specs.declared.number.NumberFault.{NumberFault}
use Rattle.text.specs.declared.number.NumberFault.TheVariants.{Span}
use Rattle.text.specs.Numbers.{is_digit, onward, positive, alone, plain, minus, with_sign, in_span, in_signed_span, natural_of, signed_of, ReadsNatural, ReadsSigned}

abbrev pub are_digits : List ℕ → Bool
are_digits [] = true
are_digits (c ∷ cs) = is_digit c && are_digits cs

abbrev pub read_on : ℕ → List ℕ → ℕ
read_on n [] = n
read_on n (c ∷ cs) = read_on (n * 10 + (c - 48)) cs

pub own : IsNumeralModel (λ ds. are_digits ds ≡ true) (read_on 0)
own = numerals_by_fold _ (search rules) read_on (search rules)

-- digits go on to their value
onward_digits : (n : ℕ) (cs : List ℕ) → are_digits cs ≡ true → onward n cs ≡ Some (read_on n cs)
onward_digits n [] d = refl
onward_digits n (c ∷ cs) d =
    let p = and_parts (is_digit c) (are_digits cs) d
    in cond-true (is_digit c) (onward (n * 10 + (c - 48)) cs) None p.0 ∙ onward_digits (n * 10 + (c - 48)) cs p.1

-- and nothing else goes on
digits_onward : (n m : ℕ) (cs : List ℕ) → onward n cs ≡ Some m → (are_digits cs ≡ true) × (read_on n cs ≡ m) × (n ≤ m)
digits_onward n m [] e = (refl, cc, (let h : n ≡ m = cc in omega arith))
digits_onward n m (c ∷ cs) e =
    ⊎_elim
    (λ t. let h = digits_onward (n * 10 + (c - 48)) m cs (sym (cond-true (is_digit c) (onward (n * 10 + (c - 48)) cs) None t) ∙ e)
    in (and_from (is_digit c) (are_digits cs) t h.0, h.1, omega (arith, h.2)))
    (λ f. let z : None ≡ Some m = sym (cond-false (is_digit c) (onward (n * 10 + (c - 48)) cs) None f) ∙ e
    in let k : ◌≡◌ {A = ℕ} 0 1 = cc in absurd (omega arith))
    (cases_Bool (is_digit c))

-- what is read as a number above zero is how it is written
positive_written : (n : ℕ) (s : List ℕ) → positive s ≡ Some n → n < 2 ^ 64 → (decimal n ≡ s) × (0 < n)
positive_written n [] e lt = let k : ◌≡◌ {A = ℕ} 0 1 = cc in absurd (omega arith)
positive_written n (c ∷ cs) e lt =
    ⊎_elim
    (λ t. let o : onward (c - 48) cs ≡ Some n = sym (cond-true (leb 49 c && leb c 57) (onward (c - 48) cs) None t) ∙ e in
    let h = digits_onward (c - 48) n cs o in
    let i : 49 ≤ c = grind (arith, nat_tests) in
    let d : is_digit c ≡ true = grind (arith, nat_tests) in
    let z : 0 * 10 + (c - 48) ≡ c - 48 = omega arith in
    let v : read_on 0 (c ∷ cs) ≡ n = ap (λ x. read_on x cs) z ∙ h.1 in
    (ap decimal (sym v) ∙ decimal-digits_value own (c ∷ cs) (and_from (is_digit c) (are_digits cs) d h.0) (omega arith) (λ x. absurd (omega arith)) (omega arith), omega (arith, h.2)))
    (λ f. let z : None ≡ Some n = sym (cond-false (leb 49 c && leb c 57) (onward (c - 48) cs) None f) ∙ e
    in let k : ◌≡◌ {A = ℕ} 0 1 = cc in absurd (omega arith))
    (cases_Bool (leb 49 c && leb c 57))

-- digits of which the first is not 0 are read as a number above zero
positive_digits : (s : List ℕ) → are_digits s ≡ true → 0 < length s → 48 < get_or s 0 0 → positive s ≡ Some (read_on 0 s)
positive_digits [] d l f = absurd (omega arith)
positive_digits (c ∷ cs) d l f =
    let p = and_parts (is_digit c) (are_digits cs) d in
    let q = p.0 in
    let t : (leb 49 c && leb c 57) ≡ true = grind (arith, nat_tests) in
    let z : c - 48 ≡ 0 * 10 + (c - 48) = omega arith in
    cond-true (leb 49 c && leb c 57) (onward (c - 48) cs) None t ∙ onward_digits (c - 48) cs p.1 ∙ ap (λ x. Some (read_on x cs)) z

-- a number above zero is read from what is written of it
written_positive : (n : ℕ) → 0 < n → n < 2 ^ 64 → positive (decimal n) ≡ Some n
written_positive n p lt =
    positive_digits (decimal n) (digits_decimal own n lt) (decimal_nonempty n lt) (first_decimal n p lt) ∙ ap Some (digits_value-decimal own n lt)

-- ---- without a sign
alone_written : (n : ℕ) (cs : List ℕ) → alone cs ≡ Some n → 48 ∷ cs ≡ decimal n
alone_written n [] e = let q : 0 ≡ n = cc in sym (decimal_digit 0 (omega arith)) ∙ ap decimal q
alone_written n (c ∷ cs) e = let k : ◌≡◌ {A = ℕ} 0 1 = cc in absurd (omega arith)

plain_written : (n : ℕ) (s : List ℕ) → plain s ≡ Some n → n < 2 ^ 64 → s ≡ decimal n
plain_written n [] e lt = let k : ◌≡◌ {A = ℕ} 0 1 = cc in absurd (omega arith)
plain_written n (c ∷ cs) e lt =
    ⊎_elim
    (λ t. ap (λ x. x ∷ cs) t ∙ alone_written n cs (sym (cond-true (eqb c 48) (alone cs) (positive (c ∷ cs)) (eq-eqb c 48 t)) ∙ e))
    (λ u. sym (positive_written n (c ∷ cs) (sym (cond-false (eqb c 48) (alone cs) (positive (c ∷ cs)) (ne_eqb c 48 u)) ∙ e) lt).0)
    (cases_eq c 48)

plain_first : (s : List ℕ) (n : ℕ) → positive s ≡ Some n → 48 < get_or s 0 0 → plain s ≡ Some n
plain_first [] n e h = absurd (omega arith)
plain_first (c ∷ cs) n e h = cond-false (eqb c 48) (alone cs) (positive (c ∷ cs)) (ne_eqb c 48 (λ z. omega arith)) ∙ e

pub written_plain : (n : ℕ) → n < 2 ^ 64 → plain (decimal n) ≡ Some n
written_plain zero lt = ap plain (decimal_digit 0 (omega arith))
written_plain (suc n) lt =
    plain_first (decimal (suc n)) (suc n) (written_positive (suc n) (omega arith) lt) (first_decimal (suc n) (omega arith) lt)

same_ok : {X E : Type 0} (y z : X) → ◌≡◌ {A = Result X E} (Ok y) (Ok z) → y ≡ z
same_ok y z e = cc

in_span_ok : (low high n : ℕ) (o : Option ℕ) → in_span low high o ≡ Ok n → (o ≡ Some n) × (low ≤ n) × (n ≤ high)
in_span_ok low high n None e = let k : ◌≡◌ {A = ℕ} 0 1 = cc in absurd (omega arith)
in_span_ok low high n (Some y) e =
    ⊎_elim
    (λ t. let q : y ≡ n = same_ok {E = NumberFault} y n (sym (cond-true (leb low y && leb y high) (Ok y) (Err Span) t) ∙ e) in
    let a : low ≤ y = grind (arith, nat_tests) in
    let b : y ≤ high = grind (arith, nat_tests) in
    (ap Some q, omega arith, omega arith))
    (λ f. let z : Err Span ≡ Ok n = sym (cond-false (leb low y && leb y high) (Ok y) (Err Span) f) ∙ e
    in let k : ◌≡◌ {A = ℕ} 0 1 = cc in absurd (omega arith))
    (cases_Bool (leb low y && leb y high))

pub ok_in_span : (low high n : ℕ) → low ≤ n → n ≤ high → in_span low high (Some n) ≡ Ok n
ok_in_span low high n a b =
    let t : (leb low n && leb n high) ≡ true = grind (arith, nat_tests) in cond-true (leb low n && leb n high) (Ok n) (Err Span) t

pub natural_back : (low high n : ℕ) → high < 2 ^ 64 → low ≤ n → n ≤ high → natural_of low high (decimal n) ≡ Ok n
natural_back low high n fh a b = ap (in_span low high) (written_plain n (omega arith)) ∙ ok_in_span low high n a b

pub natural_written : (low high : ℕ) (s : List ℕ) → high < 2 ^ 64 → ReadsNatural low high s (natural_of low high s)
natural_written low high s fh n = (
  (λ e. let w = in_span_ok low high n (plain s) e in let h = w.2 in (plain_written n s w.0 (omega arith), w.1, w.2)),
  (λ e a b. ap (natural_of low high) e ∙ natural_back low high n fh a b),
)

pub natural_within : (low high : ℕ) (r : Result ℕ NumberFault) (s : List ℕ) → r ≡ natural_of low high s → IfOk r (λ n. (low ≤ n) × (n ≤ high))
natural_within low high (Ok n) s e = let w = in_span_ok low high n (plain s) (sym e) in (w.1, w.2)
natural_within low high (Err f) s e = tt

-- ---- with a sign
minus_written : (z : ℤ) (s : List ℕ) (o : Option ℕ) → positive s ≡ o → option_map minus o ≡ Some z → mag z < 2 ^ 63 → 45 ∷ s ≡ signed_decimal z
minus_written z s None p e lt = let k : ◌≡◌ {A = ℕ} 0 1 = cc in absurd (omega arith)
minus_written z s (Some zero) p e lt = let w = positive_written 0 s p (omega arith) in absurd (omega (arith, w.1))
minus_written z s (Some (suc n)) p e lt =
    let q : negsuc n ≡ z = cc in
    let l : mag (negsuc n) < 2 ^ 63 = subst (λ x. mag x < 2 ^ 63) (sym q) lt in
    let w = positive_written (suc n) s p (omega arith) in
    ap (λ x. 45 ∷ x) (sym w.0) ∙ ap signed_decimal q

pos_written : (z : ℤ) (s : List ℕ) (o : Option ℕ) → plain s ≡ o → option_map pos o ≡ Some z → mag z < 2 ^ 63 → s ≡ signed_decimal z
pos_written z s None p e lt = let k : ◌≡◌ {A = ℕ} 0 1 = cc in absurd (omega arith)
pos_written z s (Some n) p e lt =
    let q : pos n ≡ z = cc in
    let l : mag (pos n) < 2 ^ 63 = subst (λ x. mag x < 2 ^ 63) (sym q) lt in
    plain_written n s p (omega arith) ∙ ap signed_decimal q

with_sign_written : (z : ℤ) (s : List ℕ) → with_sign s ≡ Some z → mag z < 2 ^ 63 → s ≡ signed_decimal z
with_sign_written z [] e lt = let k : ◌≡◌ {A = ℕ} 0 1 = cc in absurd (omega arith)
with_sign_written z (c ∷ cs) e lt =
    let below = option_map minus (positive cs) in
    let above = option_map pos (plain (c ∷ cs)) in
    ⊎_elim
    (λ t. ap (λ x. x ∷ cs) t ∙ minus_written z cs (positive cs) refl (sym (cond-true (eqb c 45) below above (eq-eqb c 45 t)) ∙ e) lt)
    (λ f. pos_written z (c ∷ cs) (plain (c ∷ cs)) refl (sym (cond-false (eqb c 45) below above (ne_eqb c 45 f)) ∙ e) lt)
    (cases_eq c 45)

with_sign_first : (s : List ℕ) → 47 < get_or s 0 0 → with_sign s ≡ option_map pos (plain s)
with_sign_first [] h = refl
with_sign_first (c ∷ cs) h = cond-false (eqb c 45) (option_map minus (positive cs)) (option_map pos (plain (c ∷ cs))) (ne_eqb c 45 (λ e. omega arith))

written_with_sign : (z : ℤ) → mag z < 2 ^ 63 → with_sign (signed_decimal z) ≡ Some z
written_with_sign (pos zero) lt = ap with_sign (decimal_digit 0 (omega arith))
written_with_sign (pos (suc n)) lt =
    let f = first_decimal (suc n) (omega arith) (omega arith) in
    with_sign_first (decimal (suc n)) (omega arith) ∙ ap (option_map pos) (written_plain (suc n) (omega arith))
written_with_sign (negsuc n) lt = ap (option_map minus) (written_positive (suc n) (omega arith) (omega arith))

signed_span_ok : (low high z : ℤ) (o : Option ℤ) → in_signed_span low high o ≡ Ok z → (o ≡ Some z) × (low ≤ℤ z) × (z ≤ℤ high)
signed_span_ok low high z None e = let k : ◌≡◌ {A = ℕ} 0 1 = cc in absurd (omega arith)
signed_span_ok low high z (Some y) e =
    ⊎_elim
    (λ t. let q : y ≡ z = same_ok {E = NumberFault} y z (sym (cond-true (le_z low y && le_z y high) (Ok y) (Err Span) t) ∙ e) in
    let p = and_parts (le_z low y) (le_z y high) t in
    let a : low ≤ℤ y = le_z_yes (true_T _ p.0) in
    let b : y ≤ℤ high = le_z_yes (true_T _ p.1) in
    (ap Some q, subst (λ x. low ≤ℤ x) q a, subst (λ x. x ≤ℤ high) q b))
    (λ f. let z : Err Span ≡ Ok z = sym (cond-false (le_z low y && le_z y high) (Ok y) (Err Span) f) ∙ e
    in let k : ◌≡◌ {A = ℕ} 0 1 = cc in absurd (omega arith))
    (cases_Bool (le_z low y && le_z y high))
  where
    true_T : (b : Bool) → b ≡ true → T b
    true_T b e = subst T (sym e) tt

ok_signed_span : (low high z : ℤ) → low ≤ℤ z → z ≤ℤ high → in_signed_span low high (Some z) ≡ Ok z
ok_signed_span low high z a b =
    let x : le_z low z ≡ true = grind (arith, ints) in
    let y : le_z z high ≡ true = grind (arith, ints) in
    cond-true (le_z low z && le_z z high) (Ok z) (Err Span) (and_from (le_z low z) (le_z z high) x y)

-- a number in a span of 64 bits is small enough to be written
pub in_bits : (low high z : ℤ) → SFits w64 low → SFits w64 high → low ≤ℤ z → z ≤ℤ high → mag z < 2 ^ 63
in_bits low (pos m) (pos n) fl fh a b = let h : m < 2 ^ 63 = fh.sfits in omega (arith, ints)
in_bits low (negsuc m) (pos n) fl fh a b = absurd (omega (arith, ints))
in_bits (pos m) high (negsuc n) fl fh a b = absurd (omega (arith, ints))
in_bits (negsuc m) high (negsuc n) fl fh a b = let h : m < 2 ^ 63 = fl.sfits in omega (arith, ints)

pub signed_back : (low high z : ℤ) → mag z < 2 ^ 63 → low ≤ℤ z → z ≤ℤ high → signed_of low high (signed_decimal z) ≡ Ok z
signed_back low high z lt a b = ap (in_signed_span low high) (written_with_sign z lt) ∙ ok_signed_span low high z a b

pub signed_written : (low high : ℤ) (s : List ℕ) → SFits w64 low → SFits w64 high → ReadsSigned low high s (signed_of low high s)
signed_written low high s fl fh z = (
  (λ e. let w = signed_span_ok low high z (with_sign s) e in
      (with_sign_written z s w.0 (in_bits low high z fl fh w.1 w.2), w.1, w.2)),
  (λ e a b. ap (signed_of low high) e ∙ signed_back low high z (in_bits low high z fl fh a b) a b),
)

pub signed_within : (low high : ℤ) (r : Result ℤ NumberFault) (s : List ℕ) → r ≡ signed_of low high s → IfOk r (λ z. (low ≤ℤ z) × (z ≤ℤ high))
signed_within low high (Ok z) s e = let w = signed_span_ok low high z (with_sign s) (sym e) in (w.1, w.2)
signed_within low high (Err f) s e = tt
