-- A post's refusal, from what a ledger tells.
use Rattle.std.proofs.Common.{◌≡◌, ℕ, Bool, true, false, cond, not, ◌||◌, eqb, ltb, ℤ, ◌+ℤ◌, Some, None, Ok, Err, Option, Result, is_ok, sym, refl, arith, w64, SFits}
use lib.Signed.{lt_z}
use Rattle.std.proofs.lemmas.Int.{ints}
use Rattle.std.proofs.lemmas.Bool.{ltb-true}
use Rattle.ledger.specs.declared.reason.Reason.{Reason}
use Rattle.ledger.specs.declared.reason.Reason.TheVariants.{NoAccount, NoPlaces, OutOfBounds}
use Rattle.ledger.specs.View.{View, InSpan, Sound, told}
use Rattle.ledger.specs.Posting.{refusal, outside, Answered}

some_from : (t : Bool) (x z : ℤ) → Some z ≡ cond t (Some x) None → (t ≡ true) × (z ≡ x)
some_from true x z e = (refl, cc)
some_from false x z e = let no : ◌≡◌ {A = ℕ} 0 1 = cc in absurd (omega arith)

-- an account that is told of is there
pub told_some : (v : View) (f : ℕ → ℤ) (a : ℕ) (z : ℤ) → Some z ≡ told v f a → (ltb a v.count ≡ true) × (z ≡ f a)
told_some v f a z e = some_from (ltb a v.count) (f a) z e

-- of an account that is there, with a place left, the bounds decide
pub bounds_decide : (v : View) (a : ℕ) (x bal low high : ℤ) → Some bal ≡ told v v.balance a → Some low ≡ told v v.lowest a → Some high ≡ told v v.highest a → eqb v.places 0 ≡ false → cond (lt_z (bal +ℤ x) low || lt_z high (bal +ℤ x)) (Some OutOfBounds) None ≡ refusal v a x
bounds_decide v a x bal low high tb tl th room =
    let p = told_some v v.balance a bal tb in
    let q = told_some v v.lowest a low tl in
    let r = told_some v v.highest a high th in
    sym (rw (p.0, room, p.1, q.1, r.1))

taken_parts : (t p o : Bool) → cond (not t) (Some NoAccount) (cond p (Some NoPlaces) (cond o (Some OutOfBounds) None)) ≡ None → (t ≡ true) × (p ≡ false) × (o ≡ false)
taken_parts true false false e = (refl, refl, refl)
taken_parts true false true e = let no : ◌≡◌ {A = ℕ} 0 1 = cc in absurd (omega arith)
taken_parts true true o e = let no : ◌≡◌ {A = ℕ} 0 1 = cc in absurd (omega arith)
taken_parts false p o e = let no : ◌≡◌ {A = ℕ} 0 1 = cc in absurd (omega arith)

-- a post that is not refused: the account is there, a place is left, and the new balance keeps the bounds
pub taken_because : (v : View) (a : ℕ) (x : ℤ) → refusal v a x ≡ None → (ltb a v.count ≡ true) × (eqb v.places 0 ≡ false) × (outside v a (v.balance a +ℤ x) ≡ false)
taken_because v a x e = taken_parts (ltb a v.count) (eqb v.places 0) (outside v a (v.balance a +ℤ x)) e

either_false : (s t : Bool) → (s || t) ≡ false → (s ≡ false) × (t ≡ false)
either_false false false e = (refl, refl)
either_false false true e = let no : ◌≡◌ {A = ℕ} 0 1 = cc in absurd (omega arith)
either_false true t e = let no : ◌≡◌ {A = ℕ} 0 1 = cc in absurd (omega arith)

-- a balance not outside the bounds is below neither and above neither
pub not_outside : (v : View) (a : ℕ) (z : ℤ) → outside v a z ≡ false → (lt_z z (v.lowest a) ≡ false) × (lt_z (v.highest a) z ≡ false)
not_outside v a z e = either_false (lt_z z (v.lowest a)) (lt_z (v.highest a) z) e

between : (z low high : ℤ) → InSpan low → InSpan high → lt_z z low ≡ false → lt_z high z ≡ false → InSpan z
between z low high l h below above = (grind (arith, ints), grind (arith, ints))

-- a taken post leaves a balance within the span of money
pub taken_in_span : (v : View) (a : ℕ) (x : ℤ) → Sound v → refusal v a x ≡ None → InSpan (v.balance a +ℤ x)
taken_in_span v a x s e =
    let t = taken_because v a x e in
    let here = ltb-true a v.count t.0 in
    let b = not_outside v a (v.balance a +ℤ x) t.2 in
    between (v.balance a +ℤ x) (v.lowest a) (v.highest a) (s.lows a here) (s.highs a here) b.0 b.1

-- a figure within the span of money fits 64 bits
pub span_fits : (z : ℤ) → InSpan z → SFits w64 z
span_fits z h = record { sfits = grind (arith, ints) }

pub taken_or_refused : (o : Option Reason) (e : Reason) → o ≡ None → o ≡ Some e → ⊥
taken_or_refused o e n s = let no : ◌≡◌ {A = ℕ} 0 1 = cc in omega arith

-- a post that is not refused is taken
pub post_taken : (v : View) (a : ℕ) (x : ℤ) (r : Result (Unit {0}) Reason) (w : View) → Answered v a x r w → refusal v a x ≡ None → is_ok r ≡ true
post_taken v a x (Ok u) w h n = refl
post_taken v a x (Err e) w h n = absurd (taken_or_refused _ e n h.0)
