-- What the refusal of a row says of each amount.
use Rattle.std.proofs.Common.{◌≡◌, ℕ, zero, suc, ◌+◌, ◌<◌, ◌≤◌, Bool, true, false, cond, ltb, List, [], ◌∷◌, ◌++◌, length, take, ℤ, pos, negsuc, Some, None, Ok, Err, Option, sym, refl, ap, ◌∙◌, subst, ⊎_elim, append_assoc, arith, w64, SFits, of_z, to_z}
use Rattle.std.proofs.lemmas.List.{get_or_past, append-nil, length-take-le, take_more}
use Rattle.std.specs.Option.{option_or}
use Rattle.std.proofs.lemmas.Int.{to_z-of_z}
use Rattle.std.proofs.lemmas.Bool.{cases_lt, cases_Bool, cond-true, cond-false, lt-ltb, le-ltb, ltb-true, ltb-false}
use Rattle.ledger.specs.declared.reason.Reason.{Reason}
use Rattle.ledger.specs.declared.reason.Reason.TheVariants.{NoPlaces}
use Rattle.ledger.specs.declared.row.RowRefusal.{RowRefusal}
use Rattle.ledger.specs.View.{View}
use Rattle.ledger.specs.Posting.{refusal}
use Rattle.ledger.specs.Rows.{post_of, row_posts, non_zero, posts, amount, refused_at, amount_refusal, first_refused, row_refusal, unless_refused, row_answer}
use Rattle.ledger.proofs.Tested.{taken_because}

pub zero_not_posted : (z : ℤ) → z ≡ pos 0 → non_zero z ≡ false
zero_not_posted z e = rw e

pub not_posted_zero : (z : ℤ) → non_zero z ≡ false → z ≡ pos 0
not_posted_zero (pos zero) e = refl
not_posted_zero (pos (suc n)) e = let no : ◌≡◌ {A = ℕ} 0 1 = cc in absurd (omega arith)
not_posted_zero (negsuc n) e = let no : ◌≡◌ {A = ℕ} 0 1 = cc in absurd (omega arith)

other_posted : (z : ℤ) → (z ≡ pos 0 → ⊥) → non_zero z ≡ true
other_posted (pos zero) ne = absurd (ne refl)
other_posted (pos (suc n)) ne = refl
other_posted (negsuc n) ne = refl

-- an amount whose 64 bits are zero is zero
pub zero_by_bits : (z : ℤ) → SFits w64 z → of_z w64 z ≡ 0 → z ≡ pos 0
zero_by_bits z fits e = sym (to_z-of_z w64 z fits) ∙ ap (to_z w64) e

pub posted_by_bits : (z : ℤ) → (of_z w64 z ≡ 0 → ⊥) → non_zero z ≡ true
posted_by_bits z ne = other_posted z (λ e. ne (ap (of_z w64) e))

or_parts : (o p : Option RowRefusal) → option_or o p ≡ None → (o ≡ None) × (p ≡ None)
or_parts None p e = (refl, e)
or_parts (Some r) p e = let no : ◌≡◌ {A = ℕ} 0 1 = cc in absurd (omega arith)

at_parts : (a : ℕ) (o : Option Reason) → refused_at a o ≡ None → o ≡ None
at_parts a None e = refl
at_parts a (Some r) e = let no : ◌≡◌ {A = ℕ} 0 1 = cc in absurd (omega arith)

-- where none is refused, each amount alone would be taken
each_taken : (v : View) (a : ℕ) (xs : List ℤ) → first_refused v a xs ≡ None → (k : ℕ) → k < length xs → amount_refusal v (a + k) (amount xs k) ≡ None
each_taken v a [] e k l = absurd (omega arith)
each_taken v a (x ∷ xs) e zero l = subst (λ j. amount_refusal v j x ≡ None) (let same : a ≡ a + 0 = omega arith in same) (or_parts (amount_refusal v a x) (first_refused v (a + 1) xs) e).0
each_taken v a (x ∷ xs) e (suc k) l =
    subst (λ j. amount_refusal v j (amount xs k) ≡ None) (let same : (a + 1) + k ≡ a + suc k = omega arith in same)
    (each_taken v (a + 1) xs (or_parts (amount_refusal v a x) (first_refused v (a + 1) xs) e).1 k (omega arith))

pub too_few_places : (v : View) (xs : List ℤ) → v.places < posts xs → Err (record { reason = NoPlaces; place = posts xs }) ≡ row_answer v xs
unfolding row_refusal
too_few_places v xs short = ap (unless_refused (posts xs)) (sym (cond-true (ltb v.places (posts xs)) _ (first_refused v 0 xs) (lt-ltb v.places (posts xs) short)))

-- with places enough for all posts, the first account that would be refused decides
pub places_enough : (v : View) (xs : List ℤ) (o : Option RowRefusal) → posts xs ≤ v.places → o ≡ first_refused v 0 xs → unless_refused (posts xs) o ≡ row_answer v xs
unfolding row_refusal
places_enough v xs o room e = ap (unless_refused (posts xs)) (e ∙ sym (cond-false (ltb v.places (posts xs)) _ (first_refused v 0 xs) (le-ltb v.places (posts xs) room)))

unless_ok : (m n : ℕ) (o : Option RowRefusal) → Ok n ≡ unless_refused m o → (o ≡ None) × (n ≡ m)
unless_ok m n None e = (refl, cc)
unless_ok m n (Some r) e = let no : ◌≡◌ {A = ℕ} 0 1 = cc in absurd (omega arith)

pub row_taken : (v : View) (xs : List ℤ) (n : ℕ) → Ok n ≡ row_answer v xs → (row_refusal v xs ≡ None) × (n ≡ posts xs)
row_taken v xs n e = unless_ok (posts xs) n (row_refusal v xs) e

row_parts : (t : Bool) (r : RowRefusal) (o : Option RowRefusal) → cond t (Some r) o ≡ None → (t ≡ false) × (o ≡ None)
row_parts true r o e = let no : ◌≡◌ {A = ℕ} 0 1 = cc in absurd (omega arith)
row_parts false r o e = (refl, e)

module _ (v : View) (xs : List ℤ) (ok : row_refusal v xs ≡ None) where
  parts : (ltb v.places (posts xs) ≡ false) × (first_refused v 0 xs ≡ None)
  unfolding row_refusal
  parts = row_parts (ltb v.places (posts xs)) _ (first_refused v 0 xs) ok

  -- a row that is not refused finds places for all its posts
  pub room_for_all : posts xs ≤ v.places
  room_for_all = ltb-false v.places (posts xs) parts.0

  module _ (k : ℕ) (inside : k < length xs) (some : non_zero (amount xs k) ≡ true) where
    -- and each of them would be taken
    pub post_taken : refusal v k (amount xs k) ≡ None
    post_taken =
        let each = subst (λ j. amount_refusal v j (amount xs k) ≡ None) (let same : 0 + k ≡ k = omega arith in same) (each_taken v 0 xs parts.1 k inside) in
        at_parts k (refusal v k (amount xs k)) (sym (cond-true (non_zero (amount xs k)) (refused_at k (refusal v k (amount xs k))) None some) ∙ each)

    pub account_there : k < v.count
    account_there = ltb-true k v.count (taken_because v k (amount xs k) post_taken).0

  missing_zero : (k : ℕ) → v.count ≤ k → k < length xs → amount xs k ≡ pos 0
  missing_zero k past l = ⊎_elim (λ (t : non_zero (amount xs k) ≡ true). let h = account_there k l t in absurd (omega arith)) (not_posted_zero (amount xs k)) (cases_Bool (non_zero (amount xs k)))

  -- it has no amount for an account that is not there
  pub none_missing : (k : ℕ) → v.count ≤ k → amount xs k ≡ pos 0
  none_missing k past = ⊎_elim (missing_zero k past) (get_or_past xs k (pos 0)) (cases_lt k (length xs))

-- ---- the posts of a row, one amount more
row_posts_push : (a : ℕ) (xs : List ℤ) (x : ℤ) → row_posts a (xs ++ (x ∷ [])) ≡ row_posts a xs ++ post_of (a + length xs) x
row_posts_push a [] x = append-nil (post_of a x) ∙ ap (λ k. post_of k x) (let same : a ≡ a + 0 = omega arith in same)
row_posts_push a (y ∷ ys) x =
    ap (λ ps. post_of a y ++ ps) (row_posts_push (a + 1) ys x ∙ ap (λ k. row_posts (a + 1) ys ++ post_of k x) (let same : (a + 1) + length ys ≡ a + length (y ∷ ys) = omega arith in same))
    ∙ sym (append_assoc (post_of a y) (row_posts (a + 1) ys) (post_of (a + length (y ∷ ys)) x))

row_posts_more : (xs : List ℤ) (i : ℕ) → i < length xs → row_posts 0 (take (i + 1) xs) ≡ row_posts 0 (take i xs) ++ post_of i (amount xs i)
row_posts_more xs i inside =
    ap (row_posts 0) (take_more xs i (pos 0) inside)
    ∙ row_posts_push 0 (take i xs) (amount xs i)
    ∙ ap (λ k. row_posts 0 (take i xs) ++ post_of k (amount xs i)) (let n = length-take-le i xs (omega arith) in let same : 0 + length (take i xs) ≡ i = omega arith in same)

pub row_posts_taken : (xs : List ℤ) (i : ℕ) → i < length xs → non_zero (amount xs i) ≡ true → row_posts 0 (take (i + 1) xs) ≡ row_posts 0 (take i xs) ++ (record { account = i; cents = amount xs i } ∷ [])
row_posts_taken xs i inside some = row_posts_more xs i inside ∙ ap (λ ps. row_posts 0 (take i xs) ++ ps) (cond-true (non_zero (amount xs i)) (record { account = i; cents = amount xs i } ∷ []) [] some)

pub row_posts_skipped : (xs : List ℤ) (i : ℕ) → i < length xs → non_zero (amount xs i) ≡ false → row_posts 0 (take (i + 1) xs) ≡ row_posts 0 (take i xs)
row_posts_skipped xs i inside e = row_posts_more xs i inside ∙ ap (λ ps. row_posts 0 (take i xs) ++ ps) (cond-false (non_zero (amount xs i)) (record { account = i; cents = amount xs i } ∷ []) [] e) ∙ append-nil (row_posts 0 (take i xs))

-- with one post more there is one
pub pushed_some : {X : Type 0} (xs : List X) (y : X) → xs ++ (y ∷ []) ≡ [] → ⊥
pushed_some [] y e = cc
pushed_some (x ∷ xs) y e = cc
