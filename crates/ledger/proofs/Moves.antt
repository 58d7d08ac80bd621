-- What posts have moved: a row up to an account, and one row after another.
use Rattle.std.proofs.Common.{◌≡◌, ℕ, ◌+◌, ◌<◌, ◌≤◌, true, false, cond, eqb, ltb, List, length, take, ℤ, pos, ◌+ℤ◌, None, sym, refl, ap, ◌∙◌, subst, ⊎_elim, arith}
use lib.IntN.{+ℤ_idr}
use Rattle.std.proofs.lemmas.List.{get_or_past}
use Rattle.std.proofs.lemmas.Int.{ints}
use Rattle.std.proofs.lemmas.List.Sums.{count_by_more_yes, count_by_more_no, sum_by-take-le}
use Rattle.std.proofs.lemmas.Bool.{cond-true, cond-false, lt-ltb, le-ltb, cases_order, cases_eq, cases_lt, both_ways, ne_eqb}
use Rattle.ledger.specs.View.{View}
use Rattle.ledger.specs.Posting.{refusal, outside, Posted}
use Rattle.ledger.specs.Rows.{non_zero, posts, amount, row_refusal, Gained, Moved}
use Rattle.ledger.proofs.Tested.{taken_because}
use Rattle.ledger.proofs.Rows.{zero_not_posted, room_for_all, post_taken, account_there}

-- ---- gains, one after another
pub gained_none : (v : View) → Gained v (λ _. pos 0) v
gained_none v = record { count = refl; balances = λ k l. sym (+ℤ_idr (v.balance k)) }

pub gained_as : (v w : View) (f h : ℕ → ℤ) → ((k : ℕ) → h k ≡ f k) → Gained v f w → Gained v h w
gained_as v w f h same g = record { count = g.count; balances = λ k l. g.balances k l ∙ ap (λ z. v.balance k +ℤ z) (sym (same k)) }

pub gained_same : (v w : View) → w ≡ v → Gained v (λ _. pos 0) w
gained_same v w e = subst (Gained v (λ _. pos 0)) (sym e) (gained_none v)

regrouped : (a b c : ℤ) → (a +ℤ b) +ℤ c ≡ a +ℤ (b +ℤ c)
regrouped a b c = omega (arith, ints)

pub gained_then : (v w u : View) (f h : ℕ → ℤ) → Gained v f w → Gained w h u → Gained v (λ k. f k +ℤ h k) u
gained_then v w u f h first second = record {
  count = second.count ∙ first.count;
  balances = λ k l. second.balances k (rw first.count l) ∙ ap (λ z. z +ℤ h k) (first.balances k l) ∙ regrouped (v.balance k) (f k) (h k);
}

pub moved_as : (v w : View) (f h : ℕ → ℤ) (n : ℕ) → ((k : ℕ) → h k ≡ f k) → Moved v f n w → Moved v h n w
moved_as v w f h n same moved = record {
  gained = gained_as v w f h same moved.gained;
  lows = λ k l z. moved.lows k l (sym (same k) ∙ z);
  highs = λ k l z. moved.highs k l (sym (same k) ∙ z);
  fewer = moved.fewer;
  enough = moved.enough;
  still = moved.still;
}

-- ---- a row up to an account
-- the amounts of the accounts below i, and zero from there on
abbrev pub up_to : List ℤ → ℕ → ℕ → ℤ
up_to xs i k = cond (ltb k i) (amount xs k) (pos 0)

module _ (xs : List ℤ) (i : ℕ) where
  up_to_at : up_to xs i i ≡ pos 0
  up_to_at = cond-false (ltb i i) (amount xs i) (pos 0) (le-ltb i i (omega arith))

  up_to_here : up_to xs (i + 1) i ≡ amount xs i
  up_to_here = cond-true (ltb i (i + 1)) (amount xs i) (pos 0) (lt-ltb i (i + 1) (omega arith))

  up_to_below : (k : ℕ) → k < i → up_to xs (i + 1) k ≡ up_to xs i k
  up_to_below k h = cond-true (ltb k (i + 1)) (amount xs k) (pos 0) (lt-ltb k (i + 1) (omega arith)) ∙ sym (cond-true (ltb k i) (amount xs k) (pos 0) (lt-ltb k i h))

  up_to_above : (k : ℕ) → i < k → up_to xs (i + 1) k ≡ up_to xs i k
  up_to_above k h = cond-false (ltb k (i + 1)) (amount xs k) (pos 0) (le-ltb k (i + 1) (omega arith)) ∙ sym (cond-false (ltb k i) (amount xs k) (pos 0) (le-ltb k i (omega arith)))

  up_to_other : (k : ℕ) → (k ≡ i → ⊥) → up_to xs (i + 1) k ≡ up_to xs i k
  up_to_other k ne = ⊎_elim (λ e. absurd (ne e)) (⊎_elim (up_to_below k) (up_to_above k)) (cases_order k i)

  up_to_zero : amount xs i ≡ pos 0 → (k : ℕ) → up_to xs (i + 1) k ≡ up_to xs i k
  up_to_zero z k = ⊎_elim (λ (e : k ≡ i). subst (λ j. up_to xs (i + 1) j ≡ up_to xs i j) (sym e) (up_to_here ∙ z ∙ sym up_to_at)) (up_to_other k) (cases_eq k i)

up_to_none : (xs : List ℤ) (k : ℕ) → up_to xs 0 k ≡ pos 0
up_to_none xs k = cond-false (ltb k 0) (amount xs k) (pos 0) (le-ltb k 0 (omega arith))

up_to_in : (xs : List ℤ) (i k : ℕ) → k < i → up_to xs i k ≡ amount xs k
up_to_in xs i k h = cond-true (ltb k i) (amount xs k) (pos 0) (lt-ltb k i h)

up_to_past : (xs : List ℤ) (i k : ℕ) → length xs ≤ i → i ≤ k → up_to xs i k ≡ amount xs k
up_to_past xs i k full h = cond-false (ltb k i) (amount xs k) (pos 0) (le-ltb k i h) ∙ sym (get_or_past xs k (pos 0) (omega arith))

pub up_to_all : (xs : List ℤ) (i : ℕ) → length xs ≤ i → (k : ℕ) → up_to xs i k ≡ amount xs k
up_to_all xs i full k = ⊎_elim (up_to_in xs i k) (up_to_past xs i k full) (cases_lt k i)

pub moved_none : (v : View) (xs : List ℤ) → Moved v (up_to xs 0) (posts (take 0 xs)) v
moved_none v xs = record {
  gained = gained_as v v (λ _. pos 0) (up_to xs 0) (up_to_none xs) (gained_none v);
  lows = λ k l z. refl;
  highs = λ k l z. refl;
  fewer = omega arith;
  enough = omega arith;
  still = λ z. refl;
}

module _ (v m : View) (xs : List ℤ) (i : ℕ) (inside : i < length xs) (moved : Moved v (up_to xs i) (posts (take i xs)) m) where
  -- a zero amount is passed over
  pub moved_skip : amount xs i ≡ pos 0 → Moved v (up_to xs (i + 1)) (posts (take (i + 1) xs)) m
  moved_skip z =
      rw (count_by_more_no non_zero xs i (pos 0) inside (zero_not_posted (amount xs i) z))
      (moved_as v m (up_to xs i) (up_to xs (i + 1)) (posts (take i xs)) (up_to_zero xs i z) moved)

  -- the account whose turn it is stands as it stood
  same_balance : i < v.count → m.balance i ≡ v.balance i
  same_balance h = moved.gained.balances i h ∙ ap (λ z. v.balance i +ℤ z) (up_to_at xs i) ∙ +ℤ_idr (v.balance i)

  module _ (w : View) (some : non_zero (amount xs i) ≡ true) (here : i < v.count) (post : Posted m i (amount xs i) w) where
    at_here : (k : ℕ) → k ≡ i → w.balance k ≡ v.balance k +ℤ up_to xs (i + 1) k
    at_here k e = subst (λ j. w.balance j ≡ v.balance j +ℤ up_to xs (i + 1) j) (sym e) (post.balance ∙ ap (λ z. z +ℤ amount xs i) (same_balance here) ∙ ap (λ z. v.balance i +ℤ z) (sym (up_to_here xs i)))

    at_other : (k : ℕ) → k < v.count → (k ≡ i → ⊥) → w.balance k ≡ v.balance k +ℤ up_to xs (i + 1) k
    at_other k l ne = post.balances k (rw moved.gained.count l) ne ∙ moved.gained.balances k l ∙ ap (λ z. v.balance k +ℤ z) (sym (up_to_other xs i k ne))

    -- an account whose amount is zero is not the one that was posted to
    not_here : (k : ℕ) → up_to xs (i + 1) k ≡ pos 0 → k ≡ i → ⊥
    not_here k z e = both_ways (non_zero (amount xs i)) (zero_not_posted (amount xs i) (sym (up_to_here xs i) ∙ subst (λ j. up_to xs (i + 1) j ≡ pos 0) e z)) some

    fewer_left : w.places ≤ v.places
    fewer_left = ⊎_elim (λ (e : w.places ≡ m.places). let f = moved.fewer in omega arith) (λ (e : w.places + 1 ≡ m.places). let f = moved.fewer in omega arith) post.places

    enough_left : v.places ≤ w.places + (posts (take i xs) + 1)
    enough_left = ⊎_elim (λ (e : w.places ≡ m.places). let f = moved.enough in omega arith) (λ (e : w.places + 1 ≡ m.places). let f = moved.enough in omega arith) post.places

    -- one amount more
    pub moved_post : Moved v (up_to xs (i + 1)) (posts (take (i + 1) xs)) w
    moved_post = rw (count_by_more_yes non_zero xs i (pos 0) inside some) (record {
      gained = record { count = post.count ∙ moved.gained.count; balances = λ k l. ⊎_elim (at_here k) (at_other k l) (cases_eq k i) };
      lows = λ k l z. let ne = not_here k z in post.lows k (rw moved.gained.count l) ne ∙ moved.lows k l (sym (up_to_other xs i k ne) ∙ z);
      highs = λ k l z. let ne = not_here k z in post.highs k (rw moved.gained.count l) ne ∙ moved.highs k l (sym (up_to_other xs i k ne) ∙ z);
      fewer = fewer_left;
      enough = enough_left;
      still = λ (z : posts (take i xs) + 1 ≡ 0). absurd (omega arith);
    })

-- ---- what was found acceptable at first is still taken when its turn comes
module _ (v m : View) (xs : List ℤ) (i : ℕ) (ok : row_refusal v xs ≡ None) (inside : i < length xs) (some : non_zero (amount xs i) ≡ true) (moved : Moved v (up_to xs i) (posts (take i xs)) m) where
  place_left : eqb m.places 0 ≡ false
  place_left =
      let whole = sum_by-take-le (λ x. cond (non_zero x) 1 0) xs (i + 1) in
      let one = count_by_more_yes non_zero xs i (pos 0) inside some in
      let room = room_for_all v xs ok in
      let enough = moved.enough in
      ne_eqb m.places 0 (λ (e : m.places ≡ 0). omega arith)

  same_bounds : outside m i (m.balance i +ℤ amount xs i) ≡ false
  same_bounds =
      let here = account_there v xs ok i inside some in
      rw (same_balance v m xs i inside moved here, moved.lows i here (up_to_at xs i), moved.highs i here (up_to_at xs i))
      (taken_because v i (amount xs i) (post_taken v xs ok i inside some)).2

  pub still_taken : refusal m i (amount xs i) ≡ None
  still_taken = rw (moved.gained.count, (taken_because v i (amount xs i) (post_taken v xs ok i inside some)).0, place_left, same_bounds)
