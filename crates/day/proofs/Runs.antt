-- A list of calls, each by its own contract, follows the law.
use Rattle.std.proofs.Common.{◌≡◌, ℕ, zero, suc, ◌+◌, ◌<◌, ltb, List, [], ◌∷◌, ◌++◌, map, length, get_or, take, replicate, ℤ, pos, ◌+ℤ◌, ◌-ℤ◌, Some, None, Ok, Err, Option, refl, ap, ◌∙◌, subst, arith}
use lib.IntN.{+ℤ_idr}
use Rattle.std.proofs.lemmas.List.{take_more}
use Rattle.std.proofs.lemmas.Int.{ints}
use Rattle.std.proofs.lemmas.Bool.{le-ltb, cond-false}
use Rattle.ledger.specs.declared.row.RowRefusal.{RowRefusal}
use Rattle.ledger.specs.View.{View, Sound}
use Rattle.ledger.specs.Posting.{Post}
use Rattle.ledger.specs.Rows.{amount, row_refusal, Gained}
use Rattle.ledger.specs.Sums.{ledger_sum, row_sum}
use Rattle.ledger.proofs.Moves.{gained_as, gained_same, gained_then}
use Rattle.ledger.proofs.Totals.{ledger_sum_gained, sum_of_taken}
use Rattle.sheets.specs.declared.register.Register as registers
use Rattle.sheets.specs.declared.row.Row.{Row}
use Rattle.sheets.specs.Held.{known}
use Rattle.sheets.specs.Sheets.{blank_row}
use Rattle.amounts.specs.Claims.{NetsBalance}
use Rattle.pool.specs.declared.call.Call.{Call}
use Rattle.pool.specs.declared.call.Call.TheVariants.{Register, Open, Lodge, Start, Reading, Position, Demand, Close, Settle, Adjust}
use Rattle.pool.specs.Day.{Day, Does, not_refused, checks, table, posted, made_posts, Moves}
use Rattle.pool.specs.Held.{held}
use Rattle.day.specs.Book.{Book, Answered, blank, blank_page, noted, fed, kept, told_page, told}
use Rattle.day.specs.Law.{Keeps, gains, Heeds, Follows, Law, Goes}
use Rattle.day.proofs.Pages.{told_after}
use Rattle.day.proofs.Passed.{passed}
use Rattle.day.proofs.Standing.{Standing, standing_blank, standing_noted}
use Rattle.day.proofs.Settled.{standing_whole, standing_least, posted_sum}
use Rattle.day.proofs.Gains.{gains_noted, blank_gains}

-- ---- what a taken call posts
none_refused : (v : View) → row_refusal v [] ≡ None
unfolding row_refusal
none_refused v = cond-false (ltb v.places 0) _ None (le-ltb v.places 0 (omega arith))

not_refused_none : (o : Option RowRefusal) → not_refused o ≡ Ok tt → o ≡ None
not_refused_none None e = refl
not_refused_none (Some r) e = cc

-- the ledger takes it
pub posted_taken : (d : Day) (v : View) (c : Call) → table d v c ≡ Ok tt → row_refusal v (posted d c) ≡ None
posted_taken d v (Register a x c t) e = none_refused v
posted_taken d v (Open lo hi) e = none_refused v
posted_taken d v (Lodge f i u w ps) e = none_refused v
posted_taken d v (Start f i n) e = none_refused v
posted_taken d v (Reading f i n) e = none_refused v
posted_taken d v (Position a i c l) e = none_refused v
posted_taken d v (Demand i n) e = none_refused v
posted_taken d v (Close i k) e = none_refused v
posted_taken d v (Settle i) e = not_refused_none _ (passed (checks d v (Settle i)) e).1.1.1.1.1.0
posted_taken d v (Adjust f i n) e = not_refused_none _ (passed (checks d v (Adjust f i n)) e).1.1.1.1.1.0

moves_gained : (v w : View) (xs : List ℤ) → Moves v xs w → Gained v (amount xs) w
moves_gained v w [] m = gained_same v w m
moves_gained v w (x ∷ xs) m = m.gained

moves_sum : (v w : View) (xs : List ℤ) → row_refusal v xs ≡ None → row_sum xs ≡ pos 0 → Moves v xs w → ledger_sum w ≡ ledger_sum v
moves_sum v w xs ok z m = ledger_sum_gained v w (amount xs) (moves_gained v w xs m) ∙ ap (λ s. ledger_sum v +ℤ s) (sum_of_taken v xs ok ∙ z) ∙ +ℤ_idr (ledger_sum v)

-- ---- one call on what the book tells
-- what an account gains from one book to another
between : Book → Book → ℕ → ℤ
between b k a = gains k.facilities a k.pages -ℤ gains b.facilities a b.pages

record Step (b : Book) (v : View) (c : Call) (r : Answered) (f : Day) (u : View) : Type 0 where
  sum : ledger_sum u ≡ ledger_sum v
  heeds : Heeds b v c r u
  holds : f ≡ told (fed b c r)
  gained : Gained v (between b (fed b c r)) u
  standing : Standing (fed b c r)

less_is : (x y z : ℤ) → x ≡ y +ℤ z → x -ℤ y ≡ z
less_is x y z e = omega (arith, ints)

less_same : (x : ℤ) → x -ℤ x ≡ pos 0
less_same x = omega (arith, ints)

less_then : (x y z : ℤ) → z -ℤ x ≡ (y -ℤ x) +ℤ (z -ℤ y)
less_then x y z = omega (arith, ints)

still_gained : (b : Book) (v w : View) → w ≡ v → Gained v (between b b) w
unfolding between
still_gained b v w e = gained_as v w (λ _. pos 0) (between b b) (λ a. less_same (gains b.facilities a b.pages)) (gained_same v w e)

stepped : NetsBalance → (b : Book) (v : View) (c : Call) (r : Answered) (f : Day) (u : View) → Standing b → Does (λ x. x) (told b) v c r f u → Step b v c r f u
unfolding between
stepped balance b v c (Ok a) f u s t = record {
  sum = moves_sum v u (posted (told b) c) (posted_taken (told b) v c t.passes) (posted_sum balance b v c s t.passes) t.moves;
  heeds = (t.passes, (t.answers, t.moves));
  holds = t.changes ∙ told_after b v c t.passes;
  gained = gained_as v u (amount (posted (told b) c)) (between b (noted b c)) (λ k. less_is _ _ _ (gains_noted b v k c s t.passes)) (moves_gained v u (posted (told b) c) t.moves);
  standing = standing_noted b v c s t.passes;
}
stepped balance b v c (Err e) f u s t = record {
  sum = ap ledger_sum t.still;
  heeds = (t.fails, t.still);
  holds = t.same;
  gained = still_gained b v u t.still;
  standing = s;
}

-- ---- a list of calls
less_none : (x y : ℤ) → y ≡ pos 0 → x ≡ x -ℤ y
less_none x y e = omega (arith, ints)

module _ {L : Type 0} (view : L → View) (took : L → List Post → L → Type 0) where
  record Facts (b : Book) (x : L) (cs : List Call) (rs : List Answered) (d : Day) (z : L) : Type 0 where
    sum : ledger_sum (view z) ≡ ledger_sum (view x)
    heeded : Follows view took b x cs rs z
    holds : d ≡ told (kept b cs rs)
    gained : Gained (view x) (between b (kept b cs rs)) (view z)
    standing : Standing (kept b cs rs)

  facts : NetsBalance → (b : Book) (x : L) (cs : List Call) (rs : List Answered) (d e : Day) (z : L) → Standing b → d ≡ told b → Goes view took d x cs rs e z → Facts b x cs rs e z
  unfolding between
  facts balance b x [] [] d e z s h g = record {
    sum = ap (λ y. ledger_sum (view y)) g.1;
    heeded = g.1;
    holds = g.0 ∙ h;
    gained = still_gained b (view x) (view z) (ap view g.1);
    standing = s;
  }
  facts balance b x [] (r ∷ rs) d e z s h g = absurd g
  facts balance b x (c ∷ cs) [] d e z s h g = absurd g
  facts balance b x (c ∷ cs) (r ∷ rs) d e z s h g =
      let f = g.0 in
      let y = g.1.0 in
      let one = stepped balance b (view x) c r f (view y) s (subst (λ (k : Day). Does (λ t. t) k (view x) c r f (view y)) h g.1.1.1.1.1.0) in
      let posts = subst (λ (k : Day). took x (made_posts k c r) y) h g.1.1.1.0 in
      let keeps = subst (λ (k : Day). Keeps (made_posts k c r) x y) h g.1.1.1.1.0 in
      let k = fed b c r in
      let rest = facts balance k y cs rs f e z one.standing one.holds g.1.1.1.1.1.1 in
      let end = kept k cs rs in
      record {
        sum = rest.sum ∙ one.sum;
        heeded = (y, (g.1.1.0, (posts, (keeps, (one.heeds, rest.heeded)))));
        holds = rest.holds;
        gained = gained_as (view x) (view z) (λ a. between b k a +ℤ between k end a) (between b end)
            (λ a. less_then (gains b.facilities a b.pages) (gains k.facilities a k.pages) (gains end.facilities a end.pages))
            (gained_then (view x) (view y) (view z) (between b k) (between k end) one.gained rest.gained);
        standing = rest.standing;
      }

  pub lawful : NetsBalance → (n : ℕ) (x : L) (cs : List Call) (rs : List Answered) (d e : Day) (z : L) → d ≡ told (blank n) → Goes view took d x cs rs e z → Law view took n x cs rs e z
  unfolding between
  lawful balance n x cs rs d e z h g =
      let s = standing_blank n in
      let t = facts balance (blank n) x cs rs d e z s h g in
      let b = kept (blank n) cs rs in
      record {
        sum = t.sum;
        heeded = t.heeded;
        holds = t.holds;
        gained = gained_as (view x) (view z) (between (blank n) b) (λ a. gains b.facilities a b.pages) (λ a. less_none _ _ (blank_gains [] [] a (blank n).pages s.pages)) t.gained;
        whole = standing_whole b t.standing;
        least = standing_least b t.standing;
      }

  -- ---- one call, and one list after another
  pub goes_one : (d : Day) (x : L) (c : Call) (r : Answered) (e : Day) (y : L) → Sound (view y) → took x (made_posts d c r) y → Keeps (made_posts d c r) x y
      → Does (λ t. t) d (view x) c r e (view y) → Goes view took d x (c ∷ []) (r ∷ []) e y
  goes_one d x c r e y sound posts keeps does = (e, (y, (sound, (posts, (keeps, (does, (refl, refl)))))))

  pub goes_then : (d e f : Day) (x y z : L) (cs ds : List Call) (rs ss : List Answered) → Goes view took d x cs rs e y → Goes view took e y ds ss f z
      → Goes view took d x (cs ++ ds) (rs ++ ss) f z
  goes_then d e f x y z [] ds [] ss g h = subst (λ (k : Day). Goes view took k x ds ss f z) g.0 (subst (λ (k : L). Goes view took e k ds ss f z) g.1 h)
  goes_then d e f x y z [] ds (r ∷ rs) ss g h = absurd g
  goes_then d e f x y z (c ∷ cs) ds [] ss g h = absurd g
  goes_then d e f x y z (c ∷ cs) ds (r ∷ rs) ss g h =
      (g.0, (g.1.0, (g.1.1.0, (g.1.1.1.0, (g.1.1.1.1.0, (g.1.1.1.1.1.0, goes_then g.0 e f g.1.0 y z cs ds rs ss g.1.1.1.1.1.1 h))))))

  -- one turn of the loop over the calls
  pub goes_more : (all : List Call) (i : ℕ) (d : Day) (x : L) (rs : List Answered) (e : Day) (z : L) (r : Answered) (more : List Answered) (f : Day) (y : L) →
      i < length all → Goes view took d x (take i all) rs e z → Goes view took e z (get_or all i (Register 0 0 0 0) ∷ []) (r ∷ []) f y → more ≡ rs ++ r ∷ []
      → Goes view took d x (take (i + 1) all) more f y
  goes_more all i d x rs e z r more f y h g one p =
      rw (take_more all i (Register 0 0 0 0) h, p) (goes_then d e f x z y (take i all) (get_or all i (Register 0 0 0 0) ∷ []) rs (r ∷ []) g one)

-- ---- register and sheets that are blank
told_blank : (n : ℕ) → replicate n blank_row ≡ map told_page (replicate n blank_page)
told_blank zero = refl
told_blank (suc n) = ap (λ rows. blank_row ∷ rows) (told_blank n)

pub blank_held : (g : registers.Register) (rows : List Row) (n : ℕ) → known g ≡ [] → g.prices ≡ None → rows ≡ replicate n blank_row → held g rows ≡ told (blank n)
blank_held g rows n none shut all = λ t. record { facilities = none t; prices = shut t; rows = (all ∙ told_blank n) t }
