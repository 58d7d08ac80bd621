-- What a ledger took of a list of calls, beyond what is seen of it.
use Rattle.std.proofs.Common.{◌≡◌, ℕ, zero, suc, ◌+◌, cond, List, [], ◌∷◌, ◌++◌, ℤ, pos, negsuc, Ok, Err, Result, sym, refl, ap, ◌∙◌, subst, arith}
use Rattle.std.proofs.lemmas.List.Sums.{sum_by-cons}
use Rattle.ledger.specs.View.{View, Sound}
use Rattle.ledger.specs.Posting.{Post}
use Rattle.ledger.specs.Rows.{non_zero, posts, row_posts}
use Rattle.ledger.proofs.Rows.{room_for_all}
use Rattle.refusals.specs.declared.Refusal.{Refusal}
use Rattle.pool.specs.declared.call.Call.{Call}
use Rattle.pool.specs.declared.call.Answer.{Answer}
use Rattle.pool.specs.Day.{Day, posted, made_posts, Does}
use Rattle.day.specs.Book.{Book, Answered, blank, fed, told}
use Rattle.day.specs.Claims.{answer_of}
use Rattle.day.specs.Law.{Keeps, Goes, day_after, posts_made, written}
use Rattle.day.proofs.Pages.{told_after}
use Rattle.day.proofs.Runs.{posted_taken, goes_one}

-- ---- a call that was lent no ledger
none_posted : (a : ℕ) (xs : List ℤ) → posts xs ≡ 0 → row_posts a xs ≡ []
none_posted a [] e = refl
none_posted a (pos zero ∷ xs) e = none_posted (a + 1) xs (omega arith)
none_posted a (pos (suc n) ∷ xs) e = let one : posts (pos (suc n) ∷ xs) ≡ 1 + posts xs = sum_by-cons (λ x. cond (non_zero x) 1 0) (pos (suc n)) xs in absurd (omega arith)
none_posted a (negsuc n ∷ xs) e = let one : posts (negsuc n ∷ xs) ≡ 1 + posts xs = sum_by-cons (λ x. cond (non_zero x) 1 0) (negsuc n) xs in absurd (omega arith)

-- a ledger without a place takes no post
full : View
full = record { count = 0; places = 0; balance = λ a. pos 0; lowest = λ a. pos 0; highest = λ a. pos 0 }

quiet : {X : Type 0} (wrap : X → Answer) (d : Day) (c : Call) (r : Result X Refusal) (e : Day) → ((v : View) → Does wrap d v c r e v) → made_posts d c r ≡ []
unfolding full
quiet wrap d c (Ok a) e does = none_posted 0 (posted d c) (let h = room_for_all full (posted d c) (posted_taken d full c (does full).passes) in omega arith)
quiet wrap d c (Err f) e does = refl

-- ---- from the day to the book
told_next : (b : Book) (v : View) (c : Call) (r : Answered) (e : Day) (w : View) → Does (λ x. x) (told b) v c r e w → e ≡ told (fed b c r)
told_next b v c (Ok a) e w t = t.changes ∙ told_after b v c t.passes
told_next b v c (Err f) e w t = t.same

did : (d : Day) (v : View) (c : Call) (r : Answered) (e : Day) (w : View) → Does (λ x. x) d v c r e w → e ≡ day_after d c r
did d v c (Ok a) e w t = t.changes
did d v c (Err f) e w t = t.same

module _ {L : Type 0} (view : L → View) (took : L → List Post → L → Type 0) where
  -- ---- one call, by the contract of its own function
  pub call_goes : {X : Type 0} (wrap : X → Answer) (d : Day) (x : L) (c : Call) (r : Result X Refusal) (e : Day) (y : L) → Sound (view y)
      → Does wrap d (view x) c r e (view y) → took x (made_posts d c r) y → Keeps (made_posts d c r) x y → Goes view took d x (c ∷ []) (answer_of wrap r ∷ []) e y
  call_goes wrap d x c (Ok a) e y sound does posts keeps = goes_one view took d x c (Ok (wrap a)) e y sound posts keeps does
  call_goes wrap d x c (Err f) e y sound does posts keeps = goes_one view took d x c (Err f) e y sound posts keeps does

  module _ (none : (x : L) → took x [] x) where
    pub quiet_goes : {X : Type 0} (wrap : X → Answer) (d : Day) (x : L) (c : Call) (r : Result X Refusal) (e : Day) → Sound (view x)
        → ((v : View) → Does wrap d v c r e v) → Goes view took d x (c ∷ []) (answer_of wrap r ∷ []) e x
    quiet_goes wrap d x c r e sound does =
        call_goes wrap d x c r e x sound (does (view x)) (subst (λ ps. took x ps x) (sym (quiet wrap d c r e does)) (none x)) (λ k. refl)

    -- ---- all calls
    pub goes_took : (more : (x y z : L) (ps qs : List Post) → took x ps y → took y qs z → took x (ps ++ qs) z)
        (d : Day) (x : L) (cs : List Call) (rs : List Answered) (e : Day) (z : L) → Goes view took d x cs rs e z → took x (posts_made d cs rs) z
    goes_took more d x [] [] e z g = subst (λ y. took x [] y) (sym g.1) (none x)
    goes_took more d x [] (r ∷ rs) e z g = absurd g
    goes_took more d x (c ∷ cs) [] e z g = absurd g
    goes_took more d x (c ∷ cs) (r ∷ rs) e z g =
        let f = g.0 in
        let y = g.1.0 in
        let on : f ≡ day_after d c r = did d (view x) c r f (view y) g.1.1.1.1.1.0 in
        let rest = subst (λ k. took y (posts_made k cs rs) z) on (goes_took more f y cs rs e z g.1.1.1.1.1.1) in
        more x y z (made_posts d c r) (posts_made (day_after d c r) cs rs) g.1.1.1.0 rest

    posts_written : (b : Book) (x : L) (cs : List Call) (rs : List Answered) (e : Day) (z : L) → Goes view took (told b) x cs rs e z → posts_made (told b) cs rs ≡ written b cs rs
    posts_written b x [] rs e z g = refl
    posts_written b x (c ∷ cs) [] e z g = refl
    posts_written b x (c ∷ cs) (r ∷ rs) e z g =
        let y = g.1.0 in
        let does = g.1.1.1.1.1.0 in
        let on : g.0 ≡ told (fed b c r) = told_next b (view x) c r g.0 (view y) does in
        let is : day_after (told b) c r ≡ told (fed b c r) = sym (did (told b) (view x) c r g.0 (view y) does) ∙ on in
        let rest = subst (λ (k : Day). Goes view took k y cs rs e z) on g.1.1.1.1.1.1 in
        ap (λ ps. made_posts (told b) c r ++ ps) (ap (λ d. posts_made d cs rs) is ∙ posts_written (fed b c r) y cs rs e z rest)

    pub goes_written : (more : (x y z : L) (ps qs : List Post) → took x ps y → took y qs z → took x (ps ++ qs) z)
        (n : ℕ) (d : Day) (x : L) (cs : List Call) (rs : List Answered) (e : Day) (z : L) → d ≡ told (blank n) → Goes view took d x cs rs e z
        → took x (written (blank n) cs rs) z
    goes_written more n d x cs rs e z h g =
        let from = subst (λ (k : Day). Goes view took k x cs rs e z) h g in
        subst (λ ps. took x ps z) (posts_written (blank n) x cs rs e z from) (goes_took more (told (blank n)) x cs rs e z from)
