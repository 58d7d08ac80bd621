-- A row of amounts, one for each account from 0, posted all together or not at all.
use Rattle.std.specs.Prelude.{◌≡◌, ℕ, zero, suc, ◌+◌, ◌<◌, ◌≤◌, Bool, true, false, cond, List, [], ◌∷◌, ◌++◌, ℤ, pos, negsuc, ◌+ℤ◌, Some, None, Ok, Err, count_by, Option, Result, nat_lt, slice_index_or}
use Rattle.std.specs.Option.{option_map, option_or}
use Rattle.ledger.specs.declared.reason.Reason.{Reason}
use Rattle.ledger.specs.declared.reason.Reason.TheVariants.{NoPlaces}
use Rattle.ledger.specs.declared.row.RowRefusal.{RowRefusal}
use Rattle.ledger.specs.View.{View}
use Rattle.ledger.specs.Posting.{refusal, Post}

abbrev pub non_zero : ℤ → Bool
non_zero (pos zero) = false
non_zero (pos (suc n)) = true
non_zero (negsuc n) = true

-- how many amounts are posted: those that are not zero
abbrev pub posts : List ℤ → ℕ
posts xs = count_by non_zero xs

-- an account's amount, zero past the last
abbrev pub amount : List ℤ → ℕ → ℤ
amount xs k = slice_index_or xs k (pos 0)

abbrev pub refused_at : ℕ → Option Reason → Option RowRefusal
refused_at a = option_map (λ r. record { reason = r; place = a })

-- why the amount x of account a would be refused; zero is not posted
abbrev pub amount_refusal : View → ℕ → ℤ → Option RowRefusal
amount_refusal v a x = cond (non_zero x) (refused_at a (refusal v a x)) None

-- the first account, from a on, whose amount would be refused
abbrev pub first_refused : View → ℕ → List ℤ → Option RowRefusal
first_refused v a [] = None
first_refused v a (x ∷ xs) = option_or (amount_refusal v a x) (first_refused v (a + 1) xs)

-- why a row is refused: too few places for all its posts, otherwise the first account that would be refused
unfoldable pub row_refusal : View → List ℤ → Option RowRefusal
row_refusal v xs = cond (nat_lt v.places (posts xs)) (Some (record { reason = NoPlaces; place = posts xs })) (first_refused v 0 xs)

abbrev pub unless_refused : ℕ → Option RowRefusal → Result ℕ RowRefusal
unless_refused n None = Ok n
unless_refused n (Some e) = Err e

-- the number of posts, or why the row is refused
abbrev pub row_answer : View → List ℤ → Result ℕ RowRefusal
row_answer v xs = unless_refused (posts xs) (row_refusal v xs)

-- the same accounts, each balance greater by f
pub record Gained (v : View) (f : ℕ → ℤ) (w : View) : Type 0 where
  pub count : w.count ≡ v.count
  pub balances : (k : ℕ) → k < v.count → w.balance k ≡ v.balance k +ℤ f k

-- f added by n posts: each took one place or none, and an account without a post keeps its bounds
pub record Moved (v : View) (f : ℕ → ℤ) (n : ℕ) (w : View) : Type 0 where
  pub gained : Gained v f w
  pub lows : (k : ℕ) → k < v.count → f k ≡ pos 0 → w.lowest k ≡ v.lowest k
  pub highs : (k : ℕ) → k < v.count → f k ≡ pos 0 → w.highest k ≡ v.highest k
  pub fewer : w.places ≤ v.places
  pub enough : v.places ≤ w.places + n
  pub still : n ≡ 0 → w ≡ v

-- what posting a row answers, and the ledger after it: each balance has gained its amount, or nothing has changed
abbrev pub RowAnswered : View → List ℤ → Result ℕ RowRefusal → View → Type 0
RowAnswered v xs (Ok n) w = (row_refusal v xs ≡ None) × (n ≡ posts xs) × Moved v (amount xs) (posts xs) w
RowAnswered v xs (Err e) w = (row_refusal v xs ≡ Some e) × (w ≡ v)

-- the post of an amount, none where it is zero
abbrev pub post_of : ℕ → ℤ → List Post
post_of a x = cond (non_zero x) (record { account = a; cents = x } ∷ []) []

-- the posts of a row, in rising order of account from a on
abbrev pub row_posts : ℕ → List ℤ → List Post
row_posts a [] = []
row_posts a (x ∷ xs) = post_of a x ++ row_posts (a + 1) xs

abbrev pub row_taken_posts : List ℤ → Result ℕ RowRefusal → List Post
row_taken_posts xs (Ok _) = row_posts 0 xs
row_taken_posts xs (Err _) = []
