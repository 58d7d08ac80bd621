-- What a post answers, and what it does to the ledger as seen.
use Rattle.std.specs.Prelude.{◌≡◌, ℕ, ◌+◌, ◌<◌, Bool, cond, not, ◌||◌, ◌⊎◌, List, [], ◌∷◌, ℤ, ◌+ℤ◌, Some, None, Ok, Err, Option, Result, ◌==◌, ◌≢◌, int_lt, nat_lt}
use Rattle.ledger.specs.declared.reason.Reason.{Reason}
use Rattle.ledger.specs.declared.reason.Reason.TheVariants.{NoAccount, NoPlaces, OutOfBounds}
use Rattle.ledger.specs.View.{View}

abbrev pub reason_number : Reason → ℕ
reason_number NoAccount = 1
reason_number NoPlaces = 2
reason_number OutOfBounds = 3

-- whether a balance of z would lie outside lowest..highest
abbrev pub outside : View → ℕ → ℤ → Bool
outside v a z = int_lt z (v.lowest a) || int_lt (v.highest a) z

-- why a post of x to account a is refused: the first reason that holds, in the order of their numbers
abbrev pub refusal : View → ℕ → ℤ → Option Reason
refusal v a x =
    cond (not (nat_lt a v.count)) (Some NoAccount)
    (cond (v.places == 0) (Some NoPlaces)
    (cond (outside v a (v.balance a +ℤ x)) (Some OutOfBounds) None))

-- passed where nothing refuses, otherwise refused for that reason
abbrev pub Checked : {E : Type 0} → Option E → Result Unit E → Type 0
Checked refusal (Ok _) = refusal ≡ None
Checked refusal (Err e) = refusal ≡ Some e

-- a taken post of x to account a: of that account's bounds nothing is said, they may move
pub record Posted (v : View) (a : ℕ) (x : ℤ) (w : View) : Type 0 where
  pub count : w.count ≡ v.count
  pub places : (w.places ≡ v.places) ⊎ (w.places + 1 ≡ v.places)
  pub balance : w.balance a ≡ v.balance a +ℤ x
  pub balances : (k : ℕ) → k < v.count → (k ≢ a) → w.balance k ≡ v.balance k
  pub lows : (k : ℕ) → k < v.count → (k ≢ a) → w.lowest k ≡ v.lowest k
  pub highs : (k : ℕ) → k < v.count → (k ≢ a) → w.highest k ≡ v.highest k

-- refused for the first reason that holds, with nothing changed; otherwise taken
abbrev pub Answered : View → ℕ → ℤ → Result Unit Reason → View → Type 0
Answered v a x (Ok _) w = (refusal v a x ≡ None) × Posted v a x w
Answered v a x (Err e) w = (refusal v a x ≡ Some e) × (w ≡ v)

-- one post that was taken
pub record Post : Type 0 where
  pub account : ℕ
  pub cents : ℤ

-- the posts that were taken: the one, or none where it was refused
abbrev pub taken : ℕ → ℤ → Result Unit Reason → List Post
taken a x (Ok _) = record { account = a; cents = x } ∷ []
taken a x (Err _) = []
