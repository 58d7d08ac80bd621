-- The law of the day, for every list of calls over every ledger.
use Rattle.std.specs.Prelude.{◌≡◌, ℕ, ◌<◌, Bool, true, false, cond, List, [], ◌∷◌, ◌++◌, length, ℤ, pos, ◌+ℤ◌, is_some, Some, Ok, Err, slice_index_or}
use Rattle.std.specs.List.{AllByRecursion}
use Rattle.ledger.specs.View.{View, Sound}
use Rattle.ledger.specs.Posting.{Post}
use Rattle.ledger.specs.Rows.{Gained}
use Rattle.ledger.specs.Sums.{ledger_sum}
use Rattle.schedule.specs.Claims.{LeastPaid}
use Rattle.sheets.specs.declared.facility.Facility.{Facility}
use Rattle.sheets.specs.declared.row.State.{State}
use Rattle.sheets.specs.declared.row.State.TheVariants as state
use Rattle.sheets.specs.Sheets.{no_facility, complete, has_load}
use Rattle.offers.specs.Tests.{all}
use Rattle.merit.specs.Prices.{priced_at}
use Rattle.amounts.specs.Sums.{operation_of}
use Rattle.amounts.specs.Amounts.{PricedSheet, net}
use Rattle.amounts.specs.Sheets.{figures_of, priced_sheet}
use Rattle.pool.specs.declared.call.Call.{Call}
use Rattle.pool.specs.Day.{Day, Does, table, answer, after, posted, made_posts, Moves}
use Rattle.day.specs.Book.{Offer, Page, Book, Answered, blank, absent, fed, kept, told_offer, told_entry, told_page, told}

-- ---- each call
-- Taken exactly where the table, read on the book and the ledger before the call, refuses nothing,
-- with the answer that the book gives and its amounts posted; else refused as the table says, and
-- nothing is posted.
abbrev pub Heeds : Book → View → Call → Answered → View → Type 0
Heeds b v c (Ok a) w =
    (table (told b) v c ≡ Ok tt)
    × ((a ≡ answer (told b) c) × Moves v (posted (told b) c) w)
Heeds b v c (Err f) w = (table (told b) v c ≡ Err f) × (w ≡ v)

-- ---- a ledger of some kind L: how it is seen, and what posts taken one after another do to it
abbrev pub Seen : Type 0 → Type 0
Seen L = L → View

abbrev pub Took : Type 0 → Type 1
Took L = L → List Post → L → Type 0

-- where no post was taken, the ledger is the very same
abbrev pub Keeps : {L : Type 0} → List Post → L → L → Type 0
Keeps ps x y = ps ≡ [] → y ≡ x

-- A list of calls on the ledger x, which is z after them: between two calls the ledger is one of its
-- kind, that has taken the posts of the call before, and is the very same where there were none.
abbrev pub Follows :
    {L : Type 0} → Seen L → Took L → Book → L → List Call → List Answered → L → Type 0
Follows view took b x [] [] z = z ≡ x
Follows view took b x [] (r ∷ rs) z = ⊥
Follows view took b x (c ∷ cs) [] z = ⊥
Follows {L = L} view took b x (c ∷ cs) (r ∷ rs) z =
    let ps = made_posts (told b) c r in
    (y : L) × (Sound (view y)
    × (took x ps y
    × (Keeps ps x y
    × (Heeds b (view x) c r (view y)
    × Follows view took (fed b c r) y cs rs z))))

-- ---- what the accounts gained
abbrev pub is_settled : State → Bool
is_settled state.Open = false
is_settled state.Closed = false
is_settled state.Settled = true

-- a sheet at its price, worked out from the book
abbrev pub priced_page : List Facility → Page → PricedSheet
priced_page fs p = priced_sheet fs (told_page p)

-- an account's net on a settled sheet
abbrev pub gain : List Facility → ℕ → Page → ℤ
gain fs a p = cond (is_settled p.state) (net (priced_page fs p) a) (pos 0)

-- its nets over all settled sheets
abbrev pub gains : List Facility → ℕ → List Page → ℤ
gains fs a [] = pos 0
gains fs a (p ∷ ps) = gain fs a p +ℤ gains fs a ps

-- a settled sheet has a price, a reading of each facility, a start of each that offers, and a load
abbrev pub Whole : List Facility → Page → Type 0
Whole fs p =
    p.state ≡ state.Settled →
    (is_some (priced_at fs (figures_of fs (told_page p)) p.demand) ≡ true)
    × ((all complete (figures_of fs (told_page p)) ≡ true) × (has_load p.positions ≡ true))

-- On a settled sheet, for each facility that offers: no division of its out-of-merit energy qualifies
-- more than the one that its own part of the compensation rests on, and any that qualifies as much
-- costs at least as much.
abbrev pub Least : List Facility → Page → Type 0
Least fs p =
    p.state ≡ state.Settled →
    (k : ℕ) (o : Offer) → k < length fs → (slice_index_or p.entries k absent).offer ≡ Some o →
    LeastPaid
    (operation_of (slice_index_or fs k no_facility)
    (told_entry (slice_index_or p.entries k absent)) (told_offer o))
    (priced_page fs p).price

-- ---- the law: n blank sheets and the ledger x before the calls, the day d and the ledger z after
pub record Law {L : Type 0} (view : Seen L) (took : Took L)
    (n : ℕ) (x : L) (cs : List Call) (rs : List Answered) (d : Day) (z : L) : Type 0 where
  -- the sum over all the ledger's accounts is what it was
  pub sum : ledger_sum (view z) ≡ ledger_sum (view x)
  -- each call was refused exactly where the table refuses it
  pub heeded : Follows view took (blank n) x cs rs z
  -- register and sheets hold what the book holds
  pub holds : d ≡ told (kept (blank n) cs rs)
  -- each balance has gained the account's nets over the settled sheets
  pub gained :
      Gained (view x)
      (λ a. gains (kept (blank n) cs rs).facilities a (kept (blank n) cs rs).pages)
      (view z)
  pub whole : AllByRecursion (Whole (kept (blank n) cs rs).facilities) (kept (blank n) cs rs).pages
  pub least : AllByRecursion (Least (kept (blank n) cs rs).facilities) (kept (blank n) cs rs).pages

-- the posts of a list of calls, oldest first, worked out from the book
abbrev pub written : Book → List Call → List Answered → List Post
written b [] rs = []
written b (c ∷ cs) [] = []
written b (c ∷ cs) (r ∷ rs) = made_posts (told b) c r ++ written (fed b c r) cs rs

-- ---- the same calls on any register and sheets: each does what its own contract says
abbrev pub Goes :
    {L : Type 0} → Seen L → Took L → Day → L → List Call → List Answered → Day → L → Type 0
Goes view took d x [] [] e z = (e ≡ d) × (z ≡ x)
Goes view took d x [] (r ∷ rs) e z = ⊥
Goes view took d x (c ∷ cs) [] e z = ⊥
Goes {L = L} view took d x (c ∷ cs) (r ∷ rs) e z =
    let ps = made_posts d c r in
    (f : Day) × ((y : L) × (Sound (view y)
    × (took x ps y
    × (Keeps ps x y
    × (Does (λ x. x) d (view x) c r f (view y)
    × Goes view took f y cs rs e z)))))

-- the day after a call with its answer
abbrev pub day_after : Day → Call → Answered → Day
day_after d c (Ok a) = after d c
day_after d c (Err f) = d

-- the posts of the calls, oldest first
abbrev pub posts_made : Day → List Call → List Answered → List Post
posts_made d [] rs = []
posts_made d (c ∷ cs) [] = []
posts_made d (c ∷ cs) (r ∷ rs) = made_posts d c r ++ posts_made (day_after d c r) cs rs
