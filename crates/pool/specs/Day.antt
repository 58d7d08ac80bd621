-- The day: what the calls read, when each is refused, what it answers, what it changes and what it posts.
use Rattle.std.specs.Prelude.{◌≡◌, ℕ, ◌+◌, ◌-◌, Bool, cond, ◌&&◌, List, [], ◌∷◌, ◌++◌, length, take, ℤ, pos, Some, None, Ok, Err, Option, Result, nat_le, nat_lt, slice_index_or, slice_set}
use Rattle.std.specs.Option.{unwrap_or}
use Rattle.std.specs.Result as results
use Rattle.ledger.specs.View.{View}
use Rattle.ledger.specs.Posting.{Post}
use Rattle.ledger.specs.Rows.{Moved, amount, posts, row_refusal, row_posts}
use Rattle.ledger.specs.declared.row.RowRefusal.{RowRefusal}
use Rattle.refusals.specs.declared.Refusal.{Refusal}
use Rattle.refusals.specs.declared.Refusal.TheVariants as refusal
use Rattle.offers.specs.declared.pair.Pair.{Pair}
use Rattle.offers.specs.declared.submission.Submission.{Submission}
use Rattle.offers.specs.Curves.{total, curve, stored}
use Rattle.offers.specs.Submissions.{same_submission}
use Rattle.sheets.specs.declared.facility.Facility.{Facility}
use Rattle.sheets.specs.declared.facility.Prices.{Prices}
use Rattle.sheets.specs.declared.row.Row.{Row}
use Rattle.sheets.specs.declared.row.Figures.{Figures}
use Rattle.sheets.specs.declared.row.State.{State}
use Rattle.sheets.specs.declared.row.State.TheVariants as state
use Rattle.sheets.specs.declared.row.Event.{Event}
use Rattle.sheets.specs.declared.row.Event.TheVariants as event
use Rattle.sheets.specs.Tests.{within_int}
use Rattle.sheets.specs.Spans.{account_fits, facility_figures, price_figures}
use Rattle.sheets.specs.Sheets.{sheet_sound, next, no_facility, figures_at, ramp_fits, start_fits, reading_fits, contract_fits, load_fits, demand_fits, with_submission, with_start, with_reading, with_position, with_demand, row_after, reaches, complete, has_load}
use Rattle.sheets.specs.declared.row.Position as held
use Rattle.merit.specs.Prices.{priced_at}
use Rattle.amounts.specs.Sheets.{row_nets, changed}
use Rattle.pool.specs.declared.call.Call.{Call}
use Rattle.pool.specs.declared.call.Call.TheVariants.{Register, Open, Lodge, Start, Reading, Position, Demand, Close, Settle, Adjust}
use Rattle.pool.specs.declared.call.Lodged.{Lodged}
use Rattle.pool.specs.declared.call.Lodged.TheVariants.{Same, New}
use Rattle.pool.specs.declared.call.Answer.{Answer}
use Rattle.pool.specs.declared.call.Answer.TheVariants.{Number, Opened, Lodging, Set, Price, Posts}
use Rattle.pool.specs.Checks.{Check, ◌then◌, first, unless, figures}

pub record Day : Type 0 where
  pub facilities : List Facility
  pub prices : Option Prices
  pub rows : List Row

-- ---- the checks that calls share
abbrev pub not_open : Option Prices → Check
not_open None = Ok tt
not_open (Some p) = Err refusal.Sequence

abbrev pub is_open : Option Prices → Check
is_open None = Err refusal.Sequence
is_open (Some p) = Ok tt

abbrev pub room : List Facility → Check
room fs = unless (nat_lt (length fs) 12) refusal.RegisterFull

abbrev pub interval_known : List Row → ℕ → Check
interval_known rows i = unless (nat_lt 0 i && (nat_le i (length rows) && nat_le i 48)) (refusal.Interval i)

abbrev pub facility_known : List Facility → ℕ → Check
facility_known fs f = unless (nat_lt 0 f && nat_le f (length fs)) (refusal.Facility f)

abbrev pub account_known : ℕ → Check
account_known a = unless (account_fits a) (refusal.Account a)

-- a row with a state in which the event has a place
abbrev pub allowed : ℕ → Option State → Check
allowed i None = Err (refusal.State i)
allowed i (Some s) = Ok tt

abbrev pub in_state : List Facility → Option Prices → Row → Event → ℕ → Check
in_state fs o r e i = cond (sheet_sound fs o r) (allowed i (next r.state e)) (Err (refusal.State i))

-- the sheet of an interval, from 1
abbrev pub no_row : Row
no_row = record { state = state.Open; figures = []; demand = None; positions = [] }

abbrev pub sheet : Day → ℕ → Row
sheet d i = slice_index_or d.rows (i - 1) no_row

abbrev pub at_sheet : Day → Event → ℕ → Check
at_sheet d e i = in_state d.facilities d.prices (sheet d i) e i

abbrev pub put : Day → ℕ → Row → Day
put d i r = record { facilities = d.facilities; prices = d.prices; rows = slice_set d.rows (i - 1) r }

-- ---- lodging
abbrev pub few_pairs : List Pair → Check
few_pairs ps = unless (nat_le (length ps) 8) (refusal.TooManyPairs (length ps))

abbrev pub span : Option Prices → Prices
span None = record { low = pos 0; high = pos 0 }
span (Some z) = z

-- a lodge's figures by position: ramps, then each pair's price and kW
abbrev pub pair_figures : Prices → List Pair → List Bool
pair_figures z [] = []
pair_figures z (p ∷ ps) = within_int z.low p.price z.high ∷ (nat_le p.kw 1000000 ∷ pair_figures z ps)

abbrev pub lodge_figures : Prices → ℕ → ℕ → List Pair → List Bool
lodge_figures z up down ps = ramp_fits up ∷ (ramp_fits down ∷ pair_figures z ps)

abbrev pub facility_at : List Facility → ℕ → Facility
facility_at fs f = slice_index_or fs (f - 1) no_facility

abbrev pub in_capacity : Facility → ℕ → List Pair → Check
in_capacity x f ps = unless (nat_le (total (curve ps)) x.capacity) (refusal.Capacity f)

-- the submission that ramps and pairs make
abbrev pub submitted : ℕ → ℕ → List Pair → Submission
submitted up down ps = record { ramp_up = up; ramp_down = down; curve = stored (curve ps) }

-- whether it is the one in force
abbrev pub lodged : Option Submission → Submission → Lodged
lodged None t = New
lodged (Some s) t = cond (same_submission s t) Same New

-- ---- closing
-- the figures of the registered facilities
abbrev pub figures_on : Day → ℕ → List Figures
figures_on d i = take (length d.facilities) (sheet d i).figures

abbrev pub enough_rungs : ℕ → Check
enough_rungs k = unless (nat_le 96 k) (refusal.TooFewRungs k)

abbrev pub has_demand : Option ℕ → Check
has_demand None = Err refusal.NoDemand
has_demand (Some n) = Ok tt

abbrev pub demand_reached : List Figures → Option ℕ → ℕ → Check
demand_reached gs o i = unless (reaches gs o) (refusal.Short i)

-- balancing price and marginal facility of a sheet that has them
abbrev pub closing : Day → ℕ → ℤ × ℕ
closing d i = unwrap_or (priced_at d.facilities (figures_on d i) (sheet d i).demand) (pos 0, 0)

-- ---- settling and adjusting
-- of some facilities, the first with this number: the first that lacks its reading, or has a submission and no start
abbrev pub figures_complete : ℕ → List Figures → Check
figures_complete n [] = Ok tt
figures_complete n (x ∷ xs) = unless (complete x) (refusal.Missing n) then figures_complete (n + 1) xs

abbrev pub load_there : List held.Position → ℕ → Check
load_there ps i = unless (has_load ps) (refusal.NoLoad i)

-- the nets of a sheet
abbrev pub nets_on : Day → ℕ → List ℤ
nets_on d i = row_nets d.facilities (sheet d i)

-- what another reading makes of them, less what they are
abbrev pub adjustment : Day → ℕ → ℕ → ℕ → List ℤ
adjustment d f i n = changed (row_nets d.facilities (with_reading (sheet d i) (f - 1) n)) (nets_on d i)

abbrev pub not_refused : Option RowRefusal → Check
not_refused None = Ok tt
not_refused (Some e) = Err (refusal.Posting e)

-- the ledger takes the amounts
abbrev pub postable : View → List ℤ → Check
postable v xs = not_refused (row_refusal v xs)

-- ---- the table of refusals: the checks of each call, in rising order of number
abbrev pub checks : Day → View → Call → List Check
checks d v (Register a x c t) = not_open d.prices ∷ (room d.facilities ∷ (account_known a ∷ (figures 1 (facility_figures x c t) ∷ [])))
checks d v (Open lo hi) = not_open d.prices ∷ (figures 1 (price_figures (record { low = lo; high = hi })) ∷ [])
checks d v (Lodge f i u w ps) =
    is_open d.prices ∷ (interval_known d.rows i ∷ (facility_known d.facilities f ∷ (at_sheet d event.Lodge i
    ∷ (few_pairs ps.now ∷ (figures 1 (lodge_figures (span d.prices) u w ps.now) ∷ (in_capacity (facility_at d.facilities f) f ps.now ∷ []))))))
checks d v (Start f i n) =
    is_open d.prices ∷ (interval_known d.rows i ∷ (facility_known d.facilities f ∷ (at_sheet d event.Figure i ∷ (figures 1 (start_fits n ∷ []) ∷ []))))
checks d v (Reading f i n) =
    is_open d.prices ∷ (interval_known d.rows i ∷ (facility_known d.facilities f ∷ (at_sheet d event.Figure i ∷ (figures 1 (reading_fits n ∷ []) ∷ []))))
checks d v (Position a i c l) =
    is_open d.prices ∷ (interval_known d.rows i ∷ (account_known a ∷ (at_sheet d event.Figure i ∷ (figures 1 (contract_fits c ∷ (load_fits l ∷ [])) ∷ []))))
checks d v (Demand i n) =
    is_open d.prices ∷ (interval_known d.rows i ∷ (at_sheet d event.Demand i ∷ (figures 1 (demand_fits n ∷ []) ∷ [])))
checks d v (Close i k) =
    is_open d.prices ∷ (interval_known d.rows i ∷ (at_sheet d event.Close i
    ∷ (enough_rungs k ∷ (has_demand (sheet d i).demand ∷ (demand_reached (figures_on d i) (sheet d i).demand i ∷ [])))))
checks d v (Settle i) =
    is_open d.prices ∷ (interval_known d.rows i ∷ (at_sheet d event.Settle i
    ∷ (figures_complete 1 (figures_on d i) ∷ (load_there (sheet d i).positions i ∷ (postable v (nets_on d i) ∷ [])))))
checks d v (Adjust f i n) =
    is_open d.prices ∷ (interval_known d.rows i ∷ (facility_known d.facilities f ∷ (at_sheet d event.Adjust i
    ∷ (figures 1 (reading_fits n ∷ []) ∷ (postable v (adjustment d f i n) ∷ [])))))

abbrev pub table : Day → View → Call → Check
table d v c = first (checks d v c)

-- what a taken call answers
abbrev pub answer : Day → Call → Answer
answer d (Register a x c t) = Number (length d.facilities + 1)
answer d (Open lo hi) = Opened
answer d (Lodge f i u w ps) = Lodging (lodged (figures_at (sheet d i) (f - 1)).submission (submitted u w ps.now))
answer d (Start f i n) = Set
answer d (Reading f i n) = Set
answer d (Position a i c l) = Set
answer d (Demand i n) = Set
answer d (Close i k) = Price (closing d i).0 (closing d i).1
answer d (Settle i) = Posts (posts (nets_on d i))
answer d (Adjust f i n) = Posts (posts (adjustment d f i n))

-- the day after a taken call
abbrev pub after : Day → Call → Day
after d (Register a x c t) =
    record { facilities = d.facilities ++ (record { account = a; loss_factor = x; capacity = c; tolerance = t } ∷ []); prices = d.prices; rows = d.rows }
after d (Open lo hi) = record { facilities = d.facilities; prices = Some (record { low = lo; high = hi }); rows = d.rows }
after d (Lodge f i u w ps) = put d i (with_submission (sheet d i) (f - 1) (submitted u w ps.now))
after d (Start f i n) = put d i (with_start (sheet d i) (f - 1) n)
after d (Reading f i n) = put d i (with_reading (sheet d i) (f - 1) n)
after d (Position a i c l) = put d i (with_position (sheet d i) (a - 1) (record { contract = c; load = l }))
after d (Demand i n) = put d i (with_demand (sheet d i) n)
after d (Close i k) = put d i (row_after (sheet d i) event.Close)
after d (Settle i) = put d i (row_after (sheet d i) event.Settle)
after d (Adjust f i n) = put d i (with_reading (sheet d i) (f - 1) n)

-- the amounts that a taken call posts, account 0 first
abbrev pub posted : Day → Call → List ℤ
posted d (Register a x c t) = []
posted d (Open lo hi) = []
posted d (Lodge f i u w ps) = []
posted d (Start f i n) = []
posted d (Reading f i n) = []
posted d (Position a i c l) = []
posted d (Demand i n) = []
posted d (Close i k) = []
posted d (Settle i) = nets_on d i
posted d (Adjust f i n) = adjustment d f i n

-- the posts of amounts that were taken, in their order: those that are not zero, by rising account; none where they were refused
abbrev pub posts_of : {X : Type 0} → List ℤ → Result X Refusal → List Post
posts_of xs (Ok a) = row_posts 0 xs
posts_of xs (Err f) = []

-- the posts that a call made
abbrev pub made_posts : {X : Type 0} → Day → Call → Result X Refusal → List Post
made_posts d c r = posts_of (posted d c) r

-- the ledger after amounts were posted; as it was where there are none
abbrev pub Moves : View → List ℤ → View → Type 0
Moves v [] w = w ≡ v
Moves v (x ∷ xs) w = Moved v (amount (x ∷ xs)) (posts (x ∷ xs)) w

-- ---- a call with its answer: taken where no check of the table holds, and else refused by the first that does, with nothing changed
pub record Taken (d : Day) (v : View) (c : Call) (a : Answer) (e : Day) (w : View) : Type 0 where
  pub passes : table d v c ≡ Ok tt
  pub answers : a ≡ answer d c
  pub changes : e ≡ after d c
  pub moves : Moves v (posted d c) w

pub record Refused (d : Day) (v : View) (c : Call) (f : Refusal) (e : Day) (w : View) : Type 0 where
  pub fails : table d v c ≡ Err f
  pub same : e ≡ d
  pub still : w ≡ v

abbrev pub Does : {X : Type 0} → (X → Answer) → Day → View → Call → Result X Refusal → Day → View → Type 0
Does wrap d v c r e w = results.MatchResult r (λ x. Taken d v c (wrap x) e w) (λ f. Refused d v c f e w)
