-- The book of a day. It is fed each call's arguments and whether the call was taken, and begins blank.
use Rattle.std.specs.Prelude.{ℕ, ◌-◌, List, [], ◌∷◌, ◌++◌, map, replicate, pos, Some, None, Ok, Err, Option, Result, slice_index_or, slice_set}
use Rattle.std.specs.Option.{option_map}
use Rattle.refusals.specs.declared.Refusal.{Refusal}
use Rattle.offers.specs.declared.pair.Pair.{Pair}
use Rattle.offers.specs.declared.submission.Submission.{Submission}
use Rattle.offers.specs.Curves as curves
use Rattle.sheets.specs.declared.facility.Facility.{Facility}
use Rattle.sheets.specs.declared.facility.Prices.{Prices}
use Rattle.sheets.specs.declared.row.Figures.{Figures}
use Rattle.sheets.specs.declared.row.Position as accounts
use Rattle.sheets.specs.declared.row.Row.{Row}
use Rattle.sheets.specs.declared.row.State.{State}
use Rattle.sheets.specs.declared.row.State.TheVariants as state
use Rattle.pool.specs.declared.call.Call.{Call}
use Rattle.pool.specs.declared.call.Call.TheVariants.{Register, Open, Lodge, Start, Reading, Position, Demand, Close, Settle, Adjust}
use Rattle.pool.specs.declared.call.Answer.{Answer}
use Rattle.pool.specs.Day.{Day}

-- ramps, and the curve
pub record Offer : Type 0 where
  pub up : ℕ
  pub down : ℕ
  pub curve : List Pair

-- a facility on a sheet
pub record Entry : Type 0 where
  pub offer : Option Offer
  pub start : Option ℕ
  pub reading : Option ℕ

-- the sheet of one interval: entries by facility, positions by account, both from 1
pub record Page : Type 0 where
  pub state : State
  pub entries : List Entry
  pub demand : Option ℕ
  pub positions : List accounts.Position

pub record Book : Type 0 where
  pub facilities : List Facility
  pub prices : Option Prices
  pub pages : List Page

-- ---- the blank book of n sheets
abbrev pub absent : Entry
absent = record { offer = None; start = None; reading = None }

abbrev pub nothing_sold : accounts.Position
nothing_sold = record { contract = pos 0; load = 0 }

abbrev pub blank_page : Page
blank_page = record { state = state.Open; entries = replicate 12 absent; demand = None; positions = replicate 11 nothing_sold }

abbrev pub blank : ℕ → Book
blank n = record { facilities = []; prices = None; pages = replicate n blank_page }

-- ---- what a call brings
abbrev pub no_page : Page
no_page = record { state = state.Open; entries = []; demand = None; positions = [] }

abbrev pub page : Book → ℕ → Page
page b i = slice_index_or b.pages (i - 1) no_page

abbrev pub keep : Book → ℕ → Page → Book
keep b i p = record { facilities = b.facilities; prices = b.prices; pages = slice_set b.pages (i - 1) p }

abbrev pub entry : Page → ℕ → Entry
entry p f = slice_index_or p.entries (f - 1) absent

abbrev pub enter : Page → ℕ → Entry → Page
enter p f e = record { state = p.state; entries = slice_set p.entries (f - 1) e; demand = p.demand; positions = p.positions }

abbrev pub offered : Page → ℕ → Offer → Page
offered p f o = enter p f (record { offer = Some o; start = (entry p f).start; reading = (entry p f).reading })

abbrev pub started : Page → ℕ → ℕ → Page
started p f n = enter p f (record { offer = (entry p f).offer; start = Some n; reading = (entry p f).reading })

abbrev pub read : Page → ℕ → ℕ → Page
read p f n = enter p f (record { offer = (entry p f).offer; start = (entry p f).start; reading = Some n })

abbrev pub positioned : Page → ℕ → accounts.Position → Page
positioned p a x = record { state = p.state; entries = p.entries; demand = p.demand; positions = slice_set p.positions (a - 1) x }

abbrev pub demanded : Page → ℕ → Page
demanded p n = record { state = p.state; entries = p.entries; demand = Some n; positions = p.positions }

abbrev pub marked : Page → State → Page
marked p s = record { state = s; entries = p.entries; demand = p.demand; positions = p.positions }

-- the book after a taken call
abbrev pub noted : Book → Call → Book
noted b (Register a x c t) =
    record { facilities = b.facilities ++ (record { account = a; loss_factor = x; capacity = c; tolerance = t } ∷ []); prices = b.prices; pages = b.pages }
noted b (Open lo hi) = record { facilities = b.facilities; prices = Some (record { low = lo; high = hi }); pages = b.pages }
noted b (Lodge f i u w ps) = keep b i (offered (page b i) f (record { up = u; down = w; curve = curves.curve ps.now }))
noted b (Start f i n) = keep b i (started (page b i) f n)
noted b (Reading f i n) = keep b i (read (page b i) f n)
noted b (Position a i c l) = keep b i (positioned (page b i) a (record { contract = c; load = l }))
noted b (Demand i n) = keep b i (demanded (page b i) n)
noted b (Close i k) = keep b i (marked (page b i) state.Closed)
noted b (Settle i) = keep b i (marked (page b i) state.Settled)
noted b (Adjust f i n) = keep b i (read (page b i) f n)

abbrev pub Answered : Type 0
Answered = Result Answer Refusal

-- a refused call changes nothing
abbrev pub fed : Book → Call → Answered → Book
fed b c (Ok a) = noted b c
fed b c (Err f) = b

-- the book after a list of calls
abbrev pub kept : Book → List Call → List Answered → Book
kept b [] rs = b
kept b (c ∷ cs) [] = b
kept b (c ∷ cs) (r ∷ rs) = kept (fed b c r) cs rs

-- ---- what register and sheets hold where they hold what the book holds
abbrev pub told_offer : Offer → Submission
told_offer o = record { ramp_up = o.up; ramp_down = o.down; curve = curves.stored o.curve }

abbrev pub told_entry : Entry → Figures
told_entry e = record { submission = option_map told_offer e.offer; start = e.start; reading = e.reading }

abbrev pub told_page : Page → Row
told_page p = record { state = p.state; figures = map told_entry p.entries; demand = p.demand; positions = p.positions }

abbrev pub told : Book → Day
told b = record { facilities = b.facilities; prices = b.prices; rows = map told_page b.pages }
