-- When a row is a sheet that has a state.
use Rattle.std.specs.Prelude.{ℕ, ◌+◌, Bool, true, false, cond, ◌&&◌, List, [], ◌∷◌, length, take, replicate, ℤ, pos, negsuc, is_some, Some, None, Option, unwrap_or, nat_le, nat_lt, slice_index_or, slice_set}
use Rattle.std.specs.List.{list_any}
use Rattle.offers.specs.declared.pair.Pair.{Pair}
use Rattle.offers.specs.declared.submission.Submission.{Submission}
use Rattle.offers.specs.Tests.{all}
use Rattle.offers.specs.Curves.{listed, curve_in_form, total}
use Rattle.sheets.specs.declared.facility.Facility.{Facility}
use Rattle.sheets.specs.declared.facility.Prices.{Prices}
use Rattle.sheets.specs.declared.row.Figures.{Figures}
use Rattle.sheets.specs.declared.row.Position.{Position}
use Rattle.sheets.specs.declared.row.Row.{Row}
use Rattle.sheets.specs.declared.row.State.{State}
use Rattle.sheets.specs.declared.row.State.TheVariants.{Open, Closed, Settled}
use Rattle.sheets.specs.declared.row.Event.{Event}
use Rattle.sheets.specs.declared.row.Event.TheVariants.{Lodge, Figure, Demand, Close, Settle, Adjust}
use Rattle.sheets.specs.Tests.{within, within_int, if_some, all2}

-- ---- the spans of single figures
abbrev pub ramp_fits : ℕ → Bool
ramp_fits x = within 1 x 1000000

abbrev pub start_fits : ℕ → Bool
start_fits x = nat_le x 1000000

abbrev pub reading_fits : ℕ → Bool
reading_fits x = nat_le x 30000000

abbrev pub demand_fits : ℕ → Bool
demand_fits x = within 1 x 12000000

abbrev pub contract_fits : ℤ → Bool
contract_fits x = within_int (negsuc 59999999) x (pos 60000000)

abbrev pub load_fits : ℕ → Bool
load_fits x = nat_le x 60000000

abbrev pub position_fits : Position → Bool
position_fits p = contract_fits p.contract && load_fits p.load

abbrev pub pair_fits : Prices → Pair → Bool
pair_fits z p = within_int z.low p.price z.high && nat_le p.kw 1000000

-- ---- what a row may hold
abbrev pub submission_sound : Prices → Facility → Submission → Bool
submission_sound z f s =
    ramp_fits s.ramp_up
    && (ramp_fits s.ramp_down
    && (curve_in_form s.curve && (all (pair_fits z) (listed s.curve) && nat_le (total (listed s.curve)) f.capacity)))

abbrev pub figures_sound : Prices → Facility → Figures → Bool
figures_sound z f x =
    if_some (submission_sound z f) x.submission && (if_some start_fits x.start && if_some reading_fits x.reading)

-- the kW that a facility offers
abbrev pub offer : Option Submission → ℕ
offer None = 0
offer (Some s) = total (listed s.curve)

abbrev pub offers : List Figures → ℕ
offers [] = 0
offers (x ∷ xs) = offer x.submission + offers xs

-- there is a demand, and the offers reach it: the sheet has a price
abbrev pub reaches : List Figures → Option ℕ → Bool
reaches xs None = false
reaches xs (Some d) = nat_le d (offers xs)

-- a facility with all that settling asks: a reading, and a start where it has a submission
abbrev pub complete : Figures → Bool
complete x = is_some x.reading && cond (is_some x.submission) (is_some x.start) true

abbrev pub has_load : List Position → Bool
has_load = list_any (λ p. nat_lt 0 p.load)

-- what the state of a sheet asks: closed a price, settled also complete facilities and a load
abbrev pub stage : State → Bool → Bool → Bool
stage Open c s = true
stage Closed c s = c
stage Settled c s = c && s

abbrev pub spans_sound : List Facility → Prices → Row → Bool
spans_sound fs z r =
    all2 (figures_sound z) fs r.figures && (if_some demand_fits r.demand && all position_fits r.positions)

-- of the first n facilities
abbrev pub stage_sound : ℕ → Row → Bool
stage_sound n r =
    stage r.state (reaches (take n r.figures) r.demand) (all complete (take n r.figures) && has_load r.positions)

-- the row is a sheet of these facilities, under these prices; none is before the day is open
abbrev pub sheet_sound : List Facility → Option Prices → Row → Bool
sheet_sound fs None r = false
sheet_sound fs (Some z) r = spans_sound fs z r && stage_sound (length fs) r

-- the state after an event; none where the event has no place in it
abbrev pub next : State → Event → Option State
next Open Lodge = Some Open
next Open Figure = Some Open
next Open Demand = Some Open
next Open Close = Some Closed
next Open Settle = None
next Open Adjust = None
next Closed Lodge = None
next Closed Figure = Some Closed
next Closed Demand = None
next Closed Close = None
next Closed Settle = Some Settled
next Closed Adjust = None
next Settled Lodge = None
next Settled Figure = None
next Settled Demand = None
next Settled Close = None
next Settled Settle = None
next Settled Adjust = Some Settled

-- ---- a row with one thing changed
abbrev pub no_facility : Facility
no_facility = record { account = 0; loss_factor = 0; capacity = 0; tolerance = 0 }

abbrev pub no_figures : Figures
no_figures = record { submission = None; start = None; reading = None }

abbrev pub no_position : Position
no_position = record { contract = pos 0; load = 0 }

abbrev pub figures_at : Row → ℕ → Figures
figures_at r i = slice_index_or r.figures i no_figures

abbrev pub with_figures : Row → ℕ → Figures → Row
with_figures r i x = record { state = r.state; figures = slice_set r.figures i x; demand = r.demand; positions = r.positions }

abbrev pub offer_as : Figures → Submission → Figures
offer_as x s = record { submission = Some s; start = x.start; reading = x.reading }

abbrev pub start_as : Figures → ℕ → Figures
start_as x n = record { submission = x.submission; start = Some n; reading = x.reading }

abbrev pub read_as : Figures → ℕ → Figures
read_as x n = record { submission = x.submission; start = x.start; reading = Some n }

abbrev pub with_submission : Row → ℕ → Submission → Row
with_submission r i s = with_figures r i (offer_as (figures_at r i) s)

abbrev pub with_start : Row → ℕ → ℕ → Row
with_start r i n = with_figures r i (start_as (figures_at r i) n)

abbrev pub with_reading : Row → ℕ → ℕ → Row
with_reading r i n = with_figures r i (read_as (figures_at r i) n)

abbrev pub with_demand : Row → ℕ → Row
with_demand r n = record { state = r.state; figures = r.figures; demand = Some n; positions = r.positions }

abbrev pub with_position : Row → ℕ → Position → Row
with_position r k p = record { state = r.state; figures = r.figures; demand = r.demand; positions = slice_set r.positions k p }

abbrev pub with_state : Row → State → Row
with_state r s = record { state = s; figures = r.figures; demand = r.demand; positions = r.positions }

-- the row in the state that an event leads to; as it was where the event has no place in its state
abbrev pub row_after : Row → Event → Row
row_after r e = with_state r (unwrap_or (next r.state e) r.state)

-- a sheet before any call
abbrev pub blank_row : Row
blank_row = record { state = Open; figures = replicate 12 no_figures; demand = None; positions = replicate 11 no_position }
