-- The sheet worked through: its price, its nets, and what a corrected reading posts.
use Rattle.std.specs.Prelude.{◌≡◌, ℕ, List, [], ◌∷◌, ℤ, pos, neg_ℤ, Some}
use Rattle.ledger.specs.Rows.{posts}
use Rattle.offers.specs.declared.submission.Submission.{Submission}
use Rattle.offers.specs.Curves.{stored}
use Rattle.schedule.specs.Figures as station
use Rattle.sheets.specs.declared.facility.Facility.{Facility}
use Rattle.sheets.specs.declared.row.Figures.{Figures}
use Rattle.sheets.specs.declared.row.Position.{Position}
use Rattle.sheets.specs.declared.row.Row.{Row}
use Rattle.sheets.specs.declared.row.State.TheVariants.{Closed}
use Rattle.sheets.specs.Sheets.{with_reading}
use Rattle.amounts.specs.Sheets.{balancing_price, row_nets, changed}

abbrev pub facilities : List Facility
facilities =
    record { account = 1; loss_factor = 10000; capacity = 40000; tolerance = 10000 }
    ∷ record { account = 2; loss_factor = 10000; capacity = 40000; tolerance = 10000 } ∷ []

-- the station worked through, and one that runs as scheduled
abbrev pub worked_offer : Submission
worked_offer = record { ramp_up = 2000; ramp_down = 2500; curve = stored (record { price = pos 3200; kw = 20000 } ∷ record { price = pos 6000; kw = 15000 } ∷ []) }

abbrev pub other_offer : Submission
other_offer = record { ramp_up = 1000; ramp_down = 1000; curve = stored (record { price = pos 4000; kw = 20000 } ∷ []) }

abbrev pub figures : ℕ → List Figures
figures reading =
    record { submission = Some worked_offer; start = Some 10000; reading = Some reading }
    ∷ record { submission = Some other_offer; start = Some 20000; reading = Some 600000 } ∷ []

abbrev pub load : ℕ → Position
load n = record { contract = pos 0; load = n }

abbrev pub positions : List Position
positions = load 0 ∷ load 100000 ∷ load 1200000 ∷ load 0 ∷ load 0 ∷ load 0 ∷ load 0 ∷ load 0 ∷ load 0 ∷ load 0 ∷ load 0 ∷ []

abbrev pub worked_row : ℕ → Row
worked_row reading = record { state = Closed; figures = figures reading; demand = Some 30000; positions = positions }

-- what the correction of the first reading to 730,000 posts
abbrev pub correction : List ℤ
correction = changed (row_nets facilities (with_reading (worked_row 700000) 0 730000)) (row_nets facilities (worked_row 700000))

abbrev pub FiguresHold : Type 0
FiguresHold =
    station.Figures
    × (balancing_price facilities (figures 700000) (Some 30000) ≡ pos 4000)
    × (row_nets facilities (worked_row 700000) ≡ pos 0 ∷ pos 50667 ∷ pos 33026 ∷ neg_ℤ (pos 83693) ∷ pos 0 ∷ pos 0 ∷ pos 0 ∷ pos 0 ∷ pos 0 ∷ pos 0 ∷ pos 0 ∷ pos 0 ∷ [])
    × (correction ≡ neg_ℤ (pos 2000) ∷ pos 3000 ∷ neg_ℤ (pos 77) ∷ neg_ℤ (pos 923) ∷ pos 0 ∷ pos 0 ∷ pos 0 ∷ pos 0 ∷ pos 0 ∷ pos 0 ∷ pos 0 ∷ pos 0 ∷ [])
    × (posts correction ≡ 4)
