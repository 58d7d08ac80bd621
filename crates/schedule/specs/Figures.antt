-- Figures worked through.
use Rattle.std.specs.Prelude.{◌≡◌, ℕ, List, [], ◌∷◌, ℤ, pos, neg_ℤ}
use Rattle.schedule.specs.Rounding.{adjusted, rounded_natural, M}
use Rattle.schedule.specs.Ramps.{energy}
use Rattle.schedule.specs.Stations.{Operation, part, takes_of, rest_of, energy_counted}
use Rattle.schedule.specs.Levies.{levy}

abbrev pub worked : ℕ → Operation
worked reading =
    record { factor = 10000; tolerance = 10000; start = 10000; up = 2000; down = 2500; curve = record { price = pos 3200; kw = 20000 } ∷ record { price = pos 6000; kw = 15000 } ∷ []; reading = reading }

-- the station's own part in cents
abbrev pub cents : ℕ → ℤ → ℕ
cents reading P = rounded_natural (part (worked reading) P) M

abbrev pub three_loads : List ℕ
three_loads = 5 ∷ 5 ∷ 5 ∷ 0 ∷ 0 ∷ 0 ∷ 0 ∷ 0 ∷ 0 ∷ 0 ∷ 0 ∷ []

abbrev pub Figures : Type 0
Figures =
    (adjusted (pos 3550) 10500 ≡ pos 3381)
    × (adjusted (pos 2) 8000 ≡ pos 3)
    × (adjusted (neg_ℤ (pos 2)) 8000 ≡ neg_ℤ (pos 2))
    × (energy 10000 2000 2500 20000 ≡ 580000)
    × (energy 10000 2000 2500 35000 ≡ 906000)
    × (energy 10000 2000 2500 0 ≡ 15000)
    × (takes_of (worked 700000) (pos 4000) ≡ 120000 ∷ [])
    × (cents 700000 (pos 4000) ≡ 4000)
    × (takes_of (worked 950000) (pos 4000) ≡ 326000 ∷ [])
    × (rest_of (worked 950000) (pos 4000) ≡ 44000)
    × (cents 950000 (pos 4000) ≡ 10867)
    × (energy_counted (worked 590000) (pos 4000) ≡ 0)
    × (takes_of (worked 590001) (pos 4000) ≡ 10001 ∷ [])
    × (takes_of (worked 500000) (pos 7000) ≡ 326000 ∷ 80000 ∷ [])
    × (cents 500000 (pos 7000) ≡ 10500)
    × (levy 10 three_loads 1 ≡ 3)
    × (levy 10 three_loads 2 ≡ 3)
    × (levy 10 three_loads 3 ≡ 4)
