-- How a sheet goes from state to state: it is open, then closed, then settled.
use Rattle.std.specs.Prelude.{◌≡◌, ◌≢◌, ◌↔◌, Some, is_some, IsTrue}
use Rattle.sheets.specs.declared.row.State.{State}
use Rattle.sheets.specs.declared.row.State.TheVariants.{Open, Closed, Settled}
use Rattle.sheets.specs.declared.row.Event.{Event}
use Rattle.sheets.specs.declared.row.Event.TheVariants.{Lodge, Figure, Demand, Close, Settle, Adjust}
use Rattle.sheets.specs.Sheets.{next}

pub record StatesHold : Type 0 where
  -- close comes to an open sheet alone, and closes it
  pub closes : (s t : State) → (next s Close ≡ Some t) ↔ ((s ≡ Open) × (t ≡ Closed))
  -- settle comes to a closed sheet alone, and settles it
  pub settles : (s t : State) → (next s Settle ≡ Some t) ↔ ((s ≡ Closed) × (t ≡ Settled))
  -- no other event moves a sheet to another state
  pub stays : (s t : State) (e : Event) → e ≢ Close → e ≢ Settle → next s e ≡ Some t → t ≡ s
  -- submissions and demand come while it is open, figures until it is settled, corrections after
  pub lodges : (s : State) → IsTrue (is_some (next s Lodge)) ↔ (s ≡ Open)
  pub demands : (s : State) → IsTrue (is_some (next s Demand)) ↔ (s ≡ Open)
  pub figures : (s : State) → IsTrue (is_some (next s Figure)) ↔ (s ≢ Settled)
  pub adjusts : (s : State) → IsTrue (is_some (next s Adjust)) ↔ (s ≡ Settled)
