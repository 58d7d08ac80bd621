-- The table of states, case by case.
use Rattle.std.proofs.Common.{◌≡◌, ◌≢◌, ◌↔◌, true, is_some, IsTrue, Some, refl}
use Rattle.sheets.specs.declared.row.State.{State}
use Rattle.sheets.specs.declared.row.State.TheVariants.{Open, Closed, Settled}
use Rattle.sheets.specs.declared.row.Event.{Event}
use Rattle.sheets.specs.declared.row.Event.TheVariants.{Lodge, Figure, Demand, Close, Settle, Adjust}
use Rattle.sheets.specs.Sheets.{next}
use Rattle.sheets.specs.Claims.{StatesHold}

closes : (s t : State) → (next s Close ≡ Some t) ↔ ((s ≡ Open) × (t ≡ Closed))
closes Open t = (λ e. (refl, cc), λ h. cc)
closes Closed t = (λ e. cc, λ h. cc)
closes Settled t = (λ e. cc, λ h. cc)

settles : (s t : State) → (next s Settle ≡ Some t) ↔ ((s ≡ Closed) × (t ≡ Settled))
settles Open t = (λ e. cc, λ h. cc)
settles Closed t = (λ e. (refl, cc), λ h. cc)
settles Settled t = (λ e. cc, λ h. cc)

stays : (s t : State) (e : Event) → e ≢ Close → e ≢ Settle → next s e ≡ Some t → t ≡ s
stays Open t Lodge c d h = cc
stays Open t Figure c d h = cc
stays Open t Demand c d h = cc
stays Open t Close c d h = absurd (c refl)
stays Open t Settle c d h = absurd (d refl)
stays Open t Adjust c d h = cc
stays Closed t Lodge c d h = cc
stays Closed t Figure c d h = cc
stays Closed t Demand c d h = cc
stays Closed t Close c d h = absurd (c refl)
stays Closed t Settle c d h = absurd (d refl)
stays Closed t Adjust c d h = cc
stays Settled t Lodge c d h = cc
stays Settled t Figure c d h = cc
stays Settled t Demand c d h = cc
stays Settled t Close c d h = absurd (c refl)
stays Settled t Settle c d h = absurd (d refl)
stays Settled t Adjust c d h = cc

lodges : (s : State) → IsTrue (is_some (next s Lodge)) ↔ (s ≡ Open)
lodges Open = (λ e. refl, λ e. refl)
lodges Closed = (λ e. cc, λ e. cc)
lodges Settled = (λ e. cc, λ e. cc)

demands : (s : State) → IsTrue (is_some (next s Demand)) ↔ (s ≡ Open)
demands Open = (λ e. refl, λ e. refl)
demands Closed = (λ e. cc, λ e. cc)
demands Settled = (λ e. cc, λ e. cc)

figures : (s : State) → IsTrue (is_some (next s Figure)) ↔ (s ≢ Settled)
figures Open = (λ e k. cc, λ e. refl)
figures Closed = (λ e k. cc, λ e. refl)
figures Settled = (λ e. cc, λ e. absurd (e refl))

adjusts : (s : State) → IsTrue (is_some (next s Adjust)) ↔ (s ≡ Settled)
adjusts Open = (λ e. cc, λ e. cc)
adjusts Closed = (λ e. cc, λ e. cc)
adjusts Settled = (λ e. refl, λ e. refl)

pub states_hold : StatesHold
states_hold = record {
  closes = closes;
  settles = settles;
  stays = stays;
  lodges = lodges;
  demands = demands;
  figures = figures;
  adjusts = adjusts;
}
