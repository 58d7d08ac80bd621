-- What a call that passed the table tells: each of its checks passed.
use Rattle.std.proofs.Common.{◌≡◌, ℕ, ◌-◌, ◌<◌, Bool, true, false, cond, ◌&&◌, ltb, leb, List, [], ◌∷◌, map, length, is_some, unwrap_or, Some, None, Ok, Err, Option, sym, refl, arith}
use lib.ListN.{length-map}
use Rattle.std.proofs.lemmas.Bool.{ltb-true, leb-true}
use Rattle.refusals.specs.declared.Refusal.{Refusal}
use Rattle.refusals.specs.declared.Refusal.TheVariants as refusal
use Rattle.offers.proofs.Tests.{and_first, and_second}
use Rattle.sheets.specs.declared.facility.Facility.{Facility}
use Rattle.sheets.specs.declared.facility.Prices.{Prices}
use Rattle.sheets.specs.declared.row.Row.{Row}
use Rattle.sheets.specs.declared.row.State.{State}
use Rattle.sheets.specs.declared.row.State.TheVariants.{Open, Closed, Settled}
use Rattle.sheets.specs.declared.row.Event.{Event}
use Rattle.sheets.specs.declared.row.Event.TheVariants.{Close, Settle}
use Rattle.sheets.specs.Sheets.{sheet_sound, next}
use Rattle.pool.specs.Checks.{Check, first, unless}
use Rattle.pool.specs.Day.{not_open, is_open, interval_known, facility_known, allowed, in_state}
use Rattle.pool.proofs.Passing.{unless_pass, then_pass}
use Rattle.day.specs.Book.{Book, told_page}

abbrev pub Each : List Check → Type 0
Each [] = Unit {0}
Each (c ∷ cs) = (c ≡ Ok tt) × Each cs

pub passed : (cs : List Check) → first cs ≡ Ok tt → Each cs
passed [] e = tt
passed (c ∷ cs) e = let p = then_pass c (first cs) (sym e) in (sym p.0, passed cs (sym p.1))

-- ---- the checks that calls share
pub open_passed : (o : Option Prices) → is_open o ≡ Ok tt → (z : Prices) × (o ≡ Some z)
open_passed None e = absurd (let z : ◌≡◌ {A = ℕ} 0 1 = cc in omega arith)
open_passed (Some z) e = (z, refl)

pub shut_passed : (o : Option Prices) → not_open o ≡ Ok tt → o ≡ None
shut_passed None e = refl
shut_passed (Some z) e = cc

pub test_passed : (b : Bool) (f : Refusal) → unless b f ≡ Ok tt → b ≡ true
test_passed b f e = unless_pass b f (sym e)

pub interval_within : (b : Book) (i : ℕ) → interval_known (map told_page b.pages) i ≡ Ok tt → i - 1 < length b.pages
interval_within b i e =
    let n = length (map told_page b.pages) in
    let t = test_passed (ltb 0 i && (leb i n && leb i 48)) (refusal.Interval i) e in
    let some = ltb-true 0 i (and_first (ltb 0 i) _ t) in
    let few = leb-true i n (and_first (leb i n) _ (and_second (ltb 0 i) _ t)) in
    let same = length-map b.pages told_page in
    omega arith

pub facility_within : (fs : List Facility) (f : ℕ) → facility_known fs f ≡ Ok tt → f - 1 < length fs
facility_within fs f e =
    let t = test_passed (ltb 0 f && leb f (length fs)) (refusal.Facility f) e in
    let some = ltb-true 0 f (and_first (ltb 0 f) _ t) in
    let few = leb-true f (length fs) (and_second (ltb 0 f) _ t) in
    omega arith

pub state_passed : (fs : List Facility) (o : Option Prices) (r : Row) (e : Event) (i : ℕ) → in_state fs o r e i ≡ Ok tt → (sheet_sound fs o r ≡ true) × (is_some (next r.state e) ≡ true)
state_passed fs o r e i p = go (sheet_sound fs o r) (next r.state e) p
  where
    go : (b : Bool) (s : Option State) → cond b (allowed i s) (Err (refusal.State i)) ≡ Ok tt → (b ≡ true) × (is_some s ≡ true)
    go true None k = absurd (let z : ◌≡◌ {A = ℕ} 0 1 = cc in omega arith)
    go true (Some s) k = (refl, refl)
    go false s k = absurd (let z : ◌≡◌ {A = ℕ} 0 1 = cc in omega arith)

-- a sheet that may be closed is closed by it, and one that may be settled is settled
pub closes : (s : State) → is_some (next s Close) ≡ true → unwrap_or (next s Close) s ≡ Closed
closes Open e = refl
closes Closed e = cc
closes Settled e = cc

pub settles : (s : State) → is_some (next s Settle) ≡ true → unwrap_or (next s Settle) s ≡ Settled
settles Open e = cc
settles Closed e = refl
settles Settled e = cc
