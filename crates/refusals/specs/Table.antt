-- The table of refusals: the number and the place of each case.
use Rattle.std.specs.Prelude.{ℕ, Some, None, Option}
use Rattle.ledger.specs.declared.reason.Reason.{Reason}
use Rattle.refusals.specs.declared.Refusal.{Refusal}
use Rattle.refusals.specs.declared.Refusal.TheVariants.{Sequence, Interval, Facility, RegisterFull, Account, State, TooManyPairs, TooFewRungs, Figure, Capacity, NoDemand, Missing, Short, NoLoad, Posting}

abbrev pub refusal_number : Refusal → ℕ
refusal_number Sequence = 1
refusal_number (Interval i) = 2
refusal_number (Facility f) = 3
refusal_number RegisterFull = 3
refusal_number (Account a) = 4
refusal_number (State i) = 5
refusal_number (TooManyPairs n) = 6
refusal_number (TooFewRungs n) = 6
refusal_number (Figure k) = 7
refusal_number (Capacity f) = 8
refusal_number NoDemand = 9
refusal_number (Missing f) = 9
refusal_number (Short i) = 10
refusal_number (NoLoad i) = 11
refusal_number (Posting e) = 12

abbrev pub refusal_place : Refusal → ℕ
refusal_place Sequence = 0
refusal_place (Interval i) = i
refusal_place (Facility f) = f
refusal_place RegisterFull = 12
refusal_place (Account a) = a
refusal_place (State i) = i
refusal_place (TooManyPairs n) = n
refusal_place (TooFewRungs n) = n
refusal_place (Figure k) = k
refusal_place (Capacity f) = f
refusal_place NoDemand = 0
refusal_place (Missing f) = f
refusal_place (Short i) = i
refusal_place (NoLoad i) = i
refusal_place (Posting e) = e.place

-- the ledger's reason, which the last case alone has
abbrev pub refusal_reason : Refusal → Option Reason
refusal_reason Sequence = None
refusal_reason (Interval i) = None
refusal_reason (Facility f) = None
refusal_reason RegisterFull = None
refusal_reason (Account a) = None
refusal_reason (State i) = None
refusal_reason (TooManyPairs n) = None
refusal_reason (TooFewRungs n) = None
refusal_reason (Figure k) = None
refusal_reason (Capacity f) = None
refusal_reason NoDemand = None
refusal_reason (Missing f) = None
refusal_reason (Short i) = None
refusal_reason (NoLoad i) = None
refusal_reason (Posting e) = Some e.reason
