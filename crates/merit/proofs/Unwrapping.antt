-- A result or an option that is there, since what would rule it out does not hold.
use Rattle.std.specs.Prelude.{Option, Some, None, IsSome, Result, Ok, Err, IsOk, MatchResult}
use Rattle.std.proofs.Common.{◌≡◌, Bool, true, false, refl, arith, rules}

pub is_ok_where : {T E : Type 0} (P : T → Type 0) (b : Bool) (r : Result T E) → MatchResult r P (λ _. b ≡ false) → b ≡ true → IsOk r
is_ok_where P b (Ok x) h t = search rules
is_ok_where P b (Err e) h t = absurd (grind arith)

pub is_some_unless : {X : Type 0} (o : Option X) → (o ≡ None → ⊥) → IsSome o
is_some_unless None h = absurd (h refl)
is_some_unless (Some x) h = search rules
