use Rattle.std.proofs.Common.{◌≡◌, ◌^◌, ◌≤◌, drop}
use Rattle.text.specs.Numbers.{onward}
use Rattle.text.proofs.Decimal.{capped}
use Rattle.text.proofs.number.digits.Given as goal

-- what is left goes on from n as all did from the first
abbrev pub invariant-loop-b : goal.invariant-loop-b
invariant-loop-b l = (l.n ≤ 2 ^ 64) × (capped (onward l.n (drop l.b-index l.rest)) ≡ capped (onward l.first l.rest))
