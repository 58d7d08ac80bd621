-- What a register's invariant gives.
use Rattle.std.proofs.Common.{◌≡◌, length, arith}
use Rattle.std.proofs.lemmas.List.{length-take-le}
use Rattle.sheets.specs.declared.register.Register.{Register}
use Rattle.sheets.specs.Held.{known}

pub known_count : (g : Register) → length (known g) ≡ g.count
known_count g = length-take-le g.count g.facilities (omega arith)
