-- The day that a register and the caller's rows hold.
use Rattle.std.specs.Prelude.{List}
use Rattle.sheets.specs.declared.row.Row.{Row}
use Rattle.sheets.specs.declared.register.Register.{Register}
use Rattle.sheets.specs.Held.{known, prices_of}
use Rattle.pool.specs.Day.{Day}

abbrev pub held : Register → List Row → Day
held g rows = record { facilities = known g; prices = prices_of g; rows = rows }
