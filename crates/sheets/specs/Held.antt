-- What a register holds: the facilities that it knows, and the day's prices.
use Rattle.std.specs.Prelude.{List, take, Option}
use Rattle.sheets.specs.declared.facility.Facility.{Facility}
use Rattle.sheets.specs.declared.facility.Prices.{Prices}
use Rattle.sheets.specs.declared.register.Register.{Register}

abbrev pub known : Register → List Facility
known g = take g.count g.facilities

-- none until the day is open
abbrev pub prices_of : Register → Option Prices
prices_of g = g.prices
