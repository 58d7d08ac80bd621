-- What a sheet shows: its row, and the register that it stands under.
use Rattle.sheets.specs.declared.register.Register.{Register}
use Rattle.sheets.specs.declared.row.Row.{Row}
use Rattle.sheets.specs.declared.sheet.Sheet.{Sheet}

abbrev pub row_of : Sheet → Row
row_of s = s.row

abbrev pub register_of : Sheet → Register
register_of s = s.register.now
