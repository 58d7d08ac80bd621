use Rattle.std.proofs.Common.{sym}
use Rattle.sheets.specs.Held.{known}
use Rattle.sheets.proofs.Sheets.{sheet_position}
use Rattle.sheets.proofs.sheet.Sheet.with_position.Goals as goal

pub invariant_of-result : goal.invariant_of-result
invariant_of-result c =
    let s = c.args.self in
    let g = s.register.now in
    record {
      sound = sheet_position (known g) g.prices s.row c.args.at c.args.position (sym c.if-not-comes.ensures) (sym c.if-not-position_fits.ensures) s.sound;
      slots = s.slots;
    }
