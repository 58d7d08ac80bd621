use Rattle.std.proofs.Common.{◌<◌, length, sym, ap, ◌∙◌, arith, length-set, leb-true}
use Rattle.sheets.specs.Held.{known}
use Rattle.sheets.specs.Sheets.{read_as, figures_at}
use Rattle.sheets.proofs.Sheets.{sheet_read}
use Rattle.sheets.proofs.sheet.Sheet.with_reading.Goals as goal

pub invariant_of-result : goal.invariant_of-result
invariant_of-result c =
    let s = c.args.self in
    let g = s.register.now in
    let i = c.args.at in
    let n = c.args.kwmin in
    let within : i < length (known g) = omega (arith, ap length c.facilities.ensures.value) in
    record {
      sound = sheet_read (known g) g.prices s.row i n within (leb-true n 30000000 (sym c.if-not-reading_fits.ensures)) s.sound;
      slots = length-set s.row.figures i (read_as (figures_at s.row i) n) ∙ s.slots;
    }
