use Rattle.std.proofs.Common.{◌≡◌, replicate, rules}
use Rattle.sheets.specs.Sheets.{blank_row}
use Rattle.day.proofs.Runs.{blank_held}
use Rattle.day_file.proofs.course.Course.blank.Goals as goal

pub returns : goal.returns
returns c =
    let rows = c.in_ok-vec.field-0.items in
    let n = c.args.sheets in
    let cleared : rows ≡ replicate n blank_row = search rules in
    record {
      day = blank_held c.blank.result rows n c.blank.ensures.facilities c.blank.ensures.prices cleared;
      text = c.new.ensures.items;
      calls = c.none.ensures.0;
      taken = c.none.ensures.1.0;
      refused = c.none.ensures.1.1;
    }
