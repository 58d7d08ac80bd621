use Rattle.std.proofs.Common.{◌≡◌, true, false, ◌∙◌, rules}
use Rattle.std.specs.List.{zip}
use Rattle.std.proofs.lemmas.Iterator.{cases_from_all, YieldsList-from_slice, YieldsList-from_zip}
use Rattle.sheets.specs.Sheets.{figures_sound, no_facility, no_figures}
use Rattle.sheets.proofs.Lists.{all2_zip, all_by_cases}
use Rattle.sheets.proofs.sound.table_sound.Goals as goal

pub returns : goal.returns
returns c =
    let test = figures_sound c.args.prices in
    let fs = c.args.facilities.now in
    let xs = c.args.table.now in
    let cases = cases_from_all c.all.new.self _ c.all.result (λ q. test q.0 q.1 ≡ true) (λ q. test q.0 q.1 ≡ false) c.all.ensures.ran (YieldsList-from_zip (YieldsList-from_slice fs (search rules)) (YieldsList-from_slice xs (search rules))) (λ x q k. search rules) (λ x q k. search rules) in
    all_by_cases (λ q. test q.0 q.1) (zip fs xs) (no_facility, no_figures) c.all.result cases
    ∙ all2_zip test fs xs c.requires
