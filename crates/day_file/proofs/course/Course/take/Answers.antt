use Rattle.std.proofs.Common.{Some, None, ◌∙◌}
use Rattle.day_file.specs.Calls.{said}
use Rattle.day_file.proofs.Courses.{makes_no_call, makes_call, on_no_line, on_line}
use Rattle.day_file.proofs.Settles.{on_ok}
use Rattle.day_file.proofs.course.Course.take.Goals as goal

pub returns-in_default : goal.returns-in_default
returns-in_default g c =
    let s = c.args.line.now in
    makes_no_call g.L.Accounts.view g.L.Ledger.took c.args.number s c.args.self.now c.args.ledger.now (on_no_line s c.in_default.field-0 c.in_default.ensures)

pub returns-in-Some : goal.returns-in-Some
returns-in-Some g c =
    let s = c.args.line.now in
    let pairs = c.as_slice.ensures.value ∙ c.in_ok-pairs.ensures in
    let here = on_line s c.in-Ok.said c.as_slice.result.now (Some (said c.in-Some.call)) c.in-Ok.ensures pairs c.in-Some.ensures in
    on_ok c.make.result (makes_call g.L.Accounts.view g.L.Ledger.took c.args.number s c.in-Some.call c.args.self.now c.make.new.self c.args.ledger.now c.make.new.ledger here) c.make.ensures

pub returns : goal.returns
returns g c =
    let s = c.args.line.now in
    let pairs = c.as_slice.ensures.value ∙ c.in_ok-pairs.ensures in
    makes_no_call g.L.Accounts.view g.L.Ledger.took c.args.number s c.args.self.now c.args.ledger.now (on_line s c.in-Ok.said c.as_slice.result.now None c.in-Ok.ensures pairs c.in-None.ensures)
