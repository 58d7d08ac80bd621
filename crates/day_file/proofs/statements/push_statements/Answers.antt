use Rattle.std.proofs.Common.{◌≡◌, ◌++◌, None, rules}
use Rattle.journal.specs.Shown.{posted_of}
use Rattle.day_file.specs.Lines.{lines, next_line}
use Rattle.day_file.specs.Statements.{statements_from}
use Rattle.day_file.proofs.Stating.{tells_next, tells_all}
use Rattle.day_file.proofs.statements.push_statements.Goals as goal

pub loop-number-preserved : goal.loop-number-preserved
loop-number-preserved c =
    let l = c.loop-number in
    let ls = posted_of c.args.journal.now in
    tells_next ls (c.args.out.now.items ++ statements_from 1 (lines c.args.file.now) ls) l.out.items c.push_statement.new.out.items l.lines c.next.new.self
    c.in-Some.number c.in-Some.line.now c.in-Some.ensures l.invariant c.in_ok-push_statement.ensures

pub returns : goal.returns
returns c =
    let l = c.loop-number in
    let ls = posted_of c.args.journal.now in
    let none : None ≡ next_line l.lines = search rules in
    tells_all ls (c.args.out.now.items ++ statements_from 1 (lines c.args.file.now) ls) l.out.items l.lines none l.invariant
