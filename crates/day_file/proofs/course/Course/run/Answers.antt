use Rattle.std.proofs.Common.{◌≡◌, ◌≤◌, ◌<◌, ◌^◌, length, None, sym, subst, arith, rules}
use Rattle.day_file.specs.Lines.{Numbered, lines, next_line}
use Rattle.day_file.proofs.Lined.{lines_few}
use Rattle.day_file.proofs.Courses.{Going, begun, goes_next, few_before, goes_whole}
use Rattle.day_file.proofs.course.Course.run.Goals as goal

pub loop-number-init : goal.loop-number-init
loop-number-init g c =
    let view = g.L.Accounts.view in
    let took = g.L.Ledger.took in
    let file = c.args.file.now in
    let room : length file < 2 ^ 63 = search rules in
    let few : length (lines file) ≤ 2 ^ 63 = omega (arith, lines_few file) in
    subst (λ (ls : Numbered). Going view took file c.args.self.now c.args.ledger.now ls c.args.self.now c.args.ledger.now) (sym c.of-lines.ensures)
    (begun view took file c.args.self.now c.args.ledger.now c.requires few)

pub take-requires : goal.take-requires
take-requires g c =
    let l = c.loop-number in
    few_before g.L.Accounts.view g.L.Ledger.took c.args.file.now c.args.self.now c.args.ledger.now l.lines c.next.new.self c.in-Some.number c.in-Some.line.now l.self l.ledger c.in-Some.ensures l.invariant

pub loop-number-preserved : goal.loop-number-preserved
loop-number-preserved g c =
    let l = c.loop-number in
    goes_next g.L.Accounts.view g.L.Ledger.took c.lists_go_on.ensures c.args.file.now c.args.self.now c.args.ledger.now l.lines c.next.new.self c.in-Some.number c.in-Some.line.now l.self c.take.new.self l.ledger c.take.new.ledger
    c.in-Some.ensures l.invariant c.in_ok-take.ensures

pub returns : goal.returns
returns g c =
    let l = c.loop-number in
    let none : None ≡ next_line l.lines = search rules in
    goes_whole g.L.Accounts.view g.L.Ledger.took c.args.file.now c.args.self.now c.args.ledger.now l.lines l.self l.ledger none l.invariant
