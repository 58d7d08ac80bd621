use Rattle.std.proofs.Common.{rules}
use Rattle.day.proofs.step.step.Goals as goal

pub returns-in-Register-clause-does : goal.returns-in-Register-clause-does
returns-in-Register-clause-does g c = let h = c.register.ensures (g.L.Accounts.view c.args.ledger.now) c.args.rows.now in search rules

pub returns-in-Open-clause-does : goal.returns-in-Open-clause-does
returns-in-Open-clause-does g c = let h = c.open.ensures (g.L.Accounts.view c.args.ledger.now) c.args.rows.now in search rules

pub returns-in-Lodge-clause-does : goal.returns-in-Lodge-clause-does
returns-in-Lodge-clause-does g c = let h = c.lodge.ensures (g.L.Accounts.view c.args.ledger.now) in search rules

pub returns-in-Start-clause-does : goal.returns-in-Start-clause-does
returns-in-Start-clause-does g c = let h = c.start.ensures (g.L.Accounts.view c.args.ledger.now) in search rules

pub returns-in-Reading-clause-does : goal.returns-in-Reading-clause-does
returns-in-Reading-clause-does g c = let h = c.reading.ensures (g.L.Accounts.view c.args.ledger.now) in search rules

pub returns-in-Position-clause-does : goal.returns-in-Position-clause-does
returns-in-Position-clause-does g c = let h = c.position.ensures (g.L.Accounts.view c.args.ledger.now) in search rules

pub returns-in-Demand-clause-does : goal.returns-in-Demand-clause-does
returns-in-Demand-clause-does g c = let h = c.demand.ensures (g.L.Accounts.view c.args.ledger.now) in search rules

pub returns-in-Adjust-clause-took : goal.returns-in-Adjust-clause-took
returns-in-Adjust-clause-took g c = let h = c.adjust.ensures.took in rw c.in-Adjust.is (search rules)

pub returns-in-Adjust-clause-kept : goal.returns-in-Adjust-clause-kept
returns-in-Adjust-clause-kept g c = let h = c.adjust.ensures.kept in rw c.in-Adjust.is (search rules)
