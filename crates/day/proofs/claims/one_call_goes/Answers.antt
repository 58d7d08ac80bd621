use Rattle.day.proofs.Posts.{call_goes, quiet_goes}
use Rattle.day.proofs.claims.one_call_goes.Goals as goal

pub returns : goal.returns
returns g c = record {
  any = λ wrap d x c r e y does posts keeps. call_goes g.L.Accounts.view g.L.Ledger.took wrap d x c r e y (g.L.Accounts.sound y) does posts keeps;
  quiet = λ wrap d x c r e does. quiet_goes g.L.Accounts.view g.L.Ledger.took g.L.Ledger.none wrap d x c r e (g.L.Accounts.sound x) does;
}
