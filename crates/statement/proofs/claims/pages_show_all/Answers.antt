use Rattle.statement.proofs.PagesHold.{pages_show_all}
use Rattle.statement.proofs.claims.pages_show_all.Goals as goal

pub returns : goal.returns
returns c = record { all = pages_show_all }
