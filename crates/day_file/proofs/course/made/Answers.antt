use Rattle.pool.specs.Held.{held}
use Rattle.day_file.proofs.Courses.{made_one}
use Rattle.day_file.proofs.course.made.Goals as goal

pub returns : goal.returns
returns g c =
    let done = rw c.unwrap.ensures at c.make_all.ensures in
    made_one g.L.Accounts.view g.L.Ledger.took (held c.args.register.now c.args.rows.now) (held c.make_all.new.register c.make_all.new.sheets) c.args.ledger.now c.make_all.new.ledger c.args.call c.make_all.new.answers _ done.goes
