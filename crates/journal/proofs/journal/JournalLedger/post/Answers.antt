use Rattle.std.proofs.Common.{◌≡◌, ◌<◌, length, get_or, pos, ◌+ℤ◌, None, refl, w64, SFits, rules}
use Rattle.std.proofs.lemmas.Int.{to_z-of_z}
use Rattle.std.proofs.lemmas.Result.{err_from_is_err_and}
use Rattle.ledger.specs.Posting.{refusal}
use Rattle.journal.specs.Extending.{extended_none}
use Rattle.journal.specs.Lines.{journal_view}
use Rattle.journal.proofs.Running.{one_more}
use Rattle.journal.proofs.journal.JournalLedger.post.Goals as goal

pub invariant_of-self : goal.invariant_of-self
invariant_of-self c =
    let s = c.args.self.now in
    let ls = s.lines.now in
    let u = s.used in
    let zs = s.balances in
    let a = c.args.account in
    let x = c.args.cents in
    let inside : a < length zs = search rules in
    let f : SFits w64 (get_or zs a (pos 0)) = search rules in
    let k : SFits w64 x = c.ranges.cents in
    let ok : refusal (journal_view ls u) a x ≡ None = simp to_z-of_z at c.in_ok-check_post.ensures in
    let more = one_more ls u zs a x s.within s.slots s.running s.spans s.moves ok in
    let m : SFits w64 (get_or zs a (pos 0) +ℤ x) = more.fits in
    simp to_z-of_z (record { within = more.within; slots = more.slots; running = more.running; spans = more.spans; moves = more.moves })

pub returns : goal.returns
returns c =
    let s = c.args.self.now in
    let ls = s.lines.now in
    let u = s.used in
    let zs = s.balances in
    let a = c.args.account in
    let x = c.args.cents in
    let inside : a < length zs = search rules in
    let f : SFits w64 (get_or zs a (pos 0)) = search rules in
    let k : SFits w64 x = c.ranges.cents in
    let ok : refusal (journal_view ls u) a x ≡ None = simp to_z-of_z at c.in_ok-check_post.ensures in
    let more = one_more ls u zs a x s.within s.slots s.running s.spans s.moves ok in
    let m : SFits w64 (get_or zs a (pos 0) +ℤ x) = more.fits in
    record {
      answered = (ok, simp to_z-of_z more.posted);
      took = (simp to_z-of_z more.extended, refl);
      written = (ok, simp to_z-of_z, refl, simp to_z-of_z);
      lender = refl;
    }

pub returns-in_err-check_post-clause-took : goal.returns-in_err-check_post-clause-took
returns-in_err-check_post-clause-took c =
    let s = c.args.self.now in
    let refused = err_from_is_err_and c.from_residual.result c.from_residual.ensures.1 in
    rw refused.1 (extended_none s.lines.now s.used, refl)
