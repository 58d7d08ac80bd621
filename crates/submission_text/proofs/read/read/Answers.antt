use Rattle.std.proofs.Common.{sym, subst}
use Rattle.submission_text.specs.Claims.{ReadsLines}
use Rattle.submission_text.proofs.Claims.{reads_lines}
use Rattle.submission_text.proofs.Faults.{first_faults, one_fault}
use Rattle.submission_text.proofs.read.read.Goals as goal

pub returns : goal.returns
returns c =
    let s = c.args.text.now in
    let e = c.read_lines.ensures in
    record {
      value = e;
      lines = subst (ReadsLines s) (sym e) (reads_lines s);
      faulty = first_faults s c.read_lines.result e;
      one_fault = one_fault;
    }
