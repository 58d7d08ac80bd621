use Rattle.std.proofs.Common.{◌++◌, append-nil, sym, ap, ◌∙◌}
use Rattle.day_file.specs.Faults.{or_before, told_of, terms_of, faults_text}
use Rattle.day_file.proofs.Faulty.{reads_on}
use Rattle.day_file.proofs.faults.checked.Goals as goal

pub loop-number-preserved-in-Ok : goal.loop-number-preserved-in-Ok
loop-number-preserved-in-Ok c =
    let l = c.loop-number in
    let file = c.args.file.now in
    let told = l.faults.items in
    let s = c.in-Some.line.now in
    reads_on (terms_of file) (faults_text file) l.terms c.in-Ok.after told told l.lines c.next.new.self c.in-Some.number s c.in-Some.ensures l.invariant (ap (or_before l.terms) c.in-Ok.ensures)
    (sym (append-nil told) ∙ ap (λ r. told ++ told_of c.in-Some.number r) c.in-Ok.ensures)

pub loop-number-preserved : goal.loop-number-preserved
loop-number-preserved c =
    let l = c.loop-number in
    let file = c.args.file.now in
    let told = l.faults.items in
    let s = c.in-Some.line.now in
    reads_on (terms_of file) (faults_text file) l.terms l.terms told c.extend_from_slice.new.self.items l.lines c.next.new.self c.in-Some.number s c.in-Some.ensures l.invariant (ap (or_before l.terms) c.in-Err.ensures)
    (c.in_ok-extend_from_slice-in-Err.ensures.items ∙ ap (λ t. told ++ t) (c.as_bytes.ensures.value ∙ c.in_ok-fault_line-in-Err.ensures) ∙ ap (λ r. told ++ told_of c.in-Some.number r) c.in-Err.ensures)
