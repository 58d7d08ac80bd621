use Rattle.std.proofs.Common.{◌≡◌, refl, rules}
use Rattle.std.proofs.lemmas.Fn.{says_at}
use Rattle.text.proofs.line.line_with.Goals as goal

pub returns-in_err-x-clause-value : goal.returns-in_err-x-clause-value
returns-in_err-x-clause-value g c =
    λ reader reads.
    let e : c.read.result ≡ reader c.in_ok-value.value.now = reads _ _ (says_at g.F.Fn c.read.ensures refl) in
    search rules

pub returns-in_err-rest-clause-value : goal.returns-in_err-rest-clause-value
returns-in_err-rest-clause-value g c =
    λ reader reads.
    let e : c.read.result ≡ reader c.in_ok-value.value.now = reads _ _ (says_at g.F.Fn c.read.ensures refl) in
    search rules

pub returns : goal.returns
returns g c =
    record {
      told = (_, says_at g.F.Fn c.read.ensures (search rules));
      value = λ reader reads.
          let e : c.read.result ≡ reader c.in_ok-value.value.now = reads _ _ (says_at g.F.Fn c.read.ensures refl) in
          search rules;
    }
