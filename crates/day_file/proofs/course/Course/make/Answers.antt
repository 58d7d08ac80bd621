use Rattle.std.proofs.Common.{◌≡◌, List, [], ◌∷◌, ◌++◌, length, take, drop, append-nil, sym, ap, ◌∙◌, subst, refl, rules}
use Rattle.std.proofs.Math.Seq.{take-append_seam}
use Rattle.sheets.specs.declared.row.Row.{Row}
use Rattle.pool.specs.Held.{held}
use Rattle.day.specs.Law.{Goes}
use Rattle.answer_text.specs.Answers.{answered}
use Rattle.day_file.proofs.course.Course.make.Goals as goal

pub returns : goal.returns
returns g c =
    let r = c.made-answer.result in
    let old = c.args.self.now in
    let line = answered c.args.number r in
    let written = c.in_ok-extend_from_slice.ensures.items ∙ ap (λ l. old.text.items ++ l) (c.bytes.ensures.value ∙ c.answer_line.ensures ∙ sym (append-nil line)) in
    let rows = c.made-answer.new.rows in
    let rest = drop (length rows) old.rows.items in
    let long : length rows ≡ old.rows.len = search rules in
    let kept : take old.rows.len (rows ++ rest) ≡ rows = ap (λ n. take n (rows ++ rest)) (sym long) ∙ take-append_seam rows rest in
    let goes = subst (λ (before : List Row). Goes g.L.Accounts.view g.L.Ledger.took (held old.register before) c.args.ledger.now (c.args.call ∷ []) (r ∷ []) (held c.made-answer.new.register rows) c.made-answer.new.ledger)
    c.as_mut_slice.ensures.value c.made-answer.ensures in
    record {
      answer = r;
      goes = subst (λ (after : List Row). Goes g.L.Accounts.view g.L.Ledger.took (held old.register old.rows.items) c.args.ledger.now (c.args.call ∷ []) (r ∷ []) (held c.made-answer.new.register after) c.made-answer.new.ledger)
          (sym kept) goes;
      printed = record { each = refl; text = written; calls = c.with-self.ensures.calls; taken = c.with-self.ensures.taken; refused = c.with-self.ensures.refused };
    }
