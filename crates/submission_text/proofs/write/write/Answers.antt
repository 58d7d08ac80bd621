use Rattle.std.proofs.Common.{ap, ◌∙◌}
use Rattle.text.specs.Drafts.{placed_text, placed_length}
use Rattle.submission_text.proofs.Claims.{reads_back, one_text}
use Rattle.submission_text.proofs.write.write.Goals as goal

pub returns : goal.returns
returns c =
    let e = c.bytes.ensures.value ∙ c.written.ensures in
    record {
      value = c.place.ensures.value ∙ ap (λ t. placed_length t c.args.out.now) e;
      after = c.place.ensures.after ∙ ap (λ t. placed_text t c.args.out.now) e;
      reads_back = reads_back;
      one_text = one_text;
    }
