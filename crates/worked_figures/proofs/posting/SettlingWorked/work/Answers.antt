use Rattle.std.proofs.Common.{[], ◌∷◌, ◌∙◌, append_assoc}
use Rattle.worked_figures.proofs.posting.SettlingWorked.work.Goals as goal

pub returns : goal.returns
returns c =
    rw (
      c.in_ok-push_settled-4.ensures,
      c.in_ok-push_settled-3.ensures,
      c.in_ok-push_settled-2.ensures,
      c.in_ok-push_settled.ensures,
      c.reason_in-reason.ensures,
      c.place_in-place.ensures,
      c.number_in-number.ensures,
      c.refusal_in-refusal.ensures,
      c.posts_of-posts.ensures,
      c.settled-answer.ensures,
    ) (append_assoc _ (_ ∷ []) (_ ∷ []) ∙ append_assoc _ (_ ∷ []) (_ ∷ _ ∷ []) ∙ append_assoc _ (_ ∷ []) (_ ∷ _ ∷ _ ∷ []))
