-- Submissions: ramps and a curve.
use Rattle.std.specs.Prelude.{Bool, ◌&&◌, ◌==◌}
use Rattle.offers.specs.Curves.{same_curve}
use Rattle.offers.specs.declared.submission.Submission.{Submission}

-- ramps and curve are equal
abbrev pub same_submission : Submission → Submission → Bool
same_submission s t = s.ramp_up == t.ramp_up && (s.ramp_down == t.ramp_down && same_curve s.curve t.curve)
