-- Why a text is refused, by number.
use Rattle.std.specs.Prelude.{ℕ}
use Rattle.text.specs.declared.line.LineFault.{LineFault}
use Rattle.text.specs.declared.line.LineFault.TheVariants.{Key, Number, Feed, Extra}

pub data Cause : Type 0 where
  wrong_key : Cause
  bad_number : Cause
  bad_end : Cause
  short_memory : Cause

-- 20: another key, or no `=`. 21: a number badly written or outside its span.
-- 22: no line feed, or bytes after the last line. 23: memory too short for a text.
abbrev pub refusal_number : Cause → ℕ
refusal_number wrong_key = 20
refusal_number bad_number = 21
refusal_number bad_end = 22
refusal_number short_memory = 23

abbrev pub cause : LineFault → Cause
cause Key = wrong_key
cause (Number e) = bad_number
cause Feed = bad_end
cause Extra = bad_end
