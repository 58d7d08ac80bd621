use Rattle.std.proofs.Common.{ℕ, List, Option, rules, sym, ap, subst, ◌∙◌}
use Rattle.std.specs.Io.{StartsWith, appended_bytes}
use Rattle.std.specs.Io.KnownBytes.{Consumes}
use Rattle.std.proofs.KnownBytes.{Consumes-trans, starts_with_rest}
use Rattle.streams.specs.Inputs.{line_after}
use Rattle.streams.proofs.input.read_front.Goals as goal

-- a text that was all that was taken stays so where it grows by what is taken then
Consumes-grown : (a b c : Option (List ℕ)) (old new : List ℕ) → Consumes a b old → StartsWith new old → Consumes b c (appended_bytes old new) → Consumes a c new
Consumes-grown a b c old new before starts more = subst (Consumes a c) (sym (starts_with_rest new old starts)) (Consumes-trans a b c old _ before more)

pub loop-left-preserved : goal.loop-left-preserved
loop-left-preserved g c =
    let more = c.in-Ok.ensures in
    (search rules, Consumes-grown _ _ _ c.loop-left.text.items c.append_read.new.text.items c.loop-left.invariant.1 more.appends more.bytes)

pub returns-in-Err-clause-stopped : goal.returns-in-Err-clause-stopped
returns-in-Err-clause-stopped g c =
    let text = c.append_read.new.text.items in
    let more = c.append_read.ensures in
    (text, Consumes-grown _ _ _ c.loop-left.text.items text c.loop-left.invariant.1 more.appends more.bytes, c.after.ensures ∙ ap line_after c.as_slice.ensures.value)
