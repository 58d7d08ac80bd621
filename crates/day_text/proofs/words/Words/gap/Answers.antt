use Rattle.std.proofs.Common.{◌≡◌, ◌-◌, false, nat_le, ap, ◌∙◌, arith}
use Rattle.std.proofs.lemmas.Bool.Decides.{nat_tests}
use Rattle.std.specs.Option.{option_map}
use Rattle.day_text.specs.declared.fault.Fault.TheVariants.{SpacesTogether}
use Rattle.day_text.specs.Signs.{gap, is_last}
use Rattle.day_text.specs.Words.{words_left}
use Rattle.day_text.proofs.Wording.{not_last}
use Rattle.day_text.proofs.words.Words.gap.Goals as goal

pub returns-in_default-2 : goal.returns-in_default-2
returns-in_default-2 c =
    let k = c.self.inside.passed in
    let ws = words_left (option_map (λ x. x.now) c.self.inside.left) in
    let last : is_last ws ≡ false = not_last (λ x. x.now) c.self.inside.left c.if-is_none.ensures in
    let many : nat_le k 1 ≡ false = grind (arith, nat_tests) in
    let here : SpacesTogether (k - 1) ≡ gap k ws = grind (arith, many, last) in
    here ∙ ap (λ v. gap v.passed v.left) c.self.view_is
