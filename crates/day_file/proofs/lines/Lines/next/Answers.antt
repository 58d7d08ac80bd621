use Rattle.std.proofs.Common.{◌≡◌, ◌+◌, ◌≤◌, ◌^◌, length, sym, ap, ◌∙◌, arith}
use Rattle.std.specs.Option.{option_map}
use Rattle.day_file.specs.Lines.{lines, lines_left, next_of, next_line}
use Rattle.day_file.proofs.Lined.{lines_parted}
use Rattle.day_file.proofs.lines.Lines.next.Goals as goal

pub invariant_of-self-inside : goal.invariant_of-self-inside
invariant_of-self-inside c =
    let p = c.self.inside.passed in
    let rest = lines_left (option_map (λ x. x.now) c.cut.result.1) in
    let parts = lines_parted c.in_ok-self.field-0.now c.cut.result.0.now (option_map (λ x. x.now) c.cut.result.1) c.cut.ensures.front c.cut.ensures.back in
    let few : p + length (lines_left (option_map (λ x. x.now) c.self.inside.left)) ≤ 2 ^ 63 = c.self.inside.few in
    let was : length (lines_left (option_map (λ x. x.now) c.self.inside.left)) ≡ length (lines c.in_ok-self.field-0.now) = ap (λ o. length (lines_left (option_map (λ x. x.now) o))) c.in_ok-self.was in
    let now : p + 1 + length rest ≤ 2 ^ 63 = omega (arith, ap length parts) in
    (now, tt)

pub returns : goal.returns
returns c =
    let p = c.self.inside.passed in
    ap (next_of p) (sym (lines_parted c.in_ok-self.field-0.now c.cut.result.0.now (option_map (λ x. x.now) c.cut.result.1) c.cut.ensures.front c.cut.ensures.back))
    ∙ ap (λ o. next_of p (lines_left (option_map (λ x. x.now) o))) (sym c.in_ok-self.was) ∙ ap next_line c.self.view_is
