use Rattle.std.proofs.Common.{◌≡◌, ◌+◌, ◌≤◌, ◌^◌, length, sym, ap, ◌∙◌, arith}
use Rattle.std.specs.Option.{option_map}
use Rattle.day_text.specs.Words.{words_left, word_list, next_of, next_word, after, after_of}
use Rattle.day_text.proofs.Wording.{words_parted}
use Rattle.day_text.proofs.words.Words.next.Goals as goal

pub invariant_of-self-inside : goal.invariant_of-self-inside
invariant_of-self-inside c =
    let p = c.self.inside.passed in
    let rest = words_left (option_map (λ x. x.now) c.cut.result.1) in
    let parts = words_parted c.in_ok-self.field-0.now c.cut.result.0.now (option_map (λ x. x.now) c.cut.result.1) c.cut.ensures.front c.cut.ensures.back in
    let few : p + length (words_left (option_map (λ x. x.now) c.self.inside.left)) ≤ 2 ^ 63 = c.self.inside.few in
    let was : length (words_left (option_map (λ x. x.now) c.self.inside.left)) ≡ length (word_list c.in_ok-self.field-0.now) = ap (λ o. length (words_left (option_map (λ x. x.now) o))) c.in_ok-self.was in
    let now : p + 1 + length rest ≤ 2 ^ 63 = omega (arith, ap length parts) in
    (now, tt)

pub returns-clause-value : goal.returns-clause-value
returns-clause-value c =
    let p = c.self.inside.passed in
    ap (next_of p) (sym (words_parted c.in_ok-self.field-0.now c.cut.result.0.now (option_map (λ x. x.now) c.cut.result.1) c.cut.ensures.front c.cut.ensures.back))
    ∙ ap (λ o. next_of p (words_left (option_map (λ x. x.now) o))) (sym c.in_ok-self.was) ∙ ap next_word c.self.view_is

pub returns-clause-passed : goal.returns-clause-passed
returns-clause-passed c =
    let p = c.self.inside.passed in
    ap (after_of p) (sym (words_parted c.in_ok-self.field-0.now c.cut.result.0.now (option_map (λ x. x.now) c.cut.result.1) c.cut.ensures.front c.cut.ensures.back))
    ∙ ap (λ o. after_of p (words_left (option_map (λ x. x.now) o))) (sym c.in_ok-self.was) ∙ ap after c.self.view_is
