use Rattle.std.proofs.Common.{◌≡◌, ℤ, Result, Some, Ok, Err, ◌∙◌, rules, tests, to_z, of_z, w64}
use Rattle.std.specs.Option.{option_map}
use Rattle.text.specs.declared.number.NumberFault.{NumberFault}
use Rattle.text.specs.declared.number.NumberFault.TheVariants.{Span}
use Rattle.text.specs.Numbers.{clamped, with_sign, in_signed_span}
use Rattle.text.proofs.Spans.{span_clamped}
use Rattle.text.proofs.number.read_signed.Goals as goal

pub returns-in-Ok : goal.returns-in-Ok
returns-in-Ok c =
    let e : Some c.in_ok-z.z ≡ option_map clamped (with_sign c.args.s.now) = search rules in
    let told : ◌≡◌ {A = Result ℤ NumberFault} (Ok (to_z w64 (of_z w64 c.in-Ok.z))) (in_signed_span c.args.low c.args.high (Some c.in_ok-z.z)) = search (rules, tests) in
    told ∙ span_clamped c.args.low c.args.high c.ranges.low c.ranges.high (with_sign c.args.s.now) c.in_ok-z.z e

pub returns-in_default : goal.returns-in_default
returns-in_default c =
    let e : Some c.in_ok-z.z ≡ option_map clamped (with_sign c.args.s.now) = search rules in
    let told : ◌≡◌ {A = Result ℤ NumberFault} (Err Span) (in_signed_span c.args.low c.args.high (Some c.in_ok-z.z)) = search (rules, tests) in
    told ∙ span_clamped c.args.low c.args.high c.ranges.low c.ranges.high (with_sign c.args.s.now) c.in_ok-z.z e
