use Rattle.std.proofs.Common.{◌^◌, ◌≤◌, ◌<◌, ◌*◌, ◌+◌, arith, length, get_or, drop, sym, ◌∙◌}
use Rattle.std.specs.Str.Parse.{digits_value, digits_value_after}
use Rattle.std.specs.List.{list_all}
use Rattle.std.proofs.lemmas.List.{at_drop_all}
use Rattle.std.specs.Char.{digit_value, is_ascii_digit}
use Rattle.std.proofs.lemmas.Bool.{eqb-false}
use Rattle.patricia_run.proofs.Numbers.{number_big, number_some, after_drop, digits_value_after-ge}
use Rattle.patricia_run.proofs.Numbers.{digit_is}
use Rattle.patricia_run.proofs.reading.number.Goals as goal

pub returns-in_err-checked_mul : goal.returns-in_err-checked_mul
returns-in_err-checked_mul c =
    let xs = c.args.field.now in
    let i = c.loop-b.b-index in
    let step = after_drop xs i c.loop-b.value c.loop-b-test.true in
    let more = digits_value_after-ge (c.loop-b.value * 10 + digit_value (get_or xs i 0)) (drop (i + 1) xs) in
    let big : 2 ^ 64 ≤ digits_value 10 xs = omega (arith, c.loop-b.invariant.value, step, more, c.in_err-checked_mul.ensures) in
    rw c.from_residual.ensures (number_big c.args.field.now big)

pub returns-in_err-value : goal.returns-in_err-value
returns-in_err-value c =
    let xs = c.args.field.now in
    let i = c.loop-b.b-index in
    let step = after_drop xs i c.loop-b.value c.loop-b-test.true in
    let more = digits_value_after-ge (c.loop-b.value * 10 + digit_value (get_or xs i 0)) (drop (i + 1) xs) in
    let is = digit_is (get_or xs i 0) (sym c.is_ascii_digit.ensures.value ∙ c.if-not-is_ascii_digit.false) in
    let big : 2 ^ 64 ≤ digits_value 10 xs = omega (
      arith,
      c.loop-b.invariant.value,
      step,
      more,
      is,
      c.from.ensures,
      c.in_ok-checked_mul.ensures,
      c.in_err-value.ensures,
    ) in
    rw c.from_residual-in_err-value.ensures (number_big c.args.field.now big)

pub returns : goal.returns
returns c =
    let xs = c.args.field.now in
    let i = c.loop-b.b-index in
    let full : 0 < length xs = omega (arith, eqb-false (length xs) 0 (sym c.is_empty.ensures ∙ c.if-is_empty.false)) in
    number_some xs c.loop-b.value full
    (c.loop-b.invariant.digits ∙ at_drop_all (list_all is_ascii_digit) xs i
    c.loop-b-test.false)
    (c.loop-b.invariant.value ∙ at_drop_all (digits_value_after 10 c.loop-b.value) xs i
    c.loop-b-test.false) c.loop-b.invariant.small
