use Rattle.std.proofs.Common.{◌+◌, ◌-◌, ◌*◌, get_or, pos, refl, ap, ◌∙◌, arith, rules, w64, SFits}
use Rattle.std.specs.Prelude.{unsigned_abs}
use Rattle.std.proofs.lemmas.Int.{ints, to_z-of_z}
use mir.Val.{to_z}
use Rattle.text.proofs.Digits.{next_digit, next_small, next_value, last_value}
use Rattle.text.proofs.numerals.digits_value.Goals as goal

pub overflow_mul-number : goal.overflow_mul-number
overflow_mul-number c =
    let small = next_small c.args.digits.now c.requires _ c.loop-digit.digit-index c.loop-digit-test.true c.loop-digit.invariant.1 in
    rw c.loop-digit.invariant.0 (omega (arith, ints, small))

pub overflow_sub-digit : goal.overflow_sub-digit
overflow_sub-digit c = (next_digit c.args.digits.now c.requires _ c.loop-digit.digit-index c.loop-digit-test.true c.loop-digit.invariant.1).0

pub overflow_add-number : goal.overflow_add-number
overflow_add-number c =
    let small = next_small c.args.digits.now c.requires _ c.loop-digit.digit-index c.loop-digit-test.true c.loop-digit.invariant.1 in
    rw c.loop-digit.invariant.0 (search rules)

pub loop-digit-preserved : goal.loop-digit-preserved
loop-digit-preserved c =
    let small = next_small c.args.digits.now c.requires _ c.loop-digit.digit-index c.loop-digit-test.true c.loop-digit.invariant.1 in
    let more = next_value c.args.digits.now c.requires _ c.loop-digit.digit-index c.loop-digit-test.true c.loop-digit.invariant.1 in
    let natural = c.loop-digit.invariant.0 in
    let times : SFits w64 (pos (10 * unsigned_abs (to_z w64 c.loop-digit.number-bits))) = omega (arith, ints, small) in
    let sum : SFits w64 (pos (10 * unsigned_abs (to_z w64 c.loop-digit.number-bits) + (get_or c.args.digits.now c.loop-digit.digit-index 0 - 48))) = omega (arith, ints, small) in
    let digit : SFits w64 (pos (get_or c.args.digits.now c.loop-digit.digit-index 0 - 48)) = omega (arith, ints, small) in
    rw (natural, c.from.ensures) (simp to_z-of_z (refl, more))

pub returns : goal.returns
returns c = c.loop-digit.invariant.0 ∙ ap pos (last_value c.args.digits.now _ c.loop-digit.digit-index c.loop-digit-test.false c.loop-digit.invariant.1)
