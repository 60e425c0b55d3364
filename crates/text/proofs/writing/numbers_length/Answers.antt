use Rattle.std.proofs.Common.{◌≡◌, ◌≤◌, length, get_or, ℤ, pos, ap, ◌∙◌, arith, w64, SFits, rules}
use Rattle.text.specs.Fields.{decimal}
use Rattle.text.proofs.Spaces.{decimal_short, length_spaced_more, spaced_all}
use Rattle.text.proofs.writing.numbers_length.Goals as goal

number : (c : goal.After-decimal_length) → ℤ
number c = get_or c.args.numbers.now c.loop-number.number-index (pos 0)

told : (c : goal.After-decimal_length) → (c.decimal_length.result ≡ length (decimal (number c))) × (length (decimal (number c)) ≤ 21)
unfolding number
told c =
    let fits : SFits w64 (number c) = search rules in
    (search rules, decimal_short (number c) fits)

pub overflow_add-count : goal.overflow_add-count
overflow_add-count c = omega (arith, told c)

pub overflow_add-count-in-loop-number : goal.overflow_add-count-in-loop-number
overflow_add-count-in-loop-number c = omega (arith, told c, c.loop-number.invariant, c.requires)

pub loop-number-preserved : goal.loop-number-preserved
unfolding number
loop-number-preserved c =
    let more = length_spaced_more c.args.numbers.now c.loop-number.number-index c.loop-number-test.true in
    (omega (arith, told c, c.loop-number.invariant), omega (arith, told c, c.loop-number.invariant))

pub returns : goal.returns
returns c = record {
  length = c.loop-number.invariant.0 ∙ ap length (spaced_all c.args.numbers.now c.loop-number.number-index c.loop-number-test.false);
  short = omega (arith, c.loop-number.invariant);
}
