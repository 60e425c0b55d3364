use Rattle.std.proofs.Common.{[], ◌∷◌, ◌++◌, arith}
use Rattle.std.proofs.lemmas.List.{length-append}
use Rattle.text.specs.Writing.{spaced}
use Rattle.record_form.proofs.setting.line_length.Goals as goal

pub overflow_add-result : goal.overflow_add-result
overflow_add-result c = omega (arith, c.numbers_length.ensures.short, c.requires.few, c.requires.short)

pub overflow_add-result-2 : goal.overflow_add-result-2
overflow_add-result-2 c = omega (arith, c.numbers_length.ensures.short, c.requires.few, c.requires.short)

pub returns : goal.returns
returns c = record {
  length = omega (arith, c.numbers_length.ensures.length, length-append c.args.start.now (spaced c.args.numbers.now ++ (10 ∷ [])), length-append (spaced c.args.numbers.now) (10 ∷ []));
  short = omega (arith, c.numbers_length.ensures.short);
}
