use Rattle.std.proofs.Common.{ap, ◌∙◌, arith}
use Rattle.std.proofs.lemmas.Int.{ints}
use Rattle.cost.specs.Meaning.{total}
use Rattle.stepped_cost.specs.Pieces.{made_keeps, made_last, made_last_limit}
use Rattle.stepped_cost.proofs.stepped.SteppedCost.last_load.Goals as goal

pub width-requires : goal.width-requires
width-requires c =
    let kept = made_keeps c.args.self.now c.if-not-is_made.ensures in
    rw c.steps.ensures.widths kept.numbers.width_limit

pub overflow_add-result : goal.overflow_add-result
overflow_add-result c =
    let sum = c.width.ensures ∙ ap total c.steps.ensures.widths in
    let limit = made_last_limit c.args.self.now c.if-not-is_made.ensures in
    let kept = made_keeps c.args.self.now c.if-not-is_made.ensures in
    omega (arith, ints, kept.numbers.first_limit)

pub returns : goal.returns
returns c =
    let sum = c.width.ensures ∙ ap total c.steps.ensures.widths in
    let last = made_last c.args.self.now c.if-not-is_made.ensures in
    let limit = made_last_limit c.args.self.now c.if-not-is_made.ensures in
    let kept = made_keeps c.args.self.now c.if-not-is_made.ensures in
    omega (arith, ints, kept.numbers.first_limit)
