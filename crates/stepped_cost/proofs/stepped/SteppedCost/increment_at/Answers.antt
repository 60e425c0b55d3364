use Rattle.std.proofs.Common.{arith, rules}
use Rattle.std.proofs.lemmas.Int.{ints}
use Rattle.stepped_cost.specs.Pieces.{made_keeps, made_increment}
use Rattle.stepped_cost.proofs.stepped.SteppedCost.increment_at.Goals as goal

pub slope_at-requires : goal.slope_at-requires
slope_at-requires c =
    let kept = made_keeps c.args.self.now c.if-not-is_made.ensures in
    rw c.steps.ensures.widths (record { within = kept.numbers.width_limit; beyond = omega (arith, ints, kept.numbers.first_limit) })

pub returns : goal.returns
returns c =
    let here = made_increment c.args.self.now c.if-not-is_made.ensures c.args.load (omega (arith, ints)) in
    search rules
