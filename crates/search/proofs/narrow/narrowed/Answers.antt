-- The two loads are those at which the increments pass the tension less the step, and the tension and the step.
use Rattle.std.proofs.Common.{pos, ◌+ℤ◌, ◌-ℤ◌, arith, w64, SFits}
use Rattle.std.proofs.lemmas.Int.{ints, to_z-of_z}
use Rattle.search.specs.Turns.{Turns}
use Rattle.search.proofs.narrow.narrowed.Goals as goal

pub returns : goal.returns
returns g c =
    let given_tension = c.ranges.tension in
    let given_step = c.ranges.step in
    let less : SFits w64 (c.args.tension -ℤ c.args.step) = omega (arith, ints, c.requires.tension, c.requires.step) in
    let below : SFits w64 (c.args.tension -ℤ c.args.step +ℤ pos 1) = omega (arith, ints, c.requires.tension, c.requires.step) in
    let above : SFits w64 (c.args.tension +ℤ c.args.step) = omega (arith, ints, c.requires.tension, c.requires.step) in
    let low : Turns (g.C.Cost.meaning c.args.cost.now) (c.args.tension -ℤ c.args.step +ℤ pos 1) c.turn_from.result = simp to_z-of_z at c.turn_from.ensures in
    let high : Turns (g.C.Cost.meaning c.args.cost.now) (c.args.tension +ℤ c.args.step) c.turn_from-2.result = simp to_z-of_z at c.turn_from-2.ensures in
    let low_fits : SFits w64 c.turn_from.result = omega (arith, ints) in
    let high_fits : SFits w64 c.turn_from-2.result = omega (arith, ints) in
    simp to_z-of_z (record { low_turns = low; high_turns = high })
