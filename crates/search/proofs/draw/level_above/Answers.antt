-- The rise fits, and so does the level.
use Rattle.std.proofs.Common.{◌≡◌, pos, ◌+ℤ◌, ◌-ℤ◌, arith, w64, SFits}
use Rattle.std.specs.Int.{int_min}
use Rattle.std.proofs.lemmas.Int.{ints, clamps, to_z-of_z}
use Rattle.search.proofs.draw.level_above.Goals as goal

pub returns : goal.returns
returns c =
    let given_level = c.ranges.level in
    let given_price = c.ranges.price in
    let given_next = c.ranges.next in
    let gap : SFits w64 (c.args.next -ℤ c.args.price) = omega (arith, ints, c.requires.limits) in
    let is : c.min.result ≡ int_min (c.args.next -ℤ c.args.price) (pos 1000000) = simp to_z-of_z at c.min.ensures.value in
    let rise : SFits w64 c.min.result = omega (arith, ints, clamps, c.requires.limits) in
    let sum : SFits w64 (c.args.level +ℤ c.min.result) = omega (arith, ints, clamps, c.requires.limits, c.requires.level) in
    simp to_z-of_z (omega (arith, ints))
