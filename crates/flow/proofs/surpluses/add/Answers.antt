-- The other numbers stay.
use Rattle.std.proofs.Common.{◌+ℤ◌, refl, arith, w64, SFits}
use Rattle.std.proofs.lemmas.Int.{ints, to_z-of_z}
use Rattle.network.specs.Records.{numbers}
use Rattle.flow.proofs.Gathered.{set_by}
use Rattle.flow.proofs.surpluses.add.Goals as goal

pub returns : goal.returns
returns c =
    let given_by = c.ranges.by in
    let here : SFits w64 (numbers c.args.numbers.now c.args.place) = omega (arith, ints, c.requires.limit) in
    let next : SFits w64 (numbers c.args.numbers.now c.args.place +ℤ c.args.by) = omega (arith, ints, c.requires.limit, c.requires.amount) in
    simp to_z-of_z (λ v. set_by c.args.numbers.now c.args.place v (numbers c.args.numbers.now c.args.place +ℤ c.args.by) c.args.by c.requires.place refl)
