-- The two increments are those before and after the load.
use Rattle.std.proofs.Common.{pos, ◌-ℤ◌, w64, SFits, rules}
use Rattle.std.proofs.lemmas.Int.{to_z-of_z}
use Rattle.search.proofs.Turning.{passing_turns}
use Rattle.search.proofs.narrow.turns_at.Goals as goal

pub returns : goal.returns
returns g c passed =
    let bar = c.ranges.bar in
    let load = c.ranges.load in
    let less : SFits w64 (c.args.load -ℤ pos 1) = search rules in
    passing_turns (g.C.Cost.meaning c.args.cost.now) c.args.bar c.args.load c.increment_at.result c.increment_at-2.result
    (simp to_z-of_z at c.increment_at.ensures) (simp to_z-of_z at c.increment_at-2.ensures) (simp to_z-of_z at (c.pass_between.ensures passed))
