-- Each turn asks for the increment half way.
use Rattle.std.proofs.Common.{arith, rules}
use Rattle.std.proofs.lemmas.Int.{ints}
use Rattle.cost.proofs.Amount.{increment_below}
use Rattle.search.proofs.Turning.{halving_starts, halving_up}
use Rattle.search.proofs.narrow.turn.Goals as goal

pub loop-low-init : goal.loop-low-init
loop-low-init g c = let start = halving_starts (g.C.Cost.meaning c.args.cost.now) c.args.bar in search rules

pub unwrap-requires : goal.unwrap-requires
unwrap-requires g c =
    let half = c.between-middle.ensures in
    let e = increment_below (g.C.Cost.meaning c.args.cost.now) c.between-middle.result (omega (arith, ints, c.loop-low.invariant.from_first)) (omega (arith, ints, c.loop-low.invariant.to_last)) in
    search rules

pub loop-low-preserved-then-unwrap-bar : goal.loop-low-preserved-then-unwrap-bar
loop-low-preserved-then-unwrap-bar g c =
    let half = c.between-middle.ensures in
    let on = halving_up (g.C.Cost.meaning c.args.cost.now) c.args.bar c.loop-low.low c.loop-low.high c.between-middle.result c.unwrap.result
    (search rules) (omega (arith, ints)) (omega (arith, ints)) (search rules) (omega (arith, ints)) in
    search rules
