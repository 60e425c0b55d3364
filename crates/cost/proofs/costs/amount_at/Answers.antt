-- Each turn adds the increment that leads to the next load, and the sum keeps within the limits of an amount.
use Rattle.std.proofs.Common.{◌≡◌, true, pos, ◌+ℤ◌, arith, w64, SFits, rules}
use Rattle.std.proofs.lemmas.Int.{ints}
use Rattle.cost.specs.Meaning.{in_range, amount_at}
use Rattle.cost.proofs.Amount.{range_from_test, amount_ranged, increment_below, step_up}
use Rattle.cost.proofs.costs.amount_at.Goals as goal

pub unwrap-amount-requires : goal.unwrap-amount-requires
unwrap-amount-requires g c =
    let m = g.C.Cost.meaning c.args.cost.now in
    let within : in_range m c.args.load ≡ true = search rules in
    let range = range_from_test m c.args.load within in
    let e = increment_below m c.loop-below.below (omega (arith, ints, c.loop-below.invariant.0)) (omega (arith, ints, c.loop-below.invariant.0)) in
    search rules

pub overflow_add-amount : goal.overflow_add-amount
overflow_add-amount g c =
    let m = g.C.Cost.meaning c.args.cost.now in
    let x = c.loop-below.below in
    let at : c.loop-below.amount ≡ amount_at m x = search rules in
    let step = step_up m x c.unwrap-amount.result (g.met.C.Cost.lawful c.args.cost.now) (search rules) in
    omega (arith, ints)

pub loop-below-preserved : goal.loop-below-preserved
loop-below-preserved g c =
    let m = g.C.Cost.meaning c.args.cost.now in
    let x = c.loop-below.below in
    let at : c.loop-below.amount ≡ amount_at m x = search rules in
    let step = step_up m x c.unwrap-amount.result (g.met.C.Cost.lawful c.args.cost.now) (search rules) in
    let load : SFits w64 (x +ℤ pos 1) = omega (arith, ints, c.loop-below.invariant.0) in
    let fits = overflow_add-amount g c in
    search rules

pub returns : goal.returns
returns g c =
    let m = g.C.Cost.meaning c.args.cost.now in
    let x = c.args.load in
    let at : c.loop-below.below ≡ x = omega (arith, ints, c.loop-below.invariant.0) in
    let within : in_range m x ≡ true = search rules in
    let e = amount_ranged m x (range_from_test m x within) in
    search rules
