use Rattle.std.proofs.Common.{◌≡◌, true, false, length, sym, ap, arith, below_more}
use Rattle.std.specs.Option.{option_map}
use Rattle.std.proofs.lemmas.Int.{ints, to_z-of_z}
use Rattle.stepped_cost.specs.Stepped.{too_long}
use Rattle.cost.specs.declared.refusals.CostFault.TheVariants.{Long}
use Rattle.cost.proofs.FirstPlace.{first_place_none, first_place_found}
use Rattle.cost.proofs.Lists.{total_more}
use Rattle.stepped_cost.proofs.stepped.Steps.check_length.Goals as goal

pub returns-then-last : goal.returns-then-last
returns-then-last c =
    let ws = c.args.self.widths.now in
    let k = c.loop-k.k in
    let within' = c.loop-k-test.true in
    let limits = c.requires.widths k within' in
    let more = total_more ws k within' in
    let here : true ≡ too_long c.args.first ws k = omega (arith, ints) in
    let first = c.ranges.first in
    let before = simp to_z-of_z at c.loop-k.invariant.2 in
    ap (option_map Long) (sym (first_place_found (too_long c.args.first ws) (length ws) k within' before (sym here)))

pub loop-k-preserved : goal.loop-k-preserved
loop-k-preserved c =
    let ws = c.args.self.widths.now in
    let k = c.loop-k.k in
    let within' = c.loop-k-test.true in
    let limits = c.requires.widths k within' in
    let more = total_more ws k within' in
    let here : false ≡ too_long c.args.first ws k = omega (arith, ints) in
    (omega (arith, ints), omega (arith, ints), below_more _ _ c.loop-k.invariant.2 (let first = c.ranges.first in simp to_z-of_z (sym here)))

pub returns : goal.returns
returns c =
    let ws = c.args.self.widths.now in
    let first = c.ranges.first in
    let before = simp to_z-of_z at c.loop-k.invariant.2 in
    ap (option_map Long) (sym (first_place_none (too_long c.args.first ws) (length ws) (λ j h. before j (omega arith))))
