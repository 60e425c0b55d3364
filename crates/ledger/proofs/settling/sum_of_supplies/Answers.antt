-- Each turn adds the supply of the next node.
use Rattle.std.proofs.Common.{rules}
use Rattle.ledger.proofs.Supplies.{supply_gathers}
use Rattle.ledger.proofs.settling.sum_of_supplies.Goals as goal

pub overflow_add-sum : goal.overflow_add-sum
overflow_add-sum c =
    let on = supply_gathers c.args.graph.now c.loop-node.node-index c.loop-node-test.true in
    search rules

pub loop-node-preserved : goal.loop-node-preserved
loop-node-preserved c =
    let on = supply_gathers c.args.graph.now c.loop-node.node-index c.loop-node-test.true in
    search rules
