-- Loads of which none was refused lie in the ranges of their costs, and are small.
use Rattle.std.proofs.Common.{map, sym}
use Rattle.network.proofs.Nets.{ranged_if_none}
use Rattle.ledger.proofs.Orders.{lawful_at, small_loads}
use Rattle.ledger.proofs.pricing.charged.Goals as goal

pub first_unmet-requires-clause-limits : goal.first_unmet-requires-clause-limits
first_unmet-requires-clause-limits g c =
    let costs = map g.C.Cost.meaning c.args.costs.now in
    small_loads costs c.args.loads.now (lawful_at g.C.Cost.meaning g.met.C.Cost.lawful c.args.costs.now) (ranged_if_none costs c.args.loads.now (sym c.in_default.ensures))

pub charge_of-requires-clause-ranges : goal.charge_of-requires-clause-ranges
charge_of-requires-clause-ranges g c = ranged_if_none (map g.C.Cost.meaning c.args.costs.now) c.args.loads.now (sym c.in_default.ensures)
