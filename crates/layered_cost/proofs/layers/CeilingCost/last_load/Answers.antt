use Rattle.std.proofs.Common.{rules}
use Rattle.layered_cost.specs.Over.{ceiled_last}
use Rattle.layered_cost.proofs.layers.CeilingCost.last_load.Goals as goal

pub returns : goal.returns
returns g c = let e = ceiled_last c.args.self.now.limit (g.C.Cost.meaning c.args.self.now.below) in search rules
