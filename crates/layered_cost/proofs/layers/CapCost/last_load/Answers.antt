use Rattle.std.proofs.Common.{rules}
use Rattle.layered_cost.specs.Over.{capped_last}
use Rattle.layered_cost.proofs.layers.CapCost.last_load.Goals as goal

pub returns : goal.returns
returns g c = let e = capped_last c.args.self.now.limit (g.C.Cost.meaning c.args.self.now.below) in search rules
