use Rattle.std.proofs.Common.{◌≡◌, negsuc, rules}
use Rattle.std.specs.Int.{int_min, int_max}
use Rattle.std.specs.Option.{option_map}
use Rattle.layered_cost.specs.Over.{ceiled_increment}
use Rattle.layered_cost.proofs.layers.CeilingCost.increment_at.Goals as goal

pub returns : goal.returns
returns g c =
    let e = ceiled_increment c.args.self.now.limit (g.C.Cost.meaning c.args.self.now.below) c.args.load in
    let lowered : c.map.result ≡ option_map (int_min (int_max c.args.self.now.limit (negsuc 999999))) c.increment_at.result = search rules in
    search rules
