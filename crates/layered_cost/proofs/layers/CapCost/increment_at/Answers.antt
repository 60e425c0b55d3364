use Rattle.std.proofs.Common.{sym, arith, rules}
use Rattle.std.proofs.lemmas.Int.{ints}
use Rattle.layered_cost.specs.Over.{capped_increment, capped_none}
use Rattle.layered_cost.proofs.layers.CapCost.increment_at.Goals as goal

pub returns-then-load-self : goal.returns-then-load-self
returns-then-load-self g c =
    let e = capped_increment c.args.self.now.limit (g.C.Cost.meaning c.args.self.now.below) c.args.load (omega (arith, ints)) in
    search rules

pub returns-else-load-self : goal.returns-else-load-self
returns-else-load-self g c =
    sym (capped_none c.args.self.now.limit (g.C.Cost.meaning c.args.self.now.below) c.args.load (omega (arith, ints)))
