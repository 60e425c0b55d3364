use Rattle.std.proofs.Common.{rules}
use Rattle.quadratic_cost.specs.Squares.{made_last}
use Rattle.quadratic_cost.proofs.quadratic.QuadraticCost.last_load.Goals as goal

pub returns-then-is_made : goal.returns-then-is_made
returns-then-is_made c = let e = made_last c.args.self.now c.if-is_made.ensures in search rules
