-- A supply times a price fits.
use Rattle.std.proofs.Common.{◌*ℤ◌, arith, w64, SFits, rules}
use Rattle.std.proofs.lemmas.Int.{ints}
use Rattle.network.proofs.Products.{times_limit}
use Rattle.network.proofs.records.Node.worth.Goals as goal

pub overflow_mul-result : goal.overflow_mul-result
overflow_mul-result c =
    let limit = times_limit c.args.self.now.supply c.args.price 100000 100000000 c.requires.supplies c.requires.limits in
    let product : SFits w64 (c.args.self.now.supply *ℤ c.args.price) = omega (arith, ints) in
    search rules

pub returns : goal.returns
returns c = let product = overflow_mul-result c in search rules
