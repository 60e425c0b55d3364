-- All prices are 0.
use Rattle.std.proofs.Common.{pos, arith}
use Rattle.std.proofs.lemmas.Int.{ints}
use Rattle.std.proofs.lemmas.List.{get_or-replicate}
use Rattle.search.proofs.improve.Search.begin.Goals as goal

pub narrow-requires-clause-modest : goal.narrow-requires-clause-modest
narrow-requires-clause-modest g c v h =
    let none = get_or-replicate 64 v (pos 0) (pos 0) (omega (arith, c.args.network.now.graph.few_nodes)) in
    omega (arith, ints, none)

pub invariant_of-result-clause-modest : goal.invariant_of-result-clause-modest
invariant_of-result-clause-modest g c v h =
    let none = get_or-replicate 64 v (pos 0) (pos 0) (omega (arith, c.args.network.now.graph.few_nodes)) in
    omega (arith, ints, none)

pub returns-clause-prices : goal.returns-clause-prices
returns-clause-prices g c v h = get_or-replicate 64 v (pos 0) (pos 0) (omega (arith, c.args.network.now.graph.few_nodes))
