-- Each turn adds the amount of the next arc.
use Rattle.std.proofs.Common.{◌≡◌, map, [], ◌∷◌, length, length-append, pos, arith, rules}
use Rattle.std.proofs.lemmas.Slice.Zip.{zip_turn}
use Rattle.cost.specs.Meaning.{Lawful}
use Rattle.network.specs.Sums.{sum}
use Rattle.network.specs.Records.{numbers, amount_of}
use Rattle.network.proofs.Gathers.{Gathers}
use Rattle.network.proofs.Costs.{amount_read, each_cost, charge_gathers}
use Rattle.network.proofs.charge.charge_of.Given as given
use Rattle.network.proofs.charge.charge_of.Goals as goal

pub unwrap-charge-requires : goal.unwrap-charge-requires
unwrap-charge-requires g c =
    let turn = zip_turn c.args.costs.now c.args.loads.now c.loop-cost.yielded c.into_iter-cost-iterator.result c.loop-cost.cost-iterator c.next.new.self _ (cc) (cc) c.loop-cost.yielded_by _ c.in-Some.is c.next.ensures.steps in
    let a = length c.loop-cost.yielded in
    let load = turn.3 (pos 0) in
    let read = amount_read g.C.Cost.meaning c.args.costs.now a c.in-Some.cost.now (numbers c.args.loads.now a) turn.0 (turn.2 c.in-Some.cost.now) (c.requires.ranges a turn.1) in
    search rules

step : (g : given.Over) (c : goal.After-unwrap-charge g)
    → Gathers (λ n. sum n (amount_of (map g.C.Cost.meaning c.args.costs.now) c.args.loads.now)) (length c.loop-cost.yielded) c.unwrap-charge.result
step g c =
    let costs = map g.C.Cost.meaning c.args.costs.now in
    let loads = c.args.loads.now in
    let turn = zip_turn c.args.costs.now loads c.loop-cost.yielded c.into_iter-cost-iterator.result c.loop-cost.cost-iterator c.next.new.self _ (cc) (cc) c.loop-cost.yielded_by _ c.in-Some.is c.next.ensures.steps in
    let a = length c.loop-cost.yielded in
    let load = turn.3 (pos 0) in
    let read = amount_read g.C.Cost.meaning c.args.costs.now a c.in-Some.cost.now (numbers loads a) turn.0 (turn.2 c.in-Some.cost.now) (c.requires.ranges a turn.1) in
    let here : c.unwrap-charge.result ≡ amount_of costs loads a = search rules in
    rw here (charge_gathers costs loads (λ k h. each_cost g.C.Cost.meaning Lawful g.met.C.Cost.lawful c.args.costs.now k (omega arith)) c.requires.limit c.requires.ranges a turn.1)

pub overflow_add-charge : goal.overflow_add-charge
overflow_add-charge g c = let on = step g c in search rules

pub loop-cost-preserved : goal.loop-cost-preserved
loop-cost-preserved g c = let on = step g c in ((tt, tt), tt, rw (length-append c.loop-cost.yielded ((c.in-Some.cost, c.in-Some.load) ∷ [])) (search rules))
