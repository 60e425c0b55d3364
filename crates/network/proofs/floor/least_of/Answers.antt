-- The walk keeps the reduced amount of the load that it has reached, and ends where it may.
use Rattle.std.proofs.Common.{ℤ, arith, rules}
use Rattle.std.proofs.lemmas.Int.{ints}
use Rattle.cost.proofs.Amount.{increment_below}
use Rattle.network.proofs.Walk.{Tension, Starts, starts, GoesOn, goes_on, ends_before, ends_at_last}
use Rattle.network.proofs.floor.least_of.Given as given
use Rattle.network.proofs.floor.least_of.Goals as goal

begin : (g : given.Over) (cost : g.row.C.Denot) (t : ℤ) → Tension t → Starts (g.C.Cost.meaning cost) t
begin g cost t tense = starts (g.C.Cost.meaning cost) t (g.met.C.Cost.lawful cost) tense

pub overflow_mul-reduced : goal.overflow_mul-reduced
overflow_mul-reduced g c = let start = begin g c.args.cost.now c.args.tension c.requires in search rules

pub overflow_sub-reduced : goal.overflow_sub-reduced
overflow_sub-reduced g c = let start = begin g c.args.cost.now c.args.tension c.requires in search rules

pub loop-load-init : goal.loop-load-init
loop-load-init g c = let start = begin g c.args.cost.now c.args.tension c.requires in search rules

pub unwrap-increment-requires : goal.unwrap-increment-requires
unwrap-increment-requires g c =
    let e = increment_below (g.C.Cost.meaning c.args.cost.now) c.loop-load.load (omega (arith, ints)) (omega (arith, ints)) in
    search rules

go : (g : given.Over) (c : goal.Else-increment-tension g) → GoesOn (g.C.Cost.meaning c.args.cost.now) c.args.tension c.loop-load.load c.loop-load.reduced c.unwrap-increment.result
go g c =
    goes_on (g.C.Cost.meaning c.args.cost.now) c.args.tension c.loop-load.load c.loop-load.reduced c.unwrap-increment.result
    (g.met.C.Cost.lawful c.args.cost.now) c.requires (search rules) (search rules) (omega (arith, ints))

pub overflow_sub-reduced-in-loop-load : goal.overflow_sub-reduced-in-loop-load
overflow_sub-reduced-in-loop-load g c = let on = go g c in search rules

pub overflow_add-reduced : goal.overflow_add-reduced
overflow_add-reduced g c = let on = go g c in search rules

pub loop-load-preserved : goal.loop-load-preserved
loop-load-preserved g c = let on = go g c in search rules

pub returns-then-increment-tension : goal.returns-then-increment-tension
returns-then-increment-tension g c =
    let e = ends_before (g.C.Cost.meaning c.args.cost.now) c.args.tension c.loop-load.load c.loop-load.reduced c.unwrap-increment.result
    (g.met.C.Cost.lawful c.args.cost.now) (search rules) (search rules) (omega (arith, ints)) in
    search rules

pub returns : goal.returns
returns g c =
    let e = ends_at_last (g.C.Cost.meaning c.args.cost.now) c.args.tension c.loop-load.load c.loop-load.reduced
    (g.met.C.Cost.lawful c.args.cost.now) (search rules) (omega (arith, ints)) in
    search rules
