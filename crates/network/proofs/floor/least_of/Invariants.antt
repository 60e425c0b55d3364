-- The walk has the reduced amount at the load that it has reached.
use Rattle.network.proofs.Walk.{Reached}
use Rattle.network.proofs.floor.least_of.Given as goal

abbrev pub invariant-loop-load : goal.invariant-loop-load
invariant-loop-load g l = Reached (g.C.Cost.meaning l.cost) l.tension l.load l.reduced
