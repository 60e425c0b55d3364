-- At each turn the amount is that at the load reached, which lies from the first load to the load asked for.
use Rattle.std.proofs.Common.{◌≡◌, pos}
use Rattle.cost.specs.Meaning.{Between, amount_at}
use Rattle.cost.proofs.costs.amount_at.Given as goal

abbrev pub invariant-loop-below : goal.invariant-loop-below
invariant-loop-below g l =
    Between (pos (g.C.Cost.meaning l.cost).first) l.load l.below
    × (l.amount ≡ amount_at (g.C.Cost.meaning l.cost) l.below)
