-- The arcs before are listed.
use Rattle.flow.specs.Near.{Listed}
use Rattle.flow.proofs.near.lists_of.Given as goal

abbrev pub invariant-loop-a : goal.invariant-loop-a
invariant-loop-a l = Listed l.a l.lists
