-- The arcs that are laid so far and those to come are all that were handed over.
use Rattle.std.proofs.Common.{◌≡◌, ◌+◌, drop, length}
use Rattle.sheet.specs.Drafts.{sketch_of}
use Rattle.record.specs.Readings.{laid}
use Rattle.record.proofs.drafts.lay_all.Given as goal

abbrev pub invariant-loop-tail : goal.invariant-loop-tail
invariant-loop-tail l =
    (goal.iterator-loop-tail).can_next l.tail-iterator × (goal.iterator-loop-tail).is_finite l.tail-iterator
    × (l.field ≡ length l.yielded + 2)
    × (laid (sketch_of l.fn.draft) 2 l.tails l.heads ≡ laid (sketch_of l.draft) (length l.yielded + 2) (drop (length l.yielded) l.tails) (drop (length l.yielded) l.heads))
