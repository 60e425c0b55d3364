use Rattle.std.proofs.Common.{◌≡◌, length, drop, pos, ◌≤ℤ◌}
use Rattle.std.specs.List.{slice_get}
use Rattle.cost.specs.Meaning.{natural}
use Rattle.stepped_cost.specs.Stepped.{spread}
use Rattle.stepped_cost.proofs.stepped.Steps.slope_at.Given as goal

abbrev pub invariant-loop-width : goal.invariant-loop-width
invariant-loop-width l =
    (goal.iterator-loop-width).can_next l.width-iterator
    × (goal.iterator-loop-width).is_finite l.width-iterator
    × (pos 0 ≤ℤ l.left)
    × (slice_get (spread (drop (length l.yielded) l.self.widths.now) (drop (length l.yielded) l.self.slopes.now)) (natural l.left) ≡ slice_get (spread l.self.widths.now l.self.slopes.now) (natural l.beyond))
