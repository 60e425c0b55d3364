use Rattle.std.proofs.Common.{◌≡◌, ℕ, ◌<◌, false, take, pos, ◌+ℤ◌}
use Rattle.cost.specs.Meaning.{total, Between}
use Rattle.stepped_cost.specs.Stepped.{too_long}
use Rattle.stepped_cost.proofs.stepped.Steps.check_length.Given as goal

abbrev pub invariant-loop-k : goal.invariant-loop-k
invariant-loop-k l =
    (l.last ≡ l.first +ℤ total (take l.k l.self.widths.now))
    × Between (pos 0) (pos 10000) l.last
    × ((j : ℕ) → j < l.k → too_long l.first l.self.widths.now j ≡ false)
