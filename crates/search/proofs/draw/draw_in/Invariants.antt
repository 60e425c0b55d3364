-- The prices up to the one at hand are drawn together; each turn passes one more.
use Rattle.std.proofs.Common.{◌≡◌, ◌-◌, length}
use Rattle.network.specs.Records.{numbers}
use Rattle.search.proofs.Drawing.{Drawing, passed}
use Rattle.search.proofs.draw.draw_in.Given as goal

abbrev pub invariant-loop-next : goal.invariant-loop-next
invariant-loop-next l = (length l.levels ≡ 64) × Drawing (length l.prices) (numbers l.prices) (numbers l.levels) l.price l.level

abbrev pub decreases-loop-next : goal.decreases-loop-next
decreases-loop-next l = length l.prices - passed (length l.prices) (numbers l.prices) l.price
