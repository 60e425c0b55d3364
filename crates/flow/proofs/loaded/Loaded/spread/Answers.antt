-- Each arc is tried along and against its direction.
use Rattle.flow.proofs.Marks.{stepped, step_on, pass_on}
use Rattle.flow.proofs.loaded.Loaded.spread.Goals as goal

pub loop-arc-preserved : goal.loop-arc-preserved
loop-arc-preserved c =
    let one = c.step_over.ensures in
    let two = c.step_over-in-loop-arc.ensures in
    let over = step_on _ _ _ _ _ _ _ _ _ _ _ _ c.loop-arc.invariant.grown (stepped _ _ _ _ _ _ _ _ _ _ one.labelled one.further one.same one.shut) in
    let back = step_on _ _ _ _ _ _ _ _ _ _ _ _ over.grown (stepped _ _ _ _ _ _ _ _ _ _ two.labelled two.further two.same two.shut) in
    rw (c.is_some-along.ensures, c.is_some-against.ensures) (pass_on _ _ _ _ _ _ _ _ _ _ _ c.loop-arc.arc c.loop-arc.invariant over back)
