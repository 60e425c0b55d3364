-- Each turn takes the step that the label of the node at hand notes.
use Rattle.std.proofs.Common.{sym, ◌∙◌}
use Rattle.std.proofs.lemmas.Int.{to_z-of_z}
use Rattle.flow.proofs.Pushes.{push_starts, push_on, shifts, shorter}
use Rattle.flow.proofs.push.push.Goals as goal

pub loop-step-init : goal.loop-step-init
loop-step-init c =
    let fits = c.ranges.by in
    simp to_z-of_z (push_starts c.args.graph.now c.args.spans.now c.args.loads.now c.args.labels.now c.args.target c.args.by c.requires.labels c.requires.sign c.requires.ready c.requires.place c.requires.amount)

pub shift-requires : goal.shift-requires
shift-requires c =
    let fits = c.ranges.by in
    let on = shifts c.args.graph.now c.args.spans.now c.args.loads.now c.args.labels.now c.args.target c.args.by c.requires.labels c.requires.sign c.loop-step.loads c.loop-step.node (simp to_z-of_z at c.loop-step.invariant) c.in-Some.step (sym c.step_to.ensures ∙ c.in-Some.is) in
    simp to_z-of_z (record { place = on.place; limits = on.limits; amount = on.amount })

pub loop-step-smaller : goal.loop-step-smaller
loop-step-smaller c =
    let fits = c.ranges.by in
    shorter c.args.graph.now c.args.spans.now c.args.loads.now c.args.labels.now c.args.target c.args.by c.requires.labels c.requires.sign c.loop-step.loads c.loop-step.node (simp to_z-of_z at c.loop-step.invariant) c.in-Some.step (sym c.step_to.ensures ∙ c.in-Some.is)

pub loop-step-preserved : goal.loop-step-preserved
loop-step-preserved c =
    let fits = c.ranges.by in
    let is = simp to_z-of_z at c.shift.ensures in
    simp (to_z-of_z, is) (push_on c.args.graph.now c.args.spans.now c.args.loads.now c.args.labels.now c.args.target c.args.by c.requires.labels c.requires.sign c.loop-step.loads c.loop-step.node (simp to_z-of_z at c.loop-step.invariant) c.in-Some.step (sym c.step_to.ensures ∙ c.in-Some.is))
