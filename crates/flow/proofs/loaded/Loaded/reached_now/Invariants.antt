-- The queue holds the nodes before that were reached.
use Rattle.flow.specs.Queues.{Queued}
use Rattle.flow.proofs.loaded.Loaded.reached_now.Given as goal

abbrev pub invariant-loop-v : goal.invariant-loop-v
invariant-loop-v l = Queued l.v l.labels l.queue.items
