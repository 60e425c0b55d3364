-- The queue of the nodes whose arcs a search has still to try.
use Rattle.std.specs.Prelude.{ℕ, ◌+◌, ◌<◌, ◌≤◌, List, length, Option, All}
use Rattle.flow.specs.declared.reach.Label.{Label}
use Rattle.flow.specs.Labels.{unreached}

-- The queue holds nodes, no more than were reached.
pub record Queued (nodes : ℕ) (labels : List (Option Label)) (queue : List ℕ) : Type 0 where
  pub room : length queue + unreached nodes labels ≤ nodes
  pub placed : All (λ v. v < nodes) queue
