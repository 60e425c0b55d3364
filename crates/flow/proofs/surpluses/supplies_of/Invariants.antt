-- The supplies before are written down.
use Rattle.std.proofs.Common.{◌≡◌, ℕ, ◌<◌, [], length}
use Rattle.network.specs.declared.records.TheConstants.{MOST_NODES}
use Rattle.network.specs.Records.{net_of, numbers}
use Rattle.flow.proofs.surpluses.supplies_of.Given as goal

abbrev pub invariant-loop-v : goal.invariant-loop-v
invariant-loop-v l = (length l.supplies ≡ MOST_NODES) × ((k : ℕ) → k < l.v → numbers l.supplies k ≡ (net_of l.nodes [] []).supply k)
