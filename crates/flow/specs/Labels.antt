-- The labels by which a search over the steps left open by the loads notes how it reached each node.
use Rattle.std.specs.Prelude.{◌≡◌, ℕ, ◌+◌, ◌<◌, ◌≤◌, Bool, true, false, cond, not, ◌&&◌, List, [], length, ℤ, pos, ◌-ℤ◌, ◌≤ℤ◌, ◌<ℤ◌, int_lt, Some, None, Option, is_some, option_map, slice_index_or}
use Rattle.std.specs.Int.{int_min}
pub use Rattle.network.specs.Sums.{count}
use Rattle.network.specs.Network.{Net, surplus}
use Rattle.network.specs.Graphs.{net_in}
use Rattle.network.specs.Records.{numbers}
use Rattle.flow.specs.declared.ways.Way.{Way}
use Rattle.flow.specs.declared.ways.Way.TheVariants.{Along, Against}
use Rattle.flow.specs.declared.reach.Step.{Step}
use Rattle.flow.specs.declared.reach.Label.{Label}
use Rattle.flow.specs.declared.loaded.Loaded.{Loaded}
use Rattle.flow.specs.Spans.{low_of, high_of}

-- Whether a step goes along its arc, and not against it.
abbrev pub is_along : Way → Bool
is_along Along = true
is_along Against = false

-- The label of a node, if it was reached.
abbrev pub label_of : List (Option Label) → ℕ → Option Label
label_of labels v = slice_index_or labels v None

-- The step by which a label says that its node was reached.
abbrev pub step_of : Option Label → Option Step
step_of None = None
step_of (Some label) = label.step

-- The nodes that were reached.
abbrev pub reached_in : List (Option Label) → ℕ → Bool
reached_in labels v = is_some (label_of labels v)

-- How many of the first n nodes were not reached.
abbrev pub unreached : ℕ → List (Option Label) → ℕ
unreached n labels = count n (λ v. not (reached_in labels v))

-- The node at which a step over an arc ends, along the arc or against it.
abbrev pub end_of : Net → Bool → ℕ → ℕ
end_of net forward a = cond forward (net.head a) (net.tail a)

-- The node from which such a step starts.
abbrev pub start_of : Net → Bool → ℕ → ℕ
start_of net forward a = cond forward (net.tail a) (net.head a)

-- By how much the load of an arc can change in the direction of the step.
abbrev pub room_on : Bool → ℤ → ℤ → ℤ → ℤ
room_on forward low high load = cond forward (high -ℤ load) (load -ℤ low)

-- A node is newly reached over a step with room from a node that was reached.
abbrev pub extends : List (Option Label) → ℕ → ℕ → ℤ → Bool
extends labels from to room = reached_in labels from && (not (reached_in labels to) && int_lt (pos 0) room)

-- The label with which a search starts at a node: it is reached where the surplus is positive.
abbrev pub source : ℤ → Option Label
source x = cond (int_lt (pos 0) x) (Some (record { order = 0; width = x; step = None })) None

-- The label of a node that is reached by a step from another.
abbrev pub onward : Label → Step → ℤ → Label
onward start step room = record { order = start.order + 1; width = int_min start.width room; step = Some step }

-- The same, where the other has a label.
abbrev pub onward_from : Option Label → Step → ℤ → Option Label
onward_from start step room = option_map (λ l. onward l step room) start

-- A step to the node v, from a node that was reached before, whose label is `before`, and how much can come to v at most.
pub record Stepped (net : Net) (low high load : ℕ → ℤ) (v : ℕ) (label before : Label) (step : Step) : Type 0 where
  pub arc_in : step.arc < net.arcs
  pub from_in : step.from < net.nodes
  pub earlier : before.order < label.order
  pub narrower : label.width ≤ℤ before.width
  pub ends : end_of net (is_along step.way) step.arc ≡ v
  pub starts : start_of net (is_along step.way) step.arc ≡ step.from
  pub fits : label.width ≤ℤ room_on (is_along step.way) (low step.arc) (high step.arc) (load step.arc)

-- What a label says of its node is so: as much as it says can come to the node, out of its own surplus where no step leads to it.
pub record Justified (net : Net) (low high load : ℕ → ℤ) (labels : List (Option Label)) (v : ℕ) (label : Label) : Type 0 where
  pub wide : pos 0 <ℤ label.width
  pub owned : label.step ≡ None → label.width ≤ℤ surplus net load v
  pub stepped : (step : Step) → label.step ≡ Some step → (before : Label) × (label_of labels step.from ≡ Some before) × Stepped net low high load v label before step
  pub ordered : label.order + unreached net.nodes labels < net.nodes

-- Every node of positive surplus is reached, and what each label says is so.
pub record Labelled (net : Net) (low high load : ℕ → ℤ) (labels : List (Option Label)) : Type 0 where
  pub long : net.nodes ≤ length labels
  pub sourced : (v : ℕ) → v < net.nodes → pos 0 <ℤ surplus net load v → reached_in labels v ≡ true
  pub justified : (v : ℕ) → v < net.nodes → (label : Label) → label_of labels v ≡ Some label → Justified net low high load labels v label

-- No step with room leads out of the nodes that were reached.
pub record ClosedIn (net : Net) (low high load : ℕ → ℤ) (labels : List (Option Label)) (a : ℕ) : Type 0 where
  pub along : reached_in labels (net.tail a) ≡ true → load a <ℤ high a → reached_in labels (net.head a) ≡ true
  pub against : reached_in labels (net.head a) ≡ true → low a <ℤ load a → reached_in labels (net.tail a) ≡ true

-- Labels that are sound for the loads of a graph.
abbrev pub LabelledOn : Loaded → List (Option Label) → Type 0
LabelledOn loaded labels = Labelled (net_in loaded.graph []) (low_of loaded.spans.now) (high_of loaded.spans.now) (numbers loaded.loads.now) labels

-- No step with room over the arc leads out of the nodes that were reached.
abbrev pub ClosedOn : Loaded → List (Option Label) → ℕ → Type 0
ClosedOn loaded labels a = ClosedIn (net_in loaded.graph []) (low_of loaded.spans.now) (high_of loaded.spans.now) (numbers loaded.loads.now) labels a
