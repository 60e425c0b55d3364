-- The pass keeps the labels sound, and has found no step with room among the arcs before unless it has reached a node more.
use Rattle.std.proofs.Common.{[]}
use Rattle.network.specs.Graphs.{net_in}
use Rattle.network.specs.Records.{numbers}
use Rattle.flow.specs.Spans.{low_of, high_of}
use Rattle.flow.proofs.Marks.{Passing}
use Rattle.flow.proofs.loaded.Loaded.spread.Given as goal

abbrev pub invariant-loop-arc : goal.invariant-loop-arc
invariant-loop-arc l = Passing (net_in l.self.graph []) (low_of l.self.spans.now) (high_of l.self.spans.now) (numbers l.self.loads.now) l.initial.labels l.further l.labels l.arc
