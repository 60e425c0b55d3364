-- A book: what a sheet holds for its readers.
use Rattle.std.specs.Prelude.{false, List, [], map, pos}
use Rattle.cost.specs.Meaning.{Meaning}
use Rattle.network.specs.Network.{Net}
use Rattle.network.specs.Records.{net_of}
use Rattle.network.specs.declared.records.Node.{Node}
use Rattle.network.specs.declared.records.Arc.{Arc}
use Rattle.ledger.specs.declared.standing.Standing.{Standing}
use Rattle.ledger.specs.declared.standing.Standing.TheVariants.{Open}

-- A book has nodes and arcs, each with its record, and a standing.
pub record Book : Type 0 where
  pub nodes : List Node
  pub arcs : List Arc
  pub standing : Standing

-- A blank sheet has neither nodes nor arcs, and stands open.
abbrev pub blank_book : Book
blank_book = record { nodes = []; arcs = []; standing = Open }

-- A node without price and mark.
abbrev pub reset_node : Node → Node
reset_node n = record { supply = n.supply; price = pos 0; marked = false }

-- An arc without load.
abbrev pub reset_arc : Arc → Arc
reset_arc a = record { tail = a.tail; head = a.head; load = pos 0 }

-- A book that stands open: loads and prices are 0, and no node is marked.
abbrev pub opened : List Node → List Arc → Book
opened nodes arcs = record { nodes = map reset_node nodes; arcs = map reset_arc arcs; standing = Open }

-- The network of a book under a list of costs.
abbrev pub network_of : Book → List Meaning → Net
network_of b costs = net_of b.nodes b.arcs costs
