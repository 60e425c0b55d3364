use Rattle.std.proofs.Common.{◌≡◌, ◌++◌, map, take, drop}
use Rattle.ledger.specs.Books.{reset_node}
use Rattle.sheet.proofs.sheets.edits.reset_nodes.Given as goal

abbrev pub invariant-loop-node : goal.invariant-loop-node
invariant-loop-node l = l.nodes ≡ map reset_node (take l.node-index l.initial.nodes) ++ drop l.node-index l.initial.nodes
