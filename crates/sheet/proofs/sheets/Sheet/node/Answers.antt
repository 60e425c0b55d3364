-- The nodes that are listed are those of the book.
use Rattle.std.proofs.lemmas.Int.{to_z-of_z}
use Rattle.network.specs.Records.{no_node}
use Rattle.sheet.proofs.sheets.Sheet.node.Goals as goal

pub returns : goal.returns
returns c =
    let fits = c.ranges.number in
    let told = simp to_z-of_z at (c.numbered.ensures no_node) in
    rw c.graph.ensures.nodes at told
