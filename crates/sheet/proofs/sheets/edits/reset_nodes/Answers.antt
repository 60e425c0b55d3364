use Rattle.std.proofs.Common.{map, get_or, arith, rules}
use Rattle.std.proofs.lemmas.List.Edits.{map_over_more}
use Rattle.std.proofs.lemmas.List.{append-nil, drop_all, get_or_default, take_all}
use Rattle.network.specs.Records.{no_node}
use Rattle.ledger.specs.Books.{reset_node}
use Rattle.sheet.proofs.sheets.edits.reset_nodes.Goals as goal

pub loop-node-preserved : goal.loop-node-preserved
loop-node-preserved c =
    let k = c.loop-node.node-index in
    let here = get_or c.loop-node.nodes k no_node in
    map_over_more reset_node c.args.nodes.now c.loop-node.nodes k here c.loop-node-test.true c.loop-node.invariant (get_or_default c.loop-node.nodes k no_node here (omega arith))

pub returns : goal.returns
returns c =
    let all = take_all c.loop-node.node-index c.args.nodes.now c.loop-node-test.false in
    let none = drop_all c.loop-node.node-index c.args.nodes.now c.loop-node-test.false in
    let end = append-nil (map reset_node c.args.nodes.now) in
    search rules
