-- The nodes that pass the filter are those that are marked.
use Rattle.std.proofs.Common.{◌≡◌, sym, ◌∙◌, rules}
use Rattle.std.specs.List.{count_by}
use Rattle.network.specs.Records.{no_node}
use Rattle.network.specs.declared.records.Node.{Node}
use Rattle.ledger.proofs.Supplies.{count_each}
use Rattle.ledger.proofs.settling.count_marked.Goals as goal

pub returns : goal.returns
returns c =
    let passed : c.count.result ≡ count_by (λ (n : Node). n.marked) c.args.nodes.now = search rules in
    passed ∙ sym (count_each (λ (n : Node). n.marked) no_node c.args.nodes.now)
