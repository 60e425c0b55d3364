use Rattle.std.proofs.Common.{get_or, ◌∙◌, rules}
use Rattle.std.proofs.lemmas.List.{length-set}
use Rattle.std.proofs.lemmas.Int.{to_z-of_z}
use Rattle.network.specs.Records.{no_node}
use Rattle.ledger.specs.Calls.{with_supply}
use Rattle.std.proofs.Math.Seq.{take-set-lt}
use Rattle.sheet.proofs.Tables.{node_kept, put_limit}
use Rattle.sheet.proofs.sheets.Sheet.put_supply.Goals as goal

pub invariant_of-self : goal.invariant_of-self
invariant_of-self c =
    let s = c.args.self.now in
    let fits = c.ranges.amount in
    record {
      node_places = length-set s.table.nodes c.args.v _ ∙ s.node_places;
      arc_places = s.arc_places;
      few_nodes = s.few_nodes;
      few_arcs = s.few_arcs;
      tails = s.tails;
      heads = s.heads;
      supplies = λ k h. put_limit s c.args.v _ (simp to_z-of_z c.requires.1) k h;
      loops = s.loops;
    }

pub returns-clause-nodes : goal.returns-clause-nodes
returns-clause-nodes c =
    let s = c.args.self.now in
    let v = c.args.v in
    let kept = node_kept s v c.requires.0 in
    let front = take-set-lt s.node_count s.table.nodes v (with_supply c.args.amount (get_or s.table.nodes v no_node)) c.requires.0 in
    let amount = c.ranges.amount in
    search rules
