use Rattle.std.proofs.Common.{length, ap, ◌∙◌, rules}
use Rattle.std.proofs.lemmas.List.{take-map}
use Rattle.ledger.specs.Books.{reset_node, reset_arc}
use Rattle.sheet.proofs.Tables.{reset_places, reset_arc_places, reset_arc_at, reset_node_at}
use Rattle.sheet.proofs.sheets.Sheet.reopen.Goals as goal

pub invariant_of-self : goal.invariant_of-self
invariant_of-self c =
    let s = c.stand.new.self in
    record {
      node_places = ap length c.reset_nodes.ensures ∙ reset_places s;
      arc_places = ap length c.reset_arcs.ensures ∙ reset_arc_places s;
      few_nodes = s.few_nodes;
      few_arcs = s.few_arcs;
      tails = λ a h. simp (c.reset_arcs.ensures, reset_arc_at s a h) (s.tails a h);
      heads = λ a h. simp (c.reset_arcs.ensures, reset_arc_at s a h) (s.heads a h);
      supplies = λ v h. simp (c.reset_nodes.ensures, reset_node_at s v h) (s.supplies v h);
      loops = λ a h. simp (c.reset_arcs.ensures, reset_arc_at s a h) (s.loops a h);
    }

pub returns : goal.returns
returns c =
    let s = c.stand.new.self in
    let nodes = take-map reset_node s.node_count s.table.nodes in
    let arcs = take-map reset_arc s.arc_count s.table.arcs in
    search rules
