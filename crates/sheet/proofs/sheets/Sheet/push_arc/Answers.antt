use Rattle.std.proofs.Common.{◌≡◌, ◌<◌, pos, ◌∙◌, arith}
use Rattle.std.proofs.lemmas.List.{length-set}
use Rattle.network.specs.declared.records.Arc.{Arc}
use Rattle.sheet.proofs.Tables.{push_keeps}
use Rattle.sheet.proofs.sheets.Sheet.push_arc.Goals as goal

pub invariant_of-self : goal.invariant_of-self
invariant_of-self c =
    let s = c.args.self.now in
    let arc : Arc = record { tail = c.args.tail; head = c.args.head; load = pos 0 } in
    record {
      node_places = s.node_places;
      arc_places = length-set s.table.arcs s.arc_count arc ∙ s.arc_places;
      few_nodes = s.few_nodes;
      few_arcs = omega (arith, c.requires.room);
      tails = push_keeps s arc (λ x. x.tail < s.node_count) c.requires.room c.requires.tail s.tails;
      heads = push_keeps s arc (λ x. x.head < s.node_count) c.requires.room c.requires.head s.heads;
      supplies = s.supplies;
      loops = push_keeps s arc (λ x. x.tail ≡ x.head → ⊥) c.requires.room c.requires.apart s.loops;
    }
