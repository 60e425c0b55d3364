-- What the search leaves in the records that are lent to it, it leaves in the book.
use Rattle.std.proofs.Common.{map, length, sym, ◌∙◌, arith}
use Rattle.std.specs.Result.{OnOk, OnErr}
use Rattle.network.specs.Records.{net_of}
use Rattle.search.specs.Settled.{SameNodes, SameArcs, Settled, Barred}
use Rattle.sheet.specs.Sheets.{book_of}
use Rattle.ledger.proofs.Parts.{whole_part}
use Rattle.sheet.proofs.Fronts.{fronted_length, lent_sound, lent_nodes, lent_arcs, tail_back, head_back, supply_back, put_back}
use Rattle.ledger.proofs.Outcomes.{ready_to_settle}
use Rattle.sheet.proofs.sheets.Sheet.search.Goals as goal

pub settle-requires : goal.settle-requires
settle-requires g c =
    let s = c.args.self.now in
    let ready = ready_to_settle (book_of s).nodes (book_of s).arcs (length c.args.costs.now) (sym c.requires) in
    record {
      sound = lent_sound s;
      costed = rw (whole_part s.arc_count) ready.0;
      balanced = rw (whole_part s.node_count) ready.1;
    }

pub invariant_of-self : goal.invariant_of-self
invariant_of-self g c =
    let s = c.args.self.now in
    let nodes = c.settle.new.nodes in
    let arcs = c.settle.new.arcs in
    let many_nodes = c.settle.ensures.nodes.many ∙ lent_nodes s in
    let many_arcs = c.settle.ensures.arcs.many ∙ lent_arcs s in
    record {
      node_places = fronted_length s.node_count s.table.nodes nodes (omega (arith, s.few_nodes, s.node_places)) many_nodes ∙ s.node_places;
      arc_places = fronted_length s.arc_count s.table.arcs arcs (omega (arith, s.few_arcs, s.arc_places)) many_arcs ∙ s.arc_places;
      few_nodes = s.few_nodes;
      few_arcs = s.few_arcs;
      tails = λ a h. rw (tail_back s nodes arcs many_nodes many_arcs c.settle.ensures.arcs a h) (s.tails a h);
      heads = λ a h. rw (head_back s nodes arcs many_nodes many_arcs c.settle.ensures.arcs a h) (s.heads a h);
      supplies = λ v h. rw (supply_back s nodes arcs many_nodes many_arcs c.settle.ensures.nodes v h) (s.supplies v h);
      loops = λ a h e. s.loops a h (sym (tail_back s nodes arcs many_nodes many_arcs c.settle.ensures.arcs a h) ∙ e ∙ head_back s nodes arcs many_nodes many_arcs c.settle.ensures.arcs a h);
    }

pub returns : goal.returns
returns g c =
    let s = c.args.self.now in
    let costs = map g.C.Cost.meaning c.args.costs.now in
    let nodes = c.settle.new.nodes in
    let arcs = c.settle.new.arcs in
    let many_nodes = c.settle.ensures.nodes.many ∙ lent_nodes s in
    let many_arcs = c.settle.ensures.arcs.many ∙ lent_arcs s in
    record {
      nodes = put_back s nodes arcs many_nodes many_arcs (λ ns es ns' es'. SameNodes ns ns') c.settle.ensures.nodes;
      arcs = put_back s nodes arcs many_nodes many_arcs (λ ns es ns' es'. SameArcs es es') c.settle.ensures.arcs;
      found = put_back s nodes arcs many_nodes many_arcs (λ ns es ns' es'. OnOk c.settle.result (Settled (net_of ns es costs) ns' es')) c.settle.ensures.settled;
      bars = put_back s nodes arcs many_nodes many_arcs (λ ns es ns' es'. OnErr c.settle.result (Barred (net_of ns es costs) ns' es')) c.settle.ensures.barred;
    }
