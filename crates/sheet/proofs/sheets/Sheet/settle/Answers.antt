-- Each way in which settling ends, and what it says of the network.
use Rattle.std.proofs.Common.{◌≡◌, false, ◌↔◌, List, map, length, is_ok, Some, None, Ok, Err, Result, sym, ap, ◌∙◌, subst, arith, w64, SFits, rules}
use Rattle.std.proofs.lemmas.List.{length-map}
use Rattle.std.proofs.lemmas.Int.{to_z-of_z}
use Rattle.cost.specs.Meaning.{Meaning}
use Rattle.network.specs.Network.{Net, charge, floor}
use Rattle.network.specs.Graphs.{net_in}
use Rattle.network.specs.declared.records.Node.{Node}
use Rattle.network.specs.declared.records.Arc.{Arc}
use Rattle.search.specs.Settled.{loads_of, prices_of, Settled}
use Rattle.network.proofs.Nets.{sound_ends}
use Rattle.sheet.specs.Sheets.{book_of}
use Rattle.ledger.specs.Books.{Book, network_of}
use Rattle.ledger.specs.Settling.{settle_refusal, Settles, Feasible, EqualWhenBest}
use Rattle.ledger.specs.declared.faults.SheetFault.{SheetFault}
use Rattle.ledger.specs.declared.faults.SheetFault.TheVariants as fault
use Rattle.sheet.specs.declared.sheets.Sheet.{Sheet}
use Rattle.ledger.specs.declared.settling.Amounts.{Amounts}
use Rattle.ledger.specs.declared.standing.Standing.TheVariants as standing
use Rattle.sheet.proofs.Tables.{sheet_sound}
use Rattle.ledger.proofs.Bare.{same_bare}
use Rattle.ledger.proofs.Outcomes.{ready_to_settle, same_network, answers_of, answers_exactly, answers_or_none, ends_refused, ends_settled, ends_barred}
use Rattle.sheet.proofs.sheets.Sheet.settle.Goals as goal

-- what the ways to the end share
module _ (s : Sheet) {C : Type 0} (meaning : C → Meaning) (costs : List C) (after : Book) (r : Result Amounts SheetFault) (outcome : Settles (book_of s) (map meaning costs) after r) where
  exactly : length costs ≡ length (book_of s).arcs → EqualWhenBest (network_of (book_of s) (map meaning costs))
  exactly listed =
      answers_exactly (book_of s) (map meaning costs) (sound_ends (book_of s).nodes (book_of s).arcs (map meaning costs) (sheet_sound s)) r (length-map costs meaning ∙ listed)
      (answers_of (book_of s) after (map meaning costs) r outcome)

  refuses : settle_refusal (book_of s).nodes (book_of s).arcs (length costs) ≡ None → (is_ok r ≡ false) ↔ (Feasible (network_of (book_of s) (map meaning costs)) → ⊥)
  refuses none =
      answers_or_none (book_of s) (map meaning costs) (sound_ends (book_of s).nodes (book_of s).arcs (map meaning costs) (sheet_sound s)) r
      (ap (settle_refusal (book_of s).nodes (book_of s).arcs) (length-map costs meaning) ∙ none) (answers_of (book_of s) after (map meaning costs) r outcome)

pub returns-in_err-check_settling : goal.returns-in_err-check_settling
returns-in_err-check_settling g c =
    let s = c.args.self.now in
    let costs = c.args.costs.now in
    let long = length-map costs g.C.Cost.meaning in
    let f = c.in_err-check_settling.field-0.0 in
    let is : c.from_residual.result ≡ Err f = search rules in
    let told : settle_refusal (book_of s).nodes (book_of s).arcs (length costs) ≡ Some f = search rules in
    let outcome = ends_refused (book_of s) (map g.C.Cost.meaning costs) f c.from_residual.result (ap (settle_refusal (book_of s).nodes (book_of s).arcs) long ∙ told) is in
    record { outcome = outcome; exactly = exactly s g.C.Cost.meaning costs (book_of s) _ outcome; refuses = refuses s g.C.Cost.meaning costs (book_of s) _ outcome }

pub returns-in-Err : goal.returns-in-Err
returns-in-Err g c =
    let s = c.args.self.now in
    let costs = c.args.costs.now in
    let long = length-map costs g.C.Cost.meaning in
    let told : settle_refusal (book_of s).nodes (book_of s).arcs (length costs) ≡ None = search rules in
    let after = c.search.new.self in
    let book : book_of c.stand.new.self ≡ record { nodes = (book_of after).nodes; arcs = (book_of after).arcs; standing = standing.Barred } = search rules in
    let barred = ends_barred (book_of s) (map g.C.Cost.meaning costs) (sheet_sound s) (ap (settle_refusal (book_of s).nodes (book_of s).arcs) long ∙ told) (book_of after).nodes (book_of after).arcs
    c.search.ensures.nodes c.search.ensures.arcs (search rules) c.count_marked.result (search rules) in
    let outcome = subst (λ (b : Book). Settles (book_of s) (map g.C.Cost.meaning costs) b (Err (fault.Barred c.count_marked.result))) (sym book) barred in
    record { outcome = outcome; exactly = exactly s g.C.Cost.meaning costs _ _ outcome; refuses = refuses s g.C.Cost.meaning costs _ _ outcome }

pub floor_held-floor-requires : goal.floor_held-floor-requires
floor_held-floor-requires g c =
    let s = c.args.self.now in
    let found : Settled (network_of (book_of s) (map g.C.Cost.meaning c.args.costs.now)) (book_of c.search.new.self).nodes (book_of c.search.new.self).arcs = search rules in
    let told : settle_refusal (book_of s).nodes (book_of s).arcs (length c.args.costs.now) ≡ None = search rules in
    let nodes = c.graph-graph.ensures.nodes ∙ c.stand-2.ensures.nodes in
    let arcs = c.graph-graph.ensures.arcs ∙ c.stand-2.ensures.arcs in
    record {
      costed = (ready_to_settle (book_of s).nodes (book_of s).arcs (length c.args.costs.now) told).0 ∙ sym c.search.ensures.arcs.many ∙ sym (ap length arcs);
      limits = λ v h. rw nodes (found.price_limit v (omega (arith, ap length nodes, c.search.ensures.nodes.many)));
    }

pub returns : goal.returns
returns g c =
    let s = c.args.self.now in
    let costs = map g.C.Cost.meaning c.args.costs.now in
    let long = length-map c.args.costs.now g.C.Cost.meaning in
    let told : settle_refusal (book_of s).nodes (book_of s).arcs (length c.args.costs.now) ≡ None = search rules in
    let after = book_of c.search.new.self in
    let graph = c.graph-graph.result in
    let book : book_of c.stand-2.new.self ≡ record { nodes = after.nodes; arcs = after.arcs; standing = standing.Settled } = search rules in
    let nodes = c.graph-graph.ensures.nodes ∙ c.stand-2.ensures.nodes in
    let arcs = c.graph-graph.ensures.arcs ∙ c.stand-2.ensures.arcs in
    let same : net_in graph costs ≡ network_of (book_of s) costs =
    rw (nodes, arcs) (same_bare (book_of s).nodes after.nodes (book_of s).arcs after.arcs costs (same_network (book_of s) after.nodes after.arcs c.search.ensures.nodes c.search.ensures.arcs)) in
    let charged : c.charge_carried-charge.result ≡ charge (network_of (book_of s) costs) (loads_of after.arcs) =
    c.charge_carried-charge.ensures ∙ ap (λ (net : Net). charge net (loads_of graph.arcs.now)) same ∙ ap (λ (es : List Arc). charge (network_of (book_of s) costs) (loads_of es)) arcs in
    let floored : c.floor_held-floor.result ≡ floor (network_of (book_of s) costs) (prices_of after.nodes) =
    c.floor_held-floor.ensures ∙ ap (λ (net : Net). floor net (prices_of graph.nodes.now)) same ∙ ap (λ (ns : List Node). floor (network_of (book_of s) costs) (prices_of ns)) nodes in
    let settled = ends_settled (book_of s) costs (sheet_sound s) (ap (settle_refusal (book_of s).nodes (book_of s).arcs) long ∙ told) after.nodes after.arcs
    c.search.ensures.nodes c.search.ensures.arcs (search rules) _ _ charged floored in
    let fx : SFits w64 c.charge_carried-charge.result = search rules in
    let fy : SFits w64 c.floor_held-floor.result = search rules in
    let outcome = subst (λ (b : Book). Settles (book_of s) costs b (Ok (record { charge = c.charge_carried-charge.result; floor = c.floor_held-floor.result }))) (sym book) settled in
    simp to_z-of_z (record { outcome = outcome; exactly = exactly s g.C.Cost.meaning c.args.costs.now _ _ outcome; refuses = refuses s g.C.Cost.meaning c.args.costs.now _ _ outcome })
