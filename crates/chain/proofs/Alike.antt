-- Books that differ in loads, prices, marks and standing alone: their refusals are the same, and so are their edits.
use Rattle.std.proofs.Common.{◌≡◌, ℕ, ◌-◌, List, [], ◌∷◌, map, get_or, set, ℤ, refl, ap, ◌∙◌}
use Rattle.std.proofs.lemmas.List.{map-set}
use Rattle.cost.specs.Meaning.{Meaning, natural}
use Rattle.network.specs.Network.{Net, Ends}
use Rattle.network.specs.Sums.{sum}
use Rattle.network.specs.Records.{no_node}
use Rattle.network.specs.declared.records.Node.{Node}
use Rattle.network.specs.declared.records.Arc.{Arc}
use Rattle.ledger.specs.Books.{Book, network_of, opened, reset_node, reset_arc}
use Rattle.ledger.specs.Calls.{supply_refusal, supplied, swap_refusal, with_supply}
use Rattle.ledger.specs.Settling.{settle_refusal, SameNetwork, supply_sum}
use Rattle.ledger.proofs.Bare.{same_bare, same_nodes, same_arcs, node_count, arc_count}

reset_twice : (nodes : List Node) → map reset_node (map reset_node nodes) ≡ map reset_node nodes
reset_twice [] = refl
reset_twice (n ∷ nodes) = ap (λ (ns : List Node). reset_node n ∷ ns) (reset_twice nodes)

reset_arcs_twice : (arcs : List Arc) → map reset_arc (map reset_arc arcs) ≡ map reset_arc arcs
reset_arcs_twice [] = refl
reset_arcs_twice (a ∷ arcs) = ap (λ (es : List Arc). reset_arc a ∷ es) (reset_arcs_twice arcs)

-- a book that is opened twice
pub opened_twice : (nodes : List Node) (arcs : List Arc) → opened (map reset_node nodes) (map reset_arc arcs) ≡ opened nodes arcs
opened_twice nodes arcs = let one = reset_twice nodes in let two = reset_arcs_twice arcs in cc

-- a node that gets another supply, without price and mark
map_of_set : (nodes : List Node) (v : ℕ) (amount : ℤ) (x : Node) → map reset_node (set nodes v (with_supply amount x)) ≡ set (map reset_node nodes) v (reset_node (with_supply amount no_node))
map_of_set nodes v amount x = map-set reset_node nodes v (with_supply amount x)

module _ (b b' : Book) (same : SameNetwork b b') where
  pub network_alike : (costs : List Meaning) → network_of b' costs ≡ network_of b costs
  network_alike costs = same_bare b.nodes b'.nodes b.arcs b'.arcs costs same

  pub supply_refusal_alike : (node amount : ℤ) → supply_refusal b' node amount ≡ supply_refusal b node amount
  supply_refusal_alike node amount = rw (node_count b b' same)

  pub swap_refusal_alike : (costs : ℕ) (arc : ℤ) → swap_refusal b' costs arc ≡ swap_refusal b costs arc
  swap_refusal_alike costs arc = rw (arc_count b b' same)

  sum_alike : supply_sum b'.nodes ≡ supply_sum b.nodes
  sum_alike = ap (λ (net : Net). sum net.nodes net.supply) (network_alike [])

  pub settle_refusal_alike : (costs : ℕ) → settle_refusal b'.nodes b'.arcs costs ≡ settle_refusal b.nodes b.arcs costs
  settle_refusal_alike costs = rw (arc_count b b' same, sum_alike)

  pub supplied_alike : (node amount : ℤ) → supplied b' node amount ≡ supplied b node amount
  supplied_alike node amount =
      let v : ℕ = natural node - 1 in
      let one = map_of_set b'.nodes v amount (get_or b'.nodes v no_node) in
      let two = map_of_set b.nodes v amount (get_or b.nodes v no_node) in
      let nodes = same_nodes b b' same in
      let arcs = same_arcs b b' same in
      cc

  -- opened again, a book still is the same
  pub opened_alike : SameNetwork b (opened b'.nodes b'.arcs)
  opened_alike = opened_twice b'.nodes b'.arcs ∙ same

  -- ends that lie among the nodes do so in either book
  pub ends_alike : (costs : List Meaning) → Ends (network_of b' costs) → Ends (network_of b costs)
  ends_alike costs ends = rw (← network_alike costs) ends
