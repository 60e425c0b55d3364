-- A sheet's tables and its book: as many records as it has nodes and arcs, and the same ones.
use Rattle.std.proofs.Common.{◌≡◌, ℕ, ◌+◌, ◌<◌, map, length, get_or, set, pos, negsuc, sym, ap, ◌∙◌, subst, arith}
use Rattle.std.proofs.lemmas.List.{length-map, length-take-le, get_or-map, get_or-set_other, get_or-set_same, get_or-take}
use Rattle.cost.specs.Meaning.{Between}
use Rattle.cost.proofs.FirstPlace.{by_eq}
use Rattle.network.specs.Records.{no_node, no_arc, Sound}
use Rattle.network.specs.declared.records.Node.{Node}
use Rattle.network.specs.declared.records.Arc.{Arc}
use Rattle.sheet.specs.Sheets.{book_of}
use Rattle.ledger.specs.Books.{reset_node, reset_arc}
use Rattle.sheet.specs.declared.sheets.Sheet.{Sheet}

module _ (s : Sheet) where
  pub nodes_counted : length (book_of s).nodes ≡ s.node_count
  nodes_counted = length-take-le s.node_count s.table.nodes (omega (arith, s.few_nodes, s.node_places))

  pub arcs_counted : length (book_of s).arcs ≡ s.arc_count
  arcs_counted = length-take-le s.arc_count s.table.arcs (omega (arith, s.few_arcs, s.arc_places))

  pub node_kept : (v : ℕ) → v < s.node_count → get_or (book_of s).nodes v no_node ≡ get_or s.table.nodes v no_node
  node_kept v h = get_or-take s.node_count s.table.nodes v no_node h

  pub arc_kept : (a : ℕ) → a < s.arc_count → get_or (book_of s).arcs a no_arc ≡ get_or s.table.arcs a no_arc
  arc_kept a h = get_or-take s.arc_count s.table.arcs a no_arc h

  -- the book of a sheet keeps the limits of a network
  pub sheet_sound : Sound (book_of s).nodes (book_of s).arcs
  sheet_sound = record {
    node_limit = omega (arith, nodes_counted, s.few_nodes);
    arc_limit = omega (arith, arcs_counted, s.few_arcs);
    tails = λ a h. let below : a < s.arc_count = omega (arith, arcs_counted) in rw (arc_kept a below, nodes_counted) (s.tails a below);
    heads = λ a h. let below : a < s.arc_count = omega (arith, arcs_counted) in rw (arc_kept a below, nodes_counted) (s.heads a below);
    supply_limit = λ v h. let below : v < s.node_count = omega (arith, nodes_counted) in rw (node_kept v below) (s.supplies v below);
  }

  -- no arc of a book goes from a node to itself
  pub sheet_loop_free : (a : ℕ) → a < length (book_of s).arcs → (get_or (book_of s).arcs a no_arc).tail ≡ (get_or (book_of s).arcs a no_arc).head → ⊥
  sheet_loop_free a h e =
      let below : a < s.arc_count = omega (arith, arcs_counted) in
      let kept = arc_kept a below in
      s.loops a below (sym (ap (λ (x : Arc). x.tail) kept) ∙ e ∙ ap (λ (x : Arc). x.head) kept)

  -- ---- the tables without loads, prices and marks

  pub reset_places : length (map reset_node s.table.nodes) ≡ 64
  reset_places = length-map s.table.nodes reset_node ∙ s.node_places

  pub reset_arc_places : length (map reset_arc s.table.arcs) ≡ 256
  reset_arc_places = length-map s.table.arcs reset_arc ∙ s.arc_places

  pub reset_arc_at : (a : ℕ) → a < s.arc_count → get_or (map reset_arc s.table.arcs) a no_arc ≡ reset_arc (get_or s.table.arcs a no_arc)
  reset_arc_at a h = get_or-map reset_arc s.table.arcs a no_arc no_arc (omega (arith, s.few_arcs, s.arc_places))

  pub reset_node_at : (v : ℕ) → v < s.node_count → get_or (map reset_node s.table.nodes) v no_node ≡ reset_node (get_or s.table.nodes v no_node)
  reset_node_at v h = get_or-map reset_node s.table.nodes v no_node no_node (omega (arith, s.few_nodes, s.node_places))

  -- a node whose supply lies within its limits, put at one place, keeps the limits of all
  pub put_limit : (v : ℕ) (x : Node) → Between (negsuc 99999) (pos 100000) x.supply → (k : ℕ) → k < s.node_count → Between (negsuc 99999) (pos 100000) (get_or (set s.table.nodes v x) k no_node).supply
  put_limit v x fits k h =
      by_eq k v
      (λ same. subst (λ (j : ℕ). Between (negsuc 99999) (pos 100000) (get_or (set s.table.nodes j x) k no_node).supply) same (rw (get_or-set_same s.table.nodes k x no_node (omega (arith, s.few_nodes, s.node_places))) fits))
      (λ apart. rw (get_or-set_other s.table.nodes v k x no_node apart) (s.supplies k h))

  -- what holds of each arc and of one more
  pub push_keeps : (x : Arc) (P : Arc → Type 0) → s.arc_count < 256 → P x → ((a : ℕ) → a < s.arc_count → P (get_or s.table.arcs a no_arc)) → (a : ℕ) → a < s.arc_count + 1 → P (get_or (set s.table.arcs s.arc_count x) a no_arc)
  push_keeps x P room here before a h =
      by_eq a s.arc_count
      (λ same. subst (λ (j : ℕ). P (get_or (set s.table.arcs j x) a no_arc)) same (subst P (sym (get_or-set_same s.table.arcs a x no_arc (omega (arith, s.arc_places)))) here))
      (λ apart. subst P (sym (get_or-set_other s.table.arcs s.arc_count a x no_arc apart)) (before a (omega arith)))
