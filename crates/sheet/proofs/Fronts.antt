-- The front of a sheet's tables, lent to be changed and put back.
use Rattle.std.proofs.Common.{◌≡◌, ℕ, ◌-◌, ◌<◌, ◌≤◌, List, ◌++◌, length, get_or, take, drop, sym, ap, ◌∙◌, subst, arith}
use Rattle.std.proofs.lemmas.List.{length-append, length-drop, length-take-le, get_or_append_left, get_or-take, take_at}
use Rattle.network.specs.Records.{no_node, no_arc, Sound}
use Rattle.network.specs.declared.records.Node.{Node}
use Rattle.network.specs.declared.records.Arc.{Arc}
use Rattle.search.specs.Settled.{SameNodes, SameArcs}
use Rattle.sheet.specs.Sheets.{book_of}
use Rattle.sheet.specs.declared.sheets.Sheet.{Sheet}
use Rattle.ledger.proofs.Parts.{whole_part}
use Rattle.sheet.proofs.Tables.{sheet_sound}

-- a table of which the first n records are others
module _ {X : Type 0} (n : ℕ) (table front : List X) (few : n ≤ length table) (long : length front ≡ n) where
  pub fronted_length : length (front ++ drop (n - 0) table) ≡ length table
  fronted_length = omega (arith, length-append front (drop (n - 0) table), length-drop (n - 0) table)

  pub fronted_front : take n (front ++ drop (n - 0) table) ≡ front
  fronted_front = take_at front (drop (n - 0) table) n long

  pub fronted_at : (k : ℕ) (d : X) → k < n → get_or (front ++ drop (n - 0) table) k d ≡ get_or front k d
  fronted_at k d h = get_or_append_left front (drop (n - 0) table) d k (omega arith)

module _ (s : Sheet) where
  -- what is lent keeps the limits of a network
  pub lent_sound : Sound (take (s.node_count - 0) s.table.nodes) (take (s.arc_count - 0) s.table.arcs)
  lent_sound = rw (whole_part s.node_count, whole_part s.arc_count) (sheet_sound s)

  pub lent_nodes : length (take (s.node_count - 0) s.table.nodes) ≡ s.node_count
  lent_nodes = rw (whole_part s.node_count) (length-take-le s.node_count s.table.nodes (omega (arith, s.few_nodes, s.node_places)))

  pub lent_arcs : length (take (s.arc_count - 0) s.table.arcs) ≡ s.arc_count
  lent_arcs = rw (whole_part s.arc_count) (length-take-le s.arc_count s.table.arcs (omega (arith, s.few_arcs, s.arc_places)))

  module _ (nodes : List Node) (arcs : List Arc) (node_long : length nodes ≡ s.node_count) (arc_long : length arcs ≡ s.arc_count) where
    -- ends and supplies are as they were
    pub tail_back : SameArcs (take (s.arc_count - 0) s.table.arcs) arcs → (a : ℕ) → a < s.arc_count → (get_or (arcs ++ drop (s.arc_count - 0) s.table.arcs) a no_arc).tail ≡ (get_or s.table.arcs a no_arc).tail
    tail_back same a h =
        ap (λ (x : Arc). x.tail) (fronted_at s.arc_count s.table.arcs arcs (omega (arith, s.few_arcs, s.arc_places)) arc_long a no_arc h)
        ∙ same.tails a (omega (arith, lent_arcs)) ∙ ap (λ (x : Arc). x.tail) (get_or-take (s.arc_count - 0) s.table.arcs a no_arc (omega arith))

    pub head_back : SameArcs (take (s.arc_count - 0) s.table.arcs) arcs → (a : ℕ) → a < s.arc_count → (get_or (arcs ++ drop (s.arc_count - 0) s.table.arcs) a no_arc).head ≡ (get_or s.table.arcs a no_arc).head
    head_back same a h =
        ap (λ (x : Arc). x.head) (fronted_at s.arc_count s.table.arcs arcs (omega (arith, s.few_arcs, s.arc_places)) arc_long a no_arc h)
        ∙ same.heads a (omega (arith, lent_arcs)) ∙ ap (λ (x : Arc). x.head) (get_or-take (s.arc_count - 0) s.table.arcs a no_arc (omega arith))

    pub supply_back : SameNodes (take (s.node_count - 0) s.table.nodes) nodes → (v : ℕ) → v < s.node_count → (get_or (nodes ++ drop (s.node_count - 0) s.table.nodes) v no_node).supply ≡ (get_or s.table.nodes v no_node).supply
    supply_back same v h =
        ap (λ (x : Node). x.supply) (fronted_at s.node_count s.table.nodes nodes (omega (arith, s.few_nodes, s.node_places)) node_long v no_node h)
        ∙ same.supplies v (omega (arith, lent_nodes)) ∙ ap (λ (x : Node). x.supply) (get_or-take (s.node_count - 0) s.table.nodes v no_node (omega arith))

    -- what is known of what was lent is known of the book
    pub put_back : (P : List Node → List Arc → List Node → List Arc → Type 0)
        → P (take (s.node_count - 0) s.table.nodes) (take (s.arc_count - 0) s.table.arcs) nodes arcs
        → P (book_of s).nodes (book_of s).arcs (take s.node_count (nodes ++ drop (s.node_count - 0) s.table.nodes)) (take s.arc_count (arcs ++ drop (s.arc_count - 0) s.table.arcs))
    put_back P p =
        let before = subst (λ (n : ℕ). P (take n s.table.nodes) (take (s.arc_count - 0) s.table.arcs) nodes arcs) (whole_part s.node_count) p in
        let both = subst (λ (n : ℕ). P (book_of s).nodes (take n s.table.arcs) nodes arcs) (whole_part s.arc_count) before in
        let after = subst (λ (ns : List Node). P (book_of s).nodes (book_of s).arcs ns arcs) (sym (fronted_front s.node_count s.table.nodes nodes (omega (arith, s.few_nodes, s.node_places)) node_long)) both in
        subst (λ (arcs' : List Arc). P (book_of s).nodes (book_of s).arcs (take s.node_count (nodes ++ drop (s.node_count - 0) s.table.nodes)) arcs') (sym (fronted_front s.arc_count s.table.arcs arcs (omega (arith, s.few_arcs, s.arc_places)) arc_long)) after
