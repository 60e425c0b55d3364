-- What is written reads back.
use Rattle.std.proofs.Common.{◌≡◌, ℕ, suc, ◌+◌, ◌<◌, ◌≤◌, Bool, true, cond, leb, List, [], ◌∷◌, ◌++◌, map, length, get_or, ℤ, pos, Some, None, Ok, codes, sym, refl, ap, ◌∙◌, arith}
use Rattle.std.proofs.lemmas.List.{append-nil, drop_all, get_or-map, length-map, length-replicate}
use Rattle.std.proofs.lemmas.Int.{ints}
use Rattle.std.proofs.lemmas.Bool.Decides.{nat_tests}
use Rattle.std.specs.Option.{option_map}
use Rattle.cost.specs.Limits.{outside, within}
use Rattle.cost.specs.declared.numbers.NumberFault.TheVariants.{Outside}
use Rattle.cost.proofs.Brief.{brief_number}
use Rattle.network.specs.Records.{no_arc, no_node}
use Rattle.network.specs.declared.records.Arc.{Arc}
use Rattle.network.specs.declared.records.Node.{Node}
use Rattle.ledger.specs.Books.{opened, reset_arc, reset_node}
use Rattle.sheet.specs.Drafts.{Sketch, begun}
use Rattle.ledger.specs.Limits.{size_limits}
use Rattle.ledger.specs.declared.faults.DraftFault.TheVariants.{Number}
use Rattle.ledger.specs.declared.standing.Standing.{Standing}
use Rattle.text.specs.Steps.{Step}
use Rattle.text.specs.Theorems.{Stands, AllTenDigits}
use Rattle.record_form.specs.Lines.{line, net_line, net_start, row_lines}
use Rattle.record_form.specs.declared.lines.Counts.{Counts}
use Rattle.record_form.proofs.Back.{stands_apart, stands_within, list_back, row_back, first_line_back, text_end_back}
use Rattle.record.specs.Readings.{Kind, Rows, answered, formed, network_stage, rows_from, reading}
use Rattle.record.specs.Texts.{record_text, network_text, supplies_of, tails_of, heads_of}
use Rattle.record.proofs.Closing.{reading_made}
use Rattle.record.proofs.Returned.{Fit, Drawable, fed_back, laid_back}
use Rattle.record.proofs.Rowing.{onto, rows_more, rows_done}
use Rattle.record.proofs.Stages.{net_read, begins, supply_read, arc_read, network_made, row_read}

-- what a row is that a kind of cost writes
pub record Good (kind : Kind) (row : List ℤ) : Type 0 where
  pub accepted : kind.refuses row ≡ None
  pub told : kind.long (get_or row 0 (pos 0)) ≡ Some (length row)
  pub some : 1 ≤ length row
  pub brief : AllTenDigits row

module _ (kind : Kind) (text : List ℕ) where
  pub rows_back : (rows : List (List ℤ)) (at number next : ℕ) → at ≤ length text → ((k : ℕ) → k < length rows → Good kind (get_or rows k [])) → Stands text at (row_lines rows) next
      → rows_from kind text at number (length rows) ≡ record { rows = rows; end = Ok next }
  rows_back [] at number next few good stands =
      rows_done kind text at number ∙ ap (λ (n : ℕ). record { rows = []; end = Ok n }) (omega (arith, stands.0))
  rows_back (row ∷ rows) at number next few good stands =
      let one = stands_apart text at (line (codes "c") row) (row_lines rows) next stands in
      let a = at + length (line (codes "c") row) in
      let few_a = stands_within text at (line (codes "c") row) a few one.0 in
      let here = good 0 (omega arith) in
      let read = row_read kind text at number (row_back text at row kind.long a few one.0 here.brief here.told here.some) here.accepted in
      rows_more kind text at number (length rows) read
      ∙ ap (onto (row ∷ [])) (rows_back rows a (number + 1) next few_a (λ k h. good (suc k) (omega arith)) one.1)

  -- ---- the network

  module _ (nodes : List Node) (arcs : List Arc) (fit : Fit nodes) (draw : Drawable (length nodes) arcs) (few_nodes : length nodes ≤ 64) (few_arcs : length arcs ≤ 256) (visible : 32 < kind.letter) where
    abbrev fed_sketch : Sketch
    fed_sketch = record { nodes = map reset_node nodes; arcs = []; fed = 0 + length nodes }

    abbrev laid_sketch : Sketch
    laid_sketch = record { nodes = map reset_node nodes; arcs = map reset_arc arcs; fed = 0 + length nodes }

    abbrev first : List ℕ
    first = net_line kind.letter (pos (length nodes)) (pos (length arcs))

    abbrev second : List ℕ
    second = line (codes "sup") (supplies_of nodes)

    abbrev third : List ℕ
    third = line (codes "from") (tails_of arcs)

    abbrev fourth : List ℕ
    fourth = line (codes "to") (heads_of arcs)

    small_supplies : AllTenDigits (supplies_of nodes)
    small_supplies k h =
        let within : k < length nodes = omega (arith, length-map nodes (λ (n : Node). n.supply)) in
        let limits = fit k within in
        rw (get_or-map (λ (n : Node). n.supply) nodes k no_node (pos 0) within)
        (brief_number (get_or nodes k no_node).supply (omega (arith, ints, limits.0), omega (arith, ints, limits.1)))

    small_tails : AllTenDigits (tails_of arcs)
    small_tails k h =
        let within : k < length arcs = omega (arith, length-map arcs (λ (a : Arc). pos (a.tail + 1))) in
        rw (get_or-map (λ (a : Arc). pos (a.tail + 1)) arcs k no_arc (pos 0) within) (omega (arith, draw.tails k within, few_nodes))

    small_heads : AllTenDigits (heads_of arcs)
    small_heads k h =
        let within : k < length arcs = omega (arith, length-map arcs (λ (a : Arc). pos (a.head + 1))) in
        rw (get_or-map (λ (a : Arc). pos (a.head + 1)) arcs k no_arc (pos 0) within) (omega (arith, draw.heads k within, few_nodes))

    pub network_back : (places next : ℕ) → length arcs ≤ places
        → Stands text 0 (network_text (net_start kind.letter) (pos (length nodes) ∷ pos (length arcs) ∷ []) (supplies_of nodes) (tails_of arcs) (heads_of arcs)) next
        → network_stage text kind.letter places ≡ Ok ((laid_sketch, length arcs), next)
    network_back places next room stands =
        let one = stands_apart text 0 first (second ++ (third ++ fourth)) next stands in
        let a = 0 + length first in
        let few_a = stands_within text 0 first a (omega arith) one.0 in
        let two = stands_apart text a second (third ++ fourth) next one.1 in
        let b = a + length second in
        let few_b = stands_within text a second b few_a two.0 in
        let three = stands_apart text b third fourth next two.1 in
        let c = b + length third in
        let few_c = stands_within text b third c few_b three.0 in
        let counts : Counts = record { nodes = pos (length nodes); arcs = pos (length arcs) } in
        let net = net_read text kind.letter places refl refl (first_line_back text 0 kind.letter (length nodes) (length arcs) a (omega arith) one.0 visible few_nodes few_arcs)
        (begins places counts (enough (length arcs) places room) (sized (length nodes) few_nodes)) in
        let supplies = supply_read text a (begun (length nodes)) (length-map nodes (λ (n : Node). n.supply) ∙ sym (length-replicate (length nodes) no_node))
        (list_back text a (codes "sup") (supplies_of nodes) b few_a two.0 refl small_supplies) (fed_back nodes [] [] 2 fit) in
        let drawn : Drawable (length (map reset_node nodes)) arcs = rw (length-map nodes reset_node) draw in
        let tails = length-map arcs (λ (x : Arc). pos (x.tail + 1)) in
        let heads = length-map arcs (λ (x : Arc). pos (x.head + 1)) in
        let ends = arc_read text b fed_sketch (length (tails_of arcs)) (list_back text b (codes "from") (tails_of arcs) c few_b three.0 refl small_tails) (tails ∙ sym heads)
        (list_back text c (codes "to") (heads_of arcs) next few_c three.1 refl small_heads) (laid_back arcs [] (map reset_node nodes) (0 + length nodes) 2 drawn (omega arith)) in
        network_made text kind.letter places net supplies tails ends
      where
        enough : (n m : ℕ) → n ≤ m → leb n m ≡ true
        enough n m h = grind (arith, nat_tests)

        sized : (n : ℕ) → n ≤ 64 → option_map Number (outside size_limits 1 (pos n)) ≡ None
        sized n h =
            let inside : within size_limits (pos n) ≡ true = grind (arith, nat_tests) in
            ap (λ (b : Bool). option_map Number (cond b None (Some (Outside 1)))) inside

    -- the whole text
    pub reads_back : (rows : List (List ℤ)) (standing : Standing) (places : ℕ) → length rows ≡ length arcs → length arcs ≤ places → ((k : ℕ) → k < length rows → Good kind (get_or rows k []))
        → text ≡ record_text kind.letter (record { nodes = nodes; arcs = arcs; standing = standing }) rows
        → reading kind text places ≡ record { refusal = None; book = opened nodes arcs; rows = rows }
    unfolding record_text
    reads_back rows standing places each room good is =
        let front = network_text (net_start kind.letter) (pos (length nodes) ∷ pos (length arcs) ∷ []) (supplies_of nodes) (tails_of arcs) (heads_of arcs) in
        let stands : Stands text 0 (front ++ row_lines rows) (length text) = (omega (arith, ap length is), is ∙ sym (append-nil (front ++ row_lines rows)) ∙ ap (λ (end : List ℕ). (front ++ row_lines rows) ++ end) (sym (drop_all (length text) text (omega arith)))) in
        let parts = stands_apart text 0 front (row_lines rows) (length text) stands in
        let at = 0 + length front in
        let net = network_back places at room parts.0 in
        let costs = rows_back rows at 5 (length text) (stands_within text 0 front at (omega arith) parts.0) good parts.1 in
        let over = ap (λ (s : Step (Unit {0})). answered (formed s)) (text_end_back text) in
        reading_made kind text places net (length rows) each {u = tt} (sym (ap (λ (r : Rows). r.end) costs)) (sym over)
        ∙ ap (λ (rs : List (List ℤ)). record { refusal = None; book = opened nodes arcs; rows = rs }) (ap (λ (r : Rows). r.rows) costs)
