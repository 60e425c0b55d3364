-- The supplies and ends of a book make the same book again, just opened.
use Rattle.std.proofs.Common.{◌≡◌, ℕ, suc, ◌+◌, ◌-◌, ◌<◌, ◌≤◌, Bool, true, false, cond, ◌&&◌, eqb, ltb, List, [], ◌∷◌, ◌++◌, map, length, get_or, set, replicate, ℤ, pos, negsuc, ◌≤ℤ◌, Some, None, Ok, Option, sym, refl, ap, ◌∙◌, append_assoc, append-nil, arith}
use lib.Signed.{le_z}
use Rattle.std.proofs.lemmas.List.{get_or_at, length-append, set_at}
use Rattle.std.proofs.lemmas.Int.{ints}
use Rattle.std.proofs.lemmas.Bool.{ne_eqb}
use Rattle.std.proofs.lemmas.Bool.Decides.{nat_tests}
use Rattle.cost.specs.Limits.{within}
use Rattle.std.specs.Option.{option_map}
use Rattle.cost.specs.Meaning.{Between}
use Rattle.cost.specs.Places.{or_else}
use Rattle.cost.specs.declared.numbers.NumberFault.TheVariants.{Outside}
use Rattle.ledger.specs.declared.faults.DraftFault.TheVariants.{Number, Full, Loop, Unknown}
use Rattle.network.specs.Records.{no_arc, no_node}
use Rattle.network.specs.declared.records.Arc.{Arc}
use Rattle.network.specs.declared.records.Node.{Node}
use Rattle.ledger.specs.Books.{reset_arc, reset_node}
use Rattle.ledger.specs.Calls.{with_supply}
use Rattle.sheet.specs.Drafts.{Sketch, feed_refusal, lay_refusal, no_such_node, with_arc, with_fed}
use Rattle.ledger.specs.Limits.{supply_limits}
use Rattle.ledger.specs.declared.faults.DraftFault.{DraftFault}
use Rattle.record.specs.Faults.{spot}
use Rattle.record.specs.Readings.{fed, laid, unless_refused}
use Rattle.record.specs.Texts.{supplies_of, tails_of, heads_of}

-- ---- supplies

abbrev pub Fit : List Node → Type 0
Fit nodes = (v : ℕ) → v < length nodes → Between (negsuc 99999) (pos 100000) (get_or nodes v no_node).supply

-- a draft of nodes that were fed and of others that were not
abbrev part_fed : List Node → ℕ → List Arc → Sketch
part_fed done left arcs = record { nodes = done ++ replicate left no_node; arcs = arcs; fed = length done }

inside_limits : (low high x : ℤ) → low ≤ℤ x → x ≤ℤ high → le_z low x && le_z x high ≡ true
inside_limits low high x from to =
    let one : true ≡ le_z low x = omega (arith, ints) in
    let two : true ≡ le_z x high = omega (arith, ints) in
    rw (sym one, sym two)

may_feed : (done : List Node) (left : ℕ) (arcs : List Arc) (x : ℤ) → Between (negsuc 99999) (pos 100000) x → feed_refusal (part_fed done (suc left) arcs) x ≡ None
may_feed done left arcs x limits =
    let inside : within supply_limits x ≡ true = inside_limits (negsuc 99999) (pos 100000) x limits.0 limits.1 in
    let long : length done < length (done ++ replicate (suc left) no_node) = omega (arith, length-append done (replicate (suc left) no_node)) in
    let room : ltb (length done) (length (done ++ replicate (suc left) no_node)) ≡ true = less (length done) (length (done ++ replicate (suc left) no_node)) long in
    ap (λ (b : Bool). or_else (option_map Number (cond b None (Some (Outside 1)))) (cond (ltb (length done) (length (done ++ replicate (suc left) no_node))) None (Some (Full (length (done ++ replicate (suc left) no_node)))))) inside
    ∙ ap (λ (b : Bool). cond b None (Some (Full (length (done ++ replicate (suc left) no_node))))) room
  where
    less : (a b : ℕ) → a < b → ltb a b ≡ true
    less a b h = grind (arith, nat_tests)

one_fed : (done : List Node) (left : ℕ) (arcs : List Arc) (n : Node) → with_fed (part_fed done (suc left) arcs) n.supply ≡ part_fed (done ++ (reset_node n ∷ [])) left arcs
one_fed done left arcs n =
    let rest = replicate left no_node in
    let here = get_or_at done no_node rest no_node (length done) refl in
    let put = set_at done no_node rest (reset_node n) (length done) refl in
    ap (λ (x : Node). record { nodes = set (done ++ (no_node ∷ rest)) (length done) (with_supply n.supply x); arcs = arcs; fed = length done + 1 }) here
    ∙ ap (λ (ns : List Node). record { nodes = ns; arcs = arcs; fed = length done + 1 }) (put ∙ sym (append_assoc done (reset_node n ∷ []) rest))
    ∙ ap (λ (i : ℕ). record { nodes = (done ++ (reset_node n ∷ [])) ++ rest; arcs = arcs; fed = i }) (sym (length-append done (reset_node n ∷ [])))

pub fed_back : (todo done : List Node) (arcs : List Arc) (field : ℕ) → Fit todo
    → fed (part_fed done (length todo) arcs) field (supplies_of todo) ≡ Ok (record { nodes = done ++ map reset_node todo; arcs = arcs; fed = length done + length todo })
fed_back [] done arcs field fit = ap (λ (i : ℕ). Ok (record { nodes = done ++ []; arcs = arcs; fed = i })) (omega arith)
fed_back (n ∷ todo) done arcs field fit =
    ap (λ (r : Option DraftFault). unless_refused r (spot 2 field) (fed (with_fed (part_fed done (suc (length todo)) arcs) n.supply) (field + 1) (supplies_of todo))) (may_feed done (length todo) arcs n.supply (fit 0 (omega arith)))
    ∙ ap (λ (k : Sketch). fed k (field + 1) (supplies_of todo)) (one_fed done (length todo) arcs n)
    ∙ fed_back todo (done ++ (reset_node n ∷ [])) arcs (field + 1) (λ v h. fit (suc v) (omega arith))
    ∙ ap (λ (ns : List Node). Ok (record { nodes = ns; arcs = arcs; fed = length (done ++ (reset_node n ∷ [])) + length todo })) (append_assoc done (reset_node n ∷ []) (map reset_node todo))
    ∙ ap (λ (i : ℕ). Ok (record { nodes = done ++ (reset_node n ∷ map reset_node todo); arcs = arcs; fed = i })) (omega (arith, length-append done (reset_node n ∷ [])))

-- ---- arcs

-- arcs between nodes of so many, each with two ends
pub record Drawable (count : ℕ) (arcs : List Arc) : Type 0 where
  pub tails : (a : ℕ) → a < length arcs → (get_or arcs a no_arc).tail < count
  pub heads : (a : ℕ) → a < length arcs → (get_or arcs a no_arc).head < count
  pub apart : (a : ℕ) → a < length arcs → (get_or arcs a no_arc).tail ≡ (get_or arcs a no_arc).head → ⊥

or_none : {F : Type 0} (x y : Option F) → x ≡ None → y ≡ None → or_else x y ≡ None
or_none None y one two = two
or_none (Some f) y one two = one

-- the number of a node of so many is known
node_known : (count position v : ℕ) → v < count → no_such_node count position (pos (v + 1)) ≡ None
node_known count position v h =
    let inside : le_z (pos 1) (pos (v + 1)) && le_z (pos (v + 1)) (pos count) ≡ true = inside_limits (pos 1) (pos count) (pos (v + 1)) (omega (arith, ints)) (omega (arith, ints)) in
    found (le_z (pos 1) (pos (v + 1)) && le_z (pos (v + 1)) (pos count)) (v + 1 - 1) inside
  where
    found : (b : Bool) (w : ℕ) → b ≡ true → ◌≡◌ {A = Option DraftFault} (elim (cond {A = Option ℕ} b (Some w) None) [ None ↦ Some (Unknown position) | Some u ↦ None ]) None
    found true w is = refl
    found false w is = absurd (let z : ◌≡◌ {A = ℕ} 0 1 = cc in omega arith)

may_lay : (k : Sketch) (t h : ℕ) → length k.arcs < 256 → t < length k.nodes → h < length k.nodes → (t ≡ h → ⊥) → lay_refusal k (pos (t + 1)) (pos (h + 1)) ≡ None
may_lay k t h room tail head apart =
    let some : ltb (length k.arcs) 256 ≡ true = less (length k.arcs) 256 room in
    let two : eqb (t + 1) (h + 1) ≡ false = ne_eqb (t + 1) (h + 1) (λ same. apart (omega (arith, same))) in
    let none : cond (eqb (t + 1) (h + 1)) (Some (Loop (length k.arcs + 1))) None ≡ None = ap (λ (b : Bool). cond b (Some (Loop (length k.arcs + 1))) None) two in
    or_none _ _ (ap (λ (b : Bool). cond b None (Some (Full 256))) some)
    (or_none _ _ (node_known (length k.nodes) 1 t tail) (or_none _ _ (node_known (length k.nodes) 2 h head) none))
  where
    less : (a b : ℕ) → a < b → ltb a b ≡ true
    less a b h = grind (arith, nat_tests)

pub laid_back : (todo done : List Arc) (nodes : List Node) (n field : ℕ) → Drawable (length nodes) todo → length done + length todo ≤ 256
    → laid (record { nodes = nodes; arcs = done; fed = n }) field (tails_of todo) (heads_of todo) ≡ Ok (record { nodes = nodes; arcs = done ++ map reset_arc todo; fed = n })
laid_back [] done nodes n field draw few = ap (λ (arcs : List Arc). Ok (record { nodes = nodes; arcs = arcs; fed = n })) (sym (append-nil done))
laid_back (a ∷ todo) done nodes n field draw few =
    let k : Sketch = record { nodes = nodes; arcs = done; fed = n } in
    let none = may_lay k a.tail a.head (omega arith) (draw.tails 0 (omega arith)) (draw.heads 0 (omega arith)) (draw.apart 0 (omega arith)) in
    let tail : a.tail + 1 - 1 ≡ a.tail = omega arith in
    let head : a.head + 1 - 1 ≡ a.head = omega arith in
    ap (λ (r : Option DraftFault). unless_refused r (spot 4 field) (laid (with_arc k (pos (a.tail + 1)) (pos (a.head + 1))) (field + 1) (tails_of todo) (heads_of todo))) none
    ∙ ap (λ (t : ℕ). laid (record { nodes = nodes; arcs = done ++ (record { tail = t; head = a.head + 1 - 1; load = pos 0 } ∷ []); fed = n }) (field + 1) (tails_of todo) (heads_of todo)) tail
    ∙ ap (λ (h : ℕ). laid (record { nodes = nodes; arcs = done ++ (record { tail = a.tail; head = h; load = pos 0 } ∷ []); fed = n }) (field + 1) (tails_of todo) (heads_of todo)) head
    ∙ laid_back todo (done ++ (reset_arc a ∷ [])) nodes n (field + 1)
    (record { tails = λ i h. draw.tails (suc i) (omega arith); heads = λ i h. draw.heads (suc i) (omega arith); apart = λ i h. draw.apart (suc i) (omega arith) })
    (omega (arith, length-append done (reset_arc a ∷ [])))
    ∙ ap (λ (arcs : List Arc). Ok (record { nodes = nodes; arcs = arcs; fed = n })) (append_assoc done (reset_arc a ∷ []) (map reset_arc todo))
