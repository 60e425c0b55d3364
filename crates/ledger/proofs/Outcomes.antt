-- What a settled or barred book says of its network.
use Rattle.std.proofs.Common.{◌≡◌, ℕ, zero, suc, ◌+◌, ◌-◌, ◌<◌, Bool, true, false, cond, eqb, ◌↔◌, List, map, length, get_or, ℤ, pos, nat_abs, is_ok, Some, None, Ok, Err, Option, Result, sym, refl, ap, ◌∙◌, subst, arith}
use lib.Signed.{le_z}
use Rattle.std.proofs.lemmas.List.{ext_get_or, get_or-map, length-map}
use Rattle.std.proofs.lemmas.Int.{ints}
use Rattle.std.proofs.lemmas.Bool.{eqb-true, eq-eqb, true≢false}
use Rattle.cost.specs.Meaning.{Meaning}
use Rattle.cost.proofs.Refusing.{neither, passed}
use Rattle.network.specs.Sums.{count}
use Rattle.network.specs.Network.{Net, Ends, Meets, surplus, charge, floor, Cheapest, Highest}
use Rattle.network.specs.Records.{no_node, no_arc, is_zero, Sound}
use Rattle.network.specs.declared.records.Node.{Node}
use Rattle.network.specs.declared.records.Arc.{Arc}
use Rattle.network.proofs.Changes.{charge_same, floor_same}
use Rattle.network.proofs.Cuts.{conservation, over_full_bars}
use Rattle.network.proofs.Duality.{equal_exactly_when_best}
use Rattle.network.proofs.Nets.{sound_ends}
use Rattle.network.proofs.Sums.{sum_none}
use Rattle.search.specs.Settled.{loads_of, prices_of, marks_of, SameNodes, SameArcs, Settled, Barred}
use Rattle.search.proofs.Whole.{meets_same, over_full_same}
use Rattle.ledger.specs.Books.{Book, network_of, opened, reset_node, reset_arc}
use Rattle.ledger.specs.Calls.{needed}
use Rattle.ledger.specs.Lookups.{place_in}
use Rattle.ledger.specs.Settling.{settle_refusal, supply_sum, loads_in, prices_in, marks_in, marked_count, SettledBook, BarredBook, amounts_in, SettlesUnless, Settles, Feasible, EqualWhenBest, Answers}
use Rattle.ledger.specs.declared.faults.SheetFault.{SheetFault}
use Rattle.ledger.specs.declared.faults.SheetFault.TheVariants as fault
use Rattle.ledger.specs.declared.settling.Amounts.{Amounts}
use Rattle.ledger.specs.declared.standing.Standing.TheVariants as standing
use Rattle.ledger.proofs.Bare.{node_count}

-- where nothing refuses, there is one cost for each arc, and the supplies sum to 0
pub ready_to_settle : (nodes : List Node) (arcs : List Arc) (costs : ℕ) → settle_refusal nodes arcs costs ≡ None → (costs ≡ length arcs) × (supply_sum nodes ≡ pos 0)
ready_to_settle nodes arcs costs e =
    let none = neither (needed (eqb costs (length arcs)) fault.List) (needed (is_zero (supply_sum nodes)) fault.Unbalanced) e in
    let zero' = eqb-true (nat_abs (supply_sum nodes)) 0 (passed fault.Unbalanced (is_zero (supply_sum nodes)) none.1) in
    (eqb-true costs (length arcs) (passed fault.List (eqb costs (length arcs)) none.0), omega (arith, ints))

-- ---- looking up

-- what stands at a place is found by the number one higher
pub place_here : (count k : ℕ) → k < count → place_in count (pos (suc k)) ≡ Some k
place_here count k h =
    let low : le_z (pos 1) (pos (suc k)) ≡ true = sym (omega (arith, ints)) in
    let high : le_z (pos (suc k)) (pos count) ≡ true = sym (omega (arith, ints)) in
    let less : suc k - 1 ≡ k = omega arith in
    rw (low, high, less)

-- the loads and prices of a settled book and the marks of a barred book are looked up as they stand
pub load_found : (nodes : List Node) (arcs : List Arc) (a : ℕ) → a < length arcs → loads_in (record { nodes = nodes; arcs = arcs; standing = standing.Settled }) a ≡ loads_of arcs a
load_found nodes arcs a h = rw (place_here (length arcs) a h)

pub price_found : (nodes : List Node) (arcs : List Arc) (v : ℕ) → v < length nodes → prices_in (record { nodes = nodes; arcs = arcs; standing = standing.Settled }) v ≡ prices_of nodes v
price_found nodes arcs v h = rw (place_here (length nodes) v h)

pub mark_found : (nodes : List Node) (arcs : List Arc) (v : ℕ) → v < length nodes → marks_in (record { nodes = nodes; arcs = arcs; standing = standing.Barred }) v ≡ marks_of nodes v
mark_found nodes arcs v h = rw (place_here (length nodes) v h)

-- ---- the network stays

same_nodes : (before after : List Node) → SameNodes before after → map reset_node after ≡ map reset_node before
same_nodes before after same =
    ext_get_or no_node (map reset_node after) (map reset_node before) (length-map after reset_node ∙ same.many ∙ sym (length-map before reset_node))
    (λ v h. let here : v < length after = omega (arith, length-map after reset_node) in
    get_or-map reset_node after v no_node no_node here
    ∙ ap (λ (x : ℤ). record { supply = x; price = pos 0; marked = false }) (same.supplies v (omega (arith, same.many)))
    ∙ sym (get_or-map reset_node before v no_node no_node (omega (arith, same.many))))

same_arcs : (before after : List Arc) → SameArcs before after → map reset_arc after ≡ map reset_arc before
same_arcs before after same =
    ext_get_or no_arc (map reset_arc after) (map reset_arc before) (length-map after reset_arc ∙ same.many ∙ sym (length-map before reset_arc))
    (λ a h. let here : a < length after = omega (arith, length-map after reset_arc) in
    get_or-map reset_arc after a no_arc no_arc here
    ∙ ends a (omega (arith, same.many))
    ∙ sym (get_or-map reset_arc before a no_arc no_arc (omega (arith, same.many))))
  where
    ends : (a : ℕ) → a < length before → reset_arc (get_or after a no_arc) ≡ reset_arc (get_or before a no_arc)
    ends a h = let tail = same.tails a h in let head = same.heads a h in cc

pub same_network : (b : Book) (nodes : List Node) (arcs : List Arc) → SameNodes b.nodes nodes → SameArcs b.arcs arcs → opened nodes arcs ≡ opened b.nodes b.arcs
same_network b nodes arcs ns es =
    let one = same_nodes b.nodes nodes ns in
    let two = same_arcs b.arcs arcs es in
    cc

-- ---- what the search leaves makes a settled or a barred book

module _ (net : Net) (ends : Ends net) (nodes : List Node) (arcs : List Arc) (node_count : length nodes ≡ net.nodes) (arc_count : length arcs ≡ net.arcs) where
  abbrev settled : Book
  settled = record { nodes = nodes; arcs = arcs; standing = standing.Settled }

  abbrev barred : Book
  barred = record { nodes = nodes; arcs = arcs; standing = standing.Barred }

  charge_found : charge net (loads_in settled) ≡ charge net (loads_of arcs)
  charge_found = charge_same net (loads_in settled) (loads_of arcs) (λ a h. load_found nodes arcs a (omega arith))

  floor_found : floor net (prices_in settled) ≡ floor net (prices_of nodes)
  floor_found = floor_same net (prices_in settled) (prices_of nodes) ends (λ v h. price_found nodes arcs v (omega arith))

  pub settled_amounts : record { charge = charge net (loads_of arcs); floor = floor net (prices_of nodes) } ≡ amounts_in net settled
  settled_amounts = let one = charge_found in let two = floor_found in cc

  pub settled_book : Settled net nodes arcs → SettledBook net settled
  settled_book found = record {
    stands = refl;
    meets = meets_same net (loads_of arcs) (loads_in settled) (λ a h. load_found nodes arcs a (omega arith)) found.meets;
    equal = charge_found ∙ found.equal ∙ sym floor_found;
    price_limit = λ v h. rw (price_found nodes arcs v (omega arith)) (found.price_limit v h);
    unmarked = found.unmarked;
  }

  pub barred_book : Barred net nodes arcs → BarredBook net barred
  barred_book bars = record {
    stands = refl;
    over_full = over_full_same net (marks_of nodes) (marks_in barred) ends (λ v h. mark_found nodes arcs v (omega arith)) bars.over_full;
    no_loads = bars.no_loads;
    no_prices = bars.no_prices;
  }

counted_same : (n : ℕ) (f g : ℕ → Bool) → ((k : ℕ) → k < n → f k ≡ g k) → count n f ≡ count n g
counted_same zero f g same = refl
counted_same (suc n) f g same =
    ap (λ (m : ℕ). m + cond (f n) 1 0) (counted_same n f g (λ k h. same k (omega arith))) ∙ ap (λ (b : Bool). count n g + cond b 1 0) (same n (omega arith))

pub marks_counted : (nodes : List Node) (arcs : List Arc) → count (length nodes) (marks_of nodes) ≡ marked_count (record { nodes = nodes; arcs = arcs; standing = standing.Barred })
marks_counted nodes arcs = counted_same (length nodes) (marks_of nodes) (marks_in (record { nodes = nodes; arcs = arcs; standing = standing.Barred })) (λ v h. sym (mark_found nodes arcs v h))

-- ---- what settling says of the network

pub answers_unless : (refusal : Option SheetFault) (net : Net) (b b' : Book) (r : Result Amounts SheetFault) → length b.nodes ≡ net.nodes → SettlesUnless refusal net b b' r → Answers refusal net r
answers_unless (Some f) net b b' r counted settles = settles.0
answers_unless None net b b' (Ok amounts) counted settles = (loads_in b', prices_in b', settles.1.meets, settles.1.equal, settles.2)
answers_unless None net b b' (Err f) counted settles =
    (marks_in b', settles.1.over_full, settles.2 ∙ ap (λ (n : ℕ). fault.Barred (count n (marks_in b'))) (node_count b b' settles.0 ∙ counted))

pub answers_of : (b b' : Book) (costs : List Meaning) (r : Result Amounts SheetFault) → Settles b costs b' r → Answers (settle_refusal b.nodes b.arcs (length costs)) (network_of b costs) r
answers_of b b' costs r settles = answers_unless (settle_refusal b.nodes b.arcs (length costs)) (network_of b costs) b b' r refl settles

module _ (b : Book) (costs : List Meaning) (ends : Ends (network_of b costs)) where
  -- a routing that meets the network leaves nothing over, so that nothing refuses
  unrefused : length costs ≡ length b.arcs → (load : ℕ → ℤ) → Meets (network_of b costs) load → settle_refusal b.nodes b.arcs (length costs) ≡ None
  unrefused listed load meets =
      let balanced : supply_sum b.nodes ≡ pos 0 = sym (conservation (network_of b costs) load ends) ∙ sum_none (length b.nodes) (surplus (network_of b costs) load) meets.balanced in
      let one : eqb (length costs) (length b.arcs) ≡ true = eq-eqb (length costs) (length b.arcs) listed in
      let two : is_zero (supply_sum b.nodes) ≡ true = ap is_zero balanced in
      rw (one, two)

  pub answers_exactly : (r : Result Amounts SheetFault) → length costs ≡ length b.arcs → Answers (settle_refusal b.nodes b.arcs (length costs)) (network_of b costs) r → EqualWhenBest (network_of b costs)
  answers_exactly r listed answers load price meets =
      go r (subst (λ (refusal : Option SheetFault). Answers refusal (network_of b costs) r) (unrefused listed load meets) answers)
    where
      go : (r : Result Amounts SheetFault) → Answers None (network_of b costs) r → (charge (network_of b costs) load ≡ floor (network_of b costs) price) ↔ (Cheapest (network_of b costs) load × Highest (network_of b costs) price)
      go (Ok amounts) (load₀, price₀, meets₀, equal₀, is) = equal_exactly_when_best (network_of b costs) load₀ price₀ ends meets₀ equal₀ load price meets
      go (Err f) (marked, full, is) = absurd (over_full_bars (network_of b costs) marked ends full load meets)

  pub answers_or_none : (r : Result Amounts SheetFault) → settle_refusal b.nodes b.arcs (length costs) ≡ None → Answers (settle_refusal b.nodes b.arcs (length costs)) (network_of b costs) r → (is_ok r ≡ false) ↔ (Feasible (network_of b costs) → ⊥)
  answers_or_none r none answers = go r (subst (λ (refusal : Option SheetFault). Answers refusal (network_of b costs) r) none answers)
    where
      go : (r : Result Amounts SheetFault) → Answers None (network_of b costs) r → (is_ok r ≡ false) ↔ (Feasible (network_of b costs) → ⊥)
      go (Ok amounts) (load₀, price₀, meets₀, equal₀, is) = (λ e. absurd (true≢false e), λ no_routing. absurd (no_routing (load₀, meets₀)))
      go (Err f) (marked, full, is) = (λ _ some. over_full_bars (network_of b costs) marked ends full some.0 some.1, λ _. refl)

-- ---- the ways in which settling ends

module _ (b : Book) (costs : List Meaning) where
  pub ends_refused : (f : SheetFault) (r : Result Amounts SheetFault) → settle_refusal b.nodes b.arcs (length costs) ≡ Some f → r ≡ Err f → Settles b costs b r
  ends_refused f r e is = subst (λ (refusal : Option SheetFault). SettlesUnless refusal (network_of b costs) b b r) (sym e) (is, refl)

  module _ (sound : Sound b.nodes b.arcs) (none : settle_refusal b.nodes b.arcs (length costs) ≡ None) (nodes : List Node) (arcs : List Arc) (ns : SameNodes b.nodes nodes) (es : SameArcs b.arcs arcs) where
    abbrev net : Net
    net = network_of b costs

    pub ends_settled : Settled net nodes arcs → (charge' floor' : ℤ) → charge' ≡ charge net (loads_of arcs) → floor' ≡ floor net (prices_of nodes)
        → Settles b costs (record { nodes = nodes; arcs = arcs; standing = standing.Settled }) (Ok (record { charge = charge'; floor = floor' }))
    ends_settled found charge' floor' charged floored =
        let amounts : ◌≡◌ {A = Amounts} (record { charge = charge'; floor = floor' }) (record { charge = charge net (loads_of arcs); floor = floor net (prices_of nodes) }) = cc in
        subst (λ (refusal : Option SheetFault). SettlesUnless refusal net b (record { nodes = nodes; arcs = arcs; standing = standing.Settled }) (Ok (record { charge = charge'; floor = floor' }))) (sym none) (
          same_network b nodes arcs ns es,
          settled_book net (sound_ends b.nodes b.arcs costs sound) nodes arcs ns.many es.many found,
          amounts ∙ settled_amounts net (sound_ends b.nodes b.arcs costs sound) nodes arcs ns.many es.many,
        )

    pub ends_barred : Barred net nodes arcs → (marked : ℕ) → marked ≡ count (length nodes) (marks_of nodes)
        → Settles b costs (record { nodes = nodes; arcs = arcs; standing = standing.Barred }) (Err (fault.Barred marked))
    ends_barred bars marked counted =
        subst (λ (refusal : Option SheetFault). SettlesUnless refusal net b (record { nodes = nodes; arcs = arcs; standing = standing.Barred }) (Err (fault.Barred marked))) (sym none) (
          same_network b nodes arcs ns es,
          barred_book net (sound_ends b.nodes b.arcs costs sound) nodes arcs ns.many es.many bars,
          ap fault.Barred (counted ∙ marks_counted nodes arcs),
        )
