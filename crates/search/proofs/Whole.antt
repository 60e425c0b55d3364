-- The search within the whole range of each cost, and what a routing and prices say of the network.
use Rattle.std.proofs.Common.{◌≡◌, ℕ, ◌-◌, ◌<◌, ◌≤◌, Bool, false, List, [], length, take, ℤ, pos, sym, ap, ◌∙◌, arith}
use Rattle.std.proofs.lemmas.Int.{ints}
use Rattle.cost.specs.Meaning.{Meaning, last, Lawful, Between}
use Rattle.network.specs.Sums.{counted}
use Rattle.network.specs.Network.{Net, Ends, Meets, charge, floor, leaves, enters, OverFull}
use Rattle.network.specs.Graphs.{net_in}
use Rattle.network.specs.declared.records.Node.{Node}
use Rattle.network.specs.declared.records.Arc.{Arc}
use Rattle.network.proofs.Sums.{sum_same}
use Rattle.network.proofs.Changes.{surplus_same, charge_same, floor_same}
use Rattle.search.specs.Networks.{network_of}
use Rattle.search.specs.declared.networks.Network.{Network}
use Rattle.search.proofs.Costed.{network_lawful}
use Rattle.search.proofs.Attempts.{held_front}
use Rattle.search.specs.Spans.{HeldIn}
use Rattle.search.specs.Settled.{loads_of, prices_of, marks_of, Settled, Barred}
use Rattle.flow.specs.Spans.{low_of, high_of}
use Rattle.flow.specs.declared.spans.Span.{Span}
use Rattle.flow.specs.Within.{OverFullWithin, Ready}

module _ {C : Type 0} (meaning : C → Meaning) (lawful : (cost : C) → Lawful (meaning cost)) (network : Network C) (spans : List Span) (within : length network.graph.arcs.now ≤ length spans)
    (low_is : (a : ℕ) → a < length network.graph.arcs.now → low_of spans a ≡ pos ((network_of meaning network).cost a).first)
    (high_is : (a : ℕ) → a < length network.graph.arcs.now → high_of spans a ≡ pos (last ((network_of meaning network).cost a))) where
  abbrev net : Net
  net = network_of meaning network

  -- loads that the spans hold are ready to be changed into a routing
  pub whole_ready : (loads : List ℤ) → net.arcs ≤ length loads → HeldIn (take (net.arcs - 0) spans) loads → Ready network.graph spans loads
  whole_ready loads long held = record {
    spans_long = within;
    loads_long = long;
    low_limit = λ a h. omega (arith, ints, low_is a h);
    high_limit = λ a h. omega (arith, ints, high_is a h, (network_lawful meaning network lawful a h).last_limit);
    held = held_front net.arcs spans loads within (λ a h. omega (arith, ints, low_is a h, high_is a h)) held;
  }

  pub whole_barred : (marked : ℕ → Bool) → OverFullWithin (net_in network.graph []) (low_of spans) (high_of spans) marked → OverFull net marked
  whole_barred marked full =
      omega (
        arith,
        ints,
        sum_same net.arcs (λ a. counted (leaves net marked a) (high_of spans a)) (λ a. counted (leaves net marked a) (pos (last (net.cost a)))) (λ a h. ap (counted (leaves net marked a)) (high_is a h)),
        sum_same net.arcs (λ a. counted (enters net marked a) (low_of spans a)) (λ a. counted (enters net marked a) (pos (net.cost a).first)) (λ a h. ap (counted (enters net marked a)) (low_is a h)),
      )

-- loads that agree meet alike, and marks that agree are over full alike
pub meets_same : (net : Net) (load other : ℕ → ℤ) → ((a : ℕ) → a < net.arcs → other a ≡ load a) → Meets net load → Meets net other
meets_same net load other same meets = record {
  routing = λ a h. rw (same a h) (meets.routing a h);
  balanced = λ v h. surplus_same net other load same v ∙ meets.balanced v h;
}

pub over_full_same : (net : Net) (marked other : ℕ → Bool) → Ends net → ((v : ℕ) → v < net.nodes → other v ≡ marked v) → OverFull net marked → OverFull net other
over_full_same net marked other ends same full =
    omega (
      arith,
      ints,
      sum_same net.arcs (λ a. counted (leaves net other a) (pos (last (net.cost a)))) (λ a. counted (leaves net marked a) (pos (last (net.cost a))))
          (λ a h. rw (same (net.tail a) (ends.tails a h), same (net.head a) (ends.heads a h))),
      sum_same net.arcs (λ a. counted (enters net other a) (pos (net.cost a).first)) (λ a. counted (enters net marked a) (pos (net.cost a).first))
          (λ a h. rw (same (net.head a) (ends.heads a h), same (net.tail a) (ends.tails a h))),
      sum_same net.nodes (λ v. counted (other v) (net.supply v)) (λ v. counted (marked v) (net.supply v)) (λ v h. ap (λ b. counted b (net.supply v)) (same v h)),
    )

-- what is written into the records
module _ (net : Net) (ends : Ends net) (nodes : List Node) (arcs : List Arc) where
  pub settled_if : (load price : ℕ → ℤ) → Meets net load → charge net load ≡ floor net price → ((v : ℕ) → v < net.nodes → Between (pos 0) (pos 64000000) (price v))
      → ((a : ℕ) → a < net.arcs → loads_of arcs a ≡ load a) → ((v : ℕ) → v < net.nodes → prices_of nodes v ≡ price v) → ((v : ℕ) → v < net.nodes → marks_of nodes v ≡ false)
      → Settled net nodes arcs
  settled_if load price meets equal limits loaded priced unmarked = record {
    meets = meets_same net load (loads_of arcs) loaded meets;
    equal = charge_same net (loads_of arcs) load loaded ∙ equal ∙ sym (floor_same net (prices_of nodes) price ends priced);
    price_limit = λ v h. omega (arith, ints, priced v h, limits v h);
    unmarked = unmarked;
  }

  pub barred_if : (marked : ℕ → Bool) → OverFull net marked
      → ((a : ℕ) → a < net.arcs → loads_of arcs a ≡ pos 0) → ((v : ℕ) → v < net.nodes → prices_of nodes v ≡ pos 0) → ((v : ℕ) → v < net.nodes → marks_of nodes v ≡ marked v)
      → Barred net nodes arcs
  barred_if marked full loaded priced same = record { over_full = over_full_same net marked (marks_of nodes) ends same full; no_loads = loaded; no_prices = priced }
