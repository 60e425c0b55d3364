-- What loads within the narrowed spans are worth, and what it says where there are none.
use Rattle.std.proofs.Common.{◌≡◌, ℕ, ◌-◌, ◌<◌, ◌≤◌, Bool, List, [], ◌++◌, length, take, ℤ, pos, ◌+ℤ◌, ◌≤ℤ◌, ap, ◌∙◌, subst, arith}
use Rattle.std.proofs.lemmas.Int.{ints}
use Rattle.std.proofs.lemmas.List.{get_or-take, get_or_append_left, length-take-le}
use Rattle.cost.specs.Meaning.{Meaning, Between, Lawful}
use Rattle.network.specs.Sums.{counted}
use Rattle.network.specs.Network.{Net, Ends, tension, floor}
use Rattle.network.specs.Graphs.{net_in}
use Rattle.network.specs.Records.{numbers}
use Rattle.flow.specs.Spans.{no_span, low_of, high_of}
use Rattle.flow.specs.declared.spans.Span.{Span}
use Rattle.flow.specs.Within.{Held, Met, OverFullWithin, Ready}
use Rattle.search.specs.Networks.{network_of}
use Rattle.search.specs.Prices.{raised, AllSlack}
use Rattle.search.specs.Searches.{IsNarrow}
use Rattle.search.specs.Spans.{HeldIn}
use Rattle.search.specs.Turns.{Narrow, Narrowed, NarrowedWhere, Beside}
use Rattle.search.proofs.Turning.{narrow_order, narrow_slack}
use Rattle.search.specs.declared.improve.Search.{Search}
use Rattle.search.proofs.Costed.{network_lawful}
use Rattle.search.proofs.Ascent.{floor_rises}

-- where the prices of a set rise, the arcs with both ends in the set, or none, keep their tensions, and so their spans
pub kept_beside : (net : Net) → Ends net → (price next : ℕ → ℤ) (marked : ℕ → Bool) (rise step : ℤ) (low high : ℕ → ℤ)
    → ((v : ℕ) → v < net.nodes → next v ≡ raised price marked rise v) → Narrowed net price step low high → NarrowedWhere (Beside net marked) net next step low high
kept_beside net ends price next marked rise step low high up narrowed a h alike =
    let same : tension net price a ≡ tension net next a =
    omega (arith, ints, up (net.tail a) (ends.tails a h), up (net.head a) (ends.heads a h), ap (λ b. counted b rise) alike) in
    subst (λ t. Narrow (net.cost a) t step (low a) (high a)) same (narrowed a h)

-- prices of which the first n are raised, as a part that is lent
pub raised_front : (n : ℕ) (prices front rest : List ℤ) (marked : ℕ → Bool) (step : ℤ) → n ≤ length prices → length front ≡ length (take (n - 0) prices)
    → ((v : ℕ) → v < length (take (n - 0) prices) → numbers front v ≡ raised (numbers (take (n - 0) prices)) marked step v)
    → (v : ℕ) → v < n → numbers (front ++ rest) v ≡ raised (numbers prices) marked step v
raised_front n prices front rest marked step within long up v h =
    let short = length-take-le (n - 0) prices (omega arith) in
    let same = get_or-take (n - 0) prices v (pos 0) (omega arith) in
    get_or_append_left front rest (pos 0) v (omega arith) ∙ up v (omega arith) ∙ ap (λ x. x +ℤ counted (marked v) step) same

-- loads that are held by the first n spans, as a part that is lent
pub held_front : (n : ℕ) (spans : List Span) (loads : List ℤ) → n ≤ length spans → ((a : ℕ) → a < n → low_of spans a ≤ℤ high_of spans a) → HeldIn (take (n - 0) spans) loads
    → Held n (low_of spans) (high_of spans) (numbers loads)
held_front n spans loads within order held a h =
    let long = length-take-le (n - 0) spans (omega arith) in
    let same = get_or-take (n - 0) spans a no_span (omega arith) in
    let P : Span → Type 0 = λ s. s.low ≤ℤ s.high → Between s.low s.high (numbers loads a) in
    subst P same (held a (omega arith)) (order a h)

module _ {C : Type 0} (meaning : C → Meaning) (lawful : (cost : C) → Lawful (meaning cost)) (search : Search C) (narrow : IsNarrow meaning search) where
  abbrev net : Net
  net = network_of meaning search.network.now

  each_lawful : (a : ℕ) → a < net.arcs → Lawful (net.cost a)
  each_lawful = network_lawful meaning search.network.now lawful

  pub order : (a : ℕ) → a < net.arcs → low_of search.spans a ≤ℤ high_of search.spans a
  order a h = narrow_order (net.cost a) (each_lawful a h).convex (tension net (numbers search.prices) a) search.step (low_of search.spans a) (high_of search.spans a) search.step_from (narrow a h)

  -- loads that the spans hold are ready to be changed into a routing
  pub ready_within : (loads : List ℤ) → net.arcs ≤ length loads → HeldIn (take (net.arcs - 0) search.spans) loads → Ready search.network.now.graph search.spans loads
  ready_within loads long held =
      let within : net.arcs ≤ length search.spans = omega (arith, search.spanned, search.network.now.graph.few_arcs) in
      record {
        spans_long = within;
        loads_long = long;
        low_limit = λ a h. omega (arith, ints, (narrow a h).low_turns.within);
        high_limit = λ a h. omega (arith, ints, (narrow a h).high_turns.within, (each_lawful a h).last_limit);
        held = held_front net.arcs search.spans loads within order held;
      }

  pub slack_within : (load : ℕ → ℤ) → Met (net_in search.network.now.graph []) (low_of search.spans) (high_of search.spans) load → search.step ≡ pos 1 → AllSlack net (numbers search.prices) load
  slack_within load met one a h =
      narrow_slack (net.cost a) (each_lawful a h).convex (tension net (numbers search.prices) a) (low_of search.spans a) (high_of search.spans a) (load a)
      (subst (λ s. Narrow (net.cost a) (tension net (numbers search.prices) a) s (low_of search.spans a) (high_of search.spans a)) one (narrow a h)) (met.held a h).0 (met.held a h).1

  pub rises_beyond : (marked : ℕ → Bool) → OverFullWithin (net_in search.network.now.graph []) (low_of search.spans) (high_of search.spans) marked
      → (floor net (numbers search.prices) +ℤ search.step) ≤ℤ floor net (raised (numbers search.prices) marked search.step)
  rises_beyond marked full =
      floor_rises net (numbers search.prices) (low_of search.spans) (high_of search.spans) search.step marked (λ a h. (each_lawful a h).convex) narrow (omega (arith, ints, search.step_from)) full
