-- One round of the search for loads that leave no surplus: an amount is moved, or the nodes that were reached are over full.
use Rattle.std.proofs.Common.{◌≡◌, ℕ, ◌<◌, ◌≤◌, Bool, true, false, not, ◌&&◌, eqb, List, [], length, Some, None, Option, ℤ, pos, ◌+ℤ◌, ◌-ℤ◌, neg_ℤ, ◌≤ℤ◌, ◌<ℤ◌, sym, refl, ap, ◌∙◌, arith}
use Rattle.std.specs.Int.{int_min}
use Rattle.std.proofs.lemmas.Int.{ints, clamps, by_lt_z}
use Rattle.std.proofs.lemmas.Bool.{false≢true}
use Rattle.cost.specs.Meaning.{Between}
use Rattle.network.specs.Sums.{sum, counted}
use Rattle.network.specs.Network.{Net, Ends, surplus, leaves, enters, sum_marked}
use Rattle.network.specs.Graphs.{net_in}
use Rattle.network.specs.Records.{numbers}
use Rattle.network.specs.declared.graph.Graph.{Graph}
use Rattle.network.proofs.Graphs.{graph_sound}
use Rattle.flow.specs.declared.spans.Span.{Span}
use Rattle.flow.specs.Spans.{low_of, high_of}
use Rattle.network.proofs.Counted.{counted_same}
use Rattle.network.proofs.Sums.{sum_same, sum_minus, sum_none, sum_covers}
use Rattle.network.proofs.Cuts.{crossing, conservation, sum_marked_above}
use Rattle.network.proofs.Gains.{surplus_by_all}
use Rattle.flow.specs.declared.reach.Label.{Label}
use Rattle.flow.specs.Within.{Held, OverFullWithin, Ready}
use Rattle.flow.specs.Labels.{label_of, reached_in, source, Labelled, ClosedIn}
use Rattle.flow.specs.Surpluses.{Tells, excess}
use Rattle.flow.proofs.Sources.{sources_labelled}
use Rattle.flow.proofs.Gathered.{moderate}
use Rattle.flow.proofs.Excess.{excess_falls}

-- what crosses the border of a set that no step with room leads out of is at its high where it leaves and at its low where it enters
stays : (from to : Bool) (x y : ℤ) → (from && not to) ≡ true → (from ≡ true → x <ℤ y → to ≡ true) → x ≤ℤ y → x ≡ y
stays true true x y crosses step order = absurd (false≢true crosses)
stays true false x y crosses step order = by_lt_z x y (λ under. absurd (false≢true (step refl under))) (λ over. omega (arith, ints))
stays false to x y crosses step order = absurd (false≢true crosses)

pub closed_bars : (net : Net) (low high load : ℕ → ℤ) (labels : List (Option Label)) → Ends net → Held net.arcs low high load
    → ((a : ℕ) → a < net.arcs → ClosedIn net low high load labels a)
    → pos 0 <ℤ sum_marked net (reached_in labels) (surplus net load) → OverFullWithin net low high (reached_in labels)
closed_bars net low high load labels ends held closed above =
    let marked = reached_in labels in
    omega (
      arith,
      ints,
      crossing net load (reached_in labels) ends,
      sum_same net.arcs _ _ (λ a h. counted_same (leaves net (reached_in labels) a) (load a) (high a) (λ crosses.
          stays (reached_in labels (net.tail a)) (reached_in labels (net.head a)) (load a) (high a) crosses (closed a h).along (held a h).1)),
      sum_same net.arcs _ _ (λ a h. counted_same (enters net (reached_in labels) a) (load a) (low a) (λ crosses.
          sym (stays (reached_in labels (net.head a)) (reached_in labels (net.tail a)) (low a) (load a) crosses (closed a h).against (held a h).0))),
    )

-- sets that have the same nodes are over full alike
pub over_full_alike : (net : Net) (low high : ℕ → ℤ) (marked other : ℕ → Bool) → Ends net → ((v : ℕ) → v < net.nodes → other v ≡ marked v) → OverFullWithin net low high marked → OverFullWithin net low high other
over_full_alike net low high marked other ends same full =
    omega (
      arith,
      ints,
      full,
      sum_same net.nodes _ _ (λ v h. ap (λ b. counted b (net.supply v)) (same v h)),
      sum_same net.arcs _ _ (λ a h. ap (λ b. counted b (high a)) (leaving a h)),
      sum_same net.arcs _ _ (λ a h. ap (λ b. counted b (low a)) (entering a h)),
    )
  where
    leaving : (a : ℕ) → a < net.arcs → leaves net other a ≡ leaves net marked a
    leaving a h = cc (same (net.tail a) (ends.tails a h), same (net.head a) (ends.heads a h))

    entering : (a : ℕ) → a < net.arcs → enters net other a ≡ enters net marked a
    entering a h = cc (same (net.tail a) (ends.tails a h), same (net.head a) (ends.heads a h))

module _ (graph : Graph) (spans : List Span) (loads surpluses : List ℤ) (ready : Ready graph spans loads) (tells : Tells graph loads surpluses) where
  abbrev net : Net
  net = net_in graph []

  pub loads_limit : (a : ℕ) → a < length graph.arcs.now → Between (pos 0) (pos 10000) (numbers loads a)
  loads_limit a h = omega (arith, ints, ready.low_limit a h, ready.high_limit a h, ready.held a h)

  pub surplus_limit : (v : ℕ) → v < length graph.nodes.now → Between (neg_ℤ (pos 2660000)) (pos 2660000) (numbers surpluses v)
  surplus_limit v h = rw (tells.told v h ∙ surplus_by_all net (numbers loads) v) (moderate graph loads loads_limit v (length graph.arcs.now) h (omega arith))

  pub labelled_sources : (labels : List (Option Label)) → length graph.nodes.now ≤ length labels → ((v : ℕ) → v < length graph.nodes.now → label_of labels v ≡ source (numbers surpluses v))
      → Labelled net (low_of spans) (high_of spans) (numbers loads) labels
  labelled_sources labels long is = sources_labelled net (low_of spans) (high_of spans) (numbers loads) labels long (λ v h. is v h ∙ ap source (tells.told v h))

  module _ (labels : List (Option Label)) (labelled : Labelled net (low_of spans) (high_of spans) (numbers loads) labels) where
    pub bars : (over : ℕ) → over < length graph.nodes.now → pos 0 <ℤ numbers surpluses over
        → ((a : ℕ) → a < length graph.arcs.now → ClosedIn net (low_of spans) (high_of spans) (numbers loads) labels a)
        → ((v : ℕ) → v < length graph.nodes.now → reached_in labels v ≡ true → pos 0 ≤ℤ numbers surpluses v)
        → OverFullWithin net (low_of spans) (high_of spans) (reached_in labels)
    bars over place above closed none =
        let here = tells.told over place in
        closed_bars net (low_of spans) (high_of spans) (numbers loads) labels (record { tails = (graph_sound graph).tails; heads = (graph_sound graph).heads }) ready.held closed
        (sum_marked_above net (reached_in labels) (surplus net (numbers loads)) over place (labelled.sourced over place (omega (arith, ints))) (omega (arith, ints))
        (λ v h reached. omega (arith, ints, none v h reached, tells.told v h)))

    module _ (target : ℕ) (place : target < length graph.nodes.now) (label : Label) (at : label_of labels target ≡ Some label) (short : numbers surpluses target <ℤ pos 0) where
      -- an amount that can come to the target and that it wants
      pub record Amount (by : ℤ) : Type 0 where
        pub sign : pos 0 <ℤ by
        pub fits : by ≤ℤ label.width
        pub owed : by ≤ℤ neg_ℤ (numbers surpluses target)
        pub limit : by ≤ℤ pos 2660000

      pub amount : (by : ℤ) → by ≡ int_min label.width (pos 0 -ℤ numbers surpluses target) → Amount by
      amount by is =
          let limit = surplus_limit target place in
          let above = (labelled.justified target place label at).wide in
          record { sign = omega (arith, ints, clamps); fits = omega (arith, ints, clamps); owed = omega (arith, ints, clamps); limit = omega (arith, ints, clamps) }

      pub record Relieved (next told : List ℤ) : Type 0 where
        pub telling : Tells graph next told
        pub less : excess (length graph.nodes.now) told < excess (length graph.nodes.now) surpluses

      pub relieved : (by : ℤ) → Amount by → (next told : List ℤ) (start : ℕ) (first : Label) → start < length graph.nodes.now → label_of labels start ≡ Some first → first.step ≡ None → by ≤ℤ first.width
          → ((v : ℕ) → v < length graph.nodes.now → surplus net (numbers next) v ≡ surplus net (numbers loads) v +ℤ counted (eqb target v) by -ℤ counted (eqb start v) by)
          → length surpluses ≤ length told
          → ((v : ℕ) → numbers told v ≡ numbers surpluses v +ℤ counted (eqb target v) by -ℤ counted (eqb start v) by)
          → Relieved next told
      relieved by enough next told start first from_in from_is none fits moved long noted = record {
        telling = record { long = omega (arith, tells.long); told = λ v h. omega (arith, ints, noted v, moved v h, tells.told v h) };
        less = excess_falls (length graph.nodes.now) surpluses told start target by from_in place enough.sign
            (omega (arith, ints, (labelled.justified start from_in first from_is).owned none, tells.told start from_in)) enough.owed (λ v h. noted v);
      }

-- where no surplus is positive, none is negative either
pub none_over : (net : Net) (load : ℕ → ℤ) → Ends net → sum net.nodes net.supply ≡ pos 0 → ((v : ℕ) → v < net.nodes → surplus net load v ≤ℤ pos 0) → (v : ℕ) → v < net.nodes → surplus net load v ≡ pos 0
none_over net load ends balanced none v h =
    omega (
      arith,
      ints,
      none v h,
      conservation net load ends,
      sum_covers net.nodes v (λ k. pos 0 -ℤ surplus net load k) h (λ k l. omega (arith, ints, none k l)),
      sum_minus net.nodes (λ k. pos 0) (surplus net load),
      sum_none net.nodes (λ k. pos 0) (λ k l. refl),
    )
