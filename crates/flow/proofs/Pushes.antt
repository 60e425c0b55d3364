-- An amount pushed along the way on which a node was reached moves from the start of the way to its end.
use Rattle.std.proofs.Common.{◌≡◌, ℕ, ◌<◌, ◌≤◌, Bool, true, false, cond, eqb, List, [], length, set, ℤ, pos, ◌+ℤ◌, ◌-ℤ◌, neg_ℤ, ◌≤ℤ◌, Some, None, Option, IsSomeAnd, sym, refl, ap, ◌∙◌, inl, inr, arith}
use Rattle.std.proofs.lemmas.Int.{ints}
use Rattle.std.proofs.lemmas.List.{get_or-set_same, get_or-set_other, length-set}
use Rattle.std.proofs.lemmas.Bool.{cases_eq}
use Rattle.cost.specs.Meaning.{Between}
use Rattle.network.specs.Sums.{counted}
use Rattle.network.specs.Network.{Net, surplus}
use Rattle.network.specs.Graphs.{net_in}
use Rattle.network.specs.Records.{numbers}
use Rattle.network.specs.declared.graph.Graph.{Graph}
use Rattle.flow.specs.declared.spans.Span.{Span}
use Rattle.flow.specs.Spans.{low_of, high_of}
use Rattle.network.proofs.Changes.{alike_set, surplus_changed}
use Rattle.flow.specs.declared.reach.Step.{Step}
use Rattle.flow.specs.declared.reach.Label.{Label}
use Rattle.flow.proofs.Gathered.{counted_neg}
use Rattle.flow.specs.Within.{Ready}
use Rattle.flow.specs.Labels.{is_along, label_of, step_of, end_of, start_of, room_on, Stepped, Labelled}
use Rattle.flow.proofs.Marks.{taken}

-- what a load gains when an amount goes over its arc
abbrev pub over : Bool → ℤ → ℤ
over forward by = cond forward by (neg_ℤ by)

-- after how many steps a node was reached
abbrev pub order_of : Option Label → ℕ
order_of None = 0
order_of (Some label) = label.order

-- the way back has come to a node, from which the amount is still to be brought to the target
pub record Pushing (graph : Graph) (spans : List Span) (start : List ℤ) (labels : List (Option Label)) (target : ℕ) (by : ℤ) (loads : List ℤ) (node : ℕ) : Type 0 where
  pub ready : Ready graph spans loads
  pub place : node < length graph.nodes.now
  pub label : Label
  pub at : label_of labels node ≡ Some label
  pub amount : by ≤ℤ label.width
  pub kept : (v : ℕ) → v < length graph.nodes.now → (other : Label) (step : Step) → label_of labels v ≡ Some other → other.step ≡ Some step → other.order ≤ label.order
      → numbers loads step.arc ≡ numbers start step.arc
  pub moved : (v : ℕ) → v < length graph.nodes.now
      → surplus (net_in graph []) (numbers loads) v ≡ surplus (net_in graph []) (numbers start) v +ℤ counted (eqb target v) by -ℤ counted (eqb node v) by

-- two steps over one arc end at one node, or each starts where the other ends
two_steps : (net : Net) (a : ℕ) (f g : Bool) (u v w x : ℕ) → end_of net f a ≡ u → start_of net f a ≡ v → end_of net g a ≡ w → start_of net g a ≡ x → (u ≡ w → ⊥) → (u ≡ x) × (v ≡ w)
two_steps net a true true u v w x e s e' s' apart = absurd (apart (sym e ∙ e'))
two_steps net a true false u v w x e s e' s' apart = (sym e ∙ s', sym s ∙ e')
two_steps net a false true u v w x e s e' s' apart = (sym e ∙ s', sym s ∙ e')
two_steps net a false false u v w x e s e' s' apart = absurd (apart (sym e ∙ e'))

-- an amount that fits the room keeps the load within its low and high
room_kept : (f : Bool) (low high load by : ℤ) → pos 0 ≤ℤ by → by ≤ℤ room_on f low high load → Between low high load → Between low high (load +ℤ over f by)
room_kept true low high load by sign fits held = omega (arith, ints)
room_kept false low high load by sign fits held = omega (arith, ints)

small : (f : Bool) (low high load by : ℤ) → pos 0 ≤ℤ low → high ≤ℤ pos 10000 → Between low high load → Between low high (load +ℤ over f by) → by ≤ℤ pos 10000
small true low high load by above under held next = omega (arith, ints)
small false low high load by above under held next = omega (arith, ints)

-- what goes over an arc is gained where the step ends and lost where it starts
stepped_surplus : (net : Net) (load other : ℕ → ℤ) (a : ℕ) (f : Bool) (by : ℤ) (v : ℕ) → other a -ℤ load a ≡ over f by
    → surplus net other v ≡ surplus net load v +ℤ counted (eqb (net.head a) v) (other a -ℤ load a) -ℤ counted (eqb (net.tail a) v) (other a -ℤ load a)
    → surplus net other v ≡ surplus net load v +ℤ counted (eqb (end_of net f a) v) by -ℤ counted (eqb (start_of net f a) v) by
stepped_surplus net load other a true by v is e = omega (arith, ints, ap (counted (eqb (net.head a) v)) is, ap (counted (eqb (net.tail a) v)) is)
stepped_surplus net load other a false by v is e =
    omega (
      arith,
      ints,
      ap (counted (eqb (net.head a) v)) is,
      ap (counted (eqb (net.tail a) v)) is,
      counted_neg (eqb (net.head a) v) by,
      counted_neg (eqb (net.tail a) v) by,
    )

same_order : (labels : List (Option Label)) (u v : ℕ) (label other : Label) → label_of labels u ≡ Some label → label_of labels v ≡ Some other → u ≡ v → label.order ≡ other.order
same_order labels u v label other here there e = ap order_of (sym here ∙ ap (label_of labels) e ∙ there)

module _ (graph : Graph) (spans : List Span) (start : List ℤ) (labels : List (Option Label)) (target : ℕ) (by : ℤ)
    (labelled : Labelled (net_in graph []) (low_of spans) (high_of spans) (numbers start) labels) (sign : pos 0 ≤ℤ by) where
  abbrev net : Net
  net = net_in graph []

  pub push_starts : Ready graph spans start → target < length graph.nodes.now → IsSomeAnd (label_of labels target) (λ label. by ≤ℤ label.width)
      → Pushing graph spans start labels target by start target
  push_starts ready place amount =
      let here = taken (λ label. by ≤ℤ label.width) (label_of labels target) amount in
      record {
        ready = ready;
        place = place;
        label = here.0;
        at = here.1;
        amount = here.2;
        kept = λ v h other step is noted order. refl;
        moved = λ v h. omega (arith, ints);
      }

  module _ (loads : List ℤ) (node : ℕ) (pushing : Pushing graph spans start labels target by loads node) (s : Step) (told : step_of (label_of labels node) ≡ Some s) where
    noted : pushing.label.step ≡ Some s
    noted = ap step_of (sym pushing.at) ∙ told

    abbrev next : List ℤ
    next = set loads s.arc (numbers loads s.arc +ℤ over (is_along s.way) by)

    pub found : (before : Label) × (label_of labels s.from ≡ Some before) × Stepped net (low_of spans) (high_of spans) (numbers start) node pushing.label before s
    found = (labelled.justified node pushing.place pushing.label pushing.at).stepped s noted

    abbrev before : Label
    before = found.0

    pub step : Stepped net (low_of spans) (high_of spans) (numbers start) node pushing.label before s
    step = found.2

    pub shorter : order_of (label_of labels s.from) < order_of (label_of labels node)
    shorter = omega (arith, step.earlier, ap order_of found.1, ap order_of pushing.at)

    at_arc : numbers next s.arc ≡ numbers loads s.arc +ℤ over (is_along s.way) by
    at_arc = get_or-set_same loads s.arc _ (pos 0) (omega (arith, step.arc_in, pushing.ready.loads_long))

    here : numbers loads s.arc ≡ numbers start s.arc
    here = pushing.kept node pushing.place pushing.label s pushing.at noted (omega arith)

    pub held_on : Between (low_of spans s.arc) (high_of spans s.arc) (numbers loads s.arc +ℤ over (is_along s.way) by)
    held_on =
        let room : by ≤ℤ room_on (is_along s.way) (low_of spans s.arc) (high_of spans s.arc) (numbers loads s.arc) = rw here (omega (arith, ints, step.fits, pushing.amount)) in
        room_kept (is_along s.way) _ _ _ by sign room (pushing.ready.held s.arc step.arc_in)

    -- what the change of the load asks
    pub record Shifts : Type 0 where
      pub place : s.arc < length loads
      pub limits : Between (pos 0) (pos 10000) (numbers loads s.arc)
      pub amount : Between (pos 0) (pos 10000) by

    pub shifts : Shifts
    shifts =
        let held = pushing.ready.held s.arc step.arc_in in
        let low = pushing.ready.low_limit s.arc step.arc_in in
        let high = pushing.ready.high_limit s.arc step.arc_in in
        record {
          place = omega (arith, step.arc_in, pushing.ready.loads_long);
          limits = omega (arith, ints);
          amount = (sign, small (is_along s.way) _ _ _ by low high held held_on);
        }

    apart : (v : ℕ) → v < length graph.nodes.now → (other : Label) (t : Step) → label_of labels v ≡ Some other → other.step ≡ Some t → other.order ≤ before.order → t.arc ≡ s.arc → ⊥
    apart v h other t is noted' order same =
        let past = (labelled.justified v h other is).stepped t noted' in
        let crossed = two_steps net s.arc (is_along s.way) (is_along t.way) node s.from v t.from
        step.ends step.starts (ap (end_of net (is_along t.way)) (sym same) ∙ past.2.ends) (ap (start_of net (is_along t.way)) (sym same) ∙ past.2.starts)
        (λ e. omega (arith, step.earlier, same_order labels node v pushing.label other pushing.at is e)) in
        omega (arith, step.earlier, past.2.earlier, same_order labels node t.from pushing.label past.0 pushing.at past.1 crossed.0)

    pub push_on : Pushing graph spans start labels target by next s.from
    push_on = record {
      ready = record {
        spans_long = pushing.ready.spans_long;
        loads_long = simp length-set pushing.ready.loads_long;
        low_limit = pushing.ready.low_limit;
        high_limit = pushing.ready.high_limit;
        held = λ b h. elim (cases_eq b s.arc) [
          | inl at ↦ rw (at, at_arc) held_on
          | inr away ↦ rw (get_or-set_other loads s.arc b _ (pos 0) away) (pushing.ready.held b h)
        ];
      };
      place = step.from_in;
      label = before;
      at = found.1;
      amount = omega (arith, ints, pushing.amount, step.narrower);
      kept = λ v h other t is noted' order. get_or-set_other loads s.arc t.arc _ (pos 0) (apart v h other t is noted' order) ∙ pushing.kept v h other t is noted' (omega (arith, step.earlier));
      moved = λ v h.
          omega (
            arith,
            ints,
            pushing.moved v h,
            stepped_surplus net (numbers loads) (numbers next) s.arc (is_along s.way) by v (omega (arith, ints, at_arc))
                (surplus_changed net (numbers loads) (numbers next) s.arc step.arc_in (alike_set (length graph.arcs.now) s.arc loads _ (pos 0)) v),
            ap (λ k. counted (eqb k v) by) step.ends,
            ap (λ k. counted (eqb k v) by) step.starts,
          );
    }
