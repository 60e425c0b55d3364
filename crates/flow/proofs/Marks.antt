-- A search that reaches one node more keeps its labels sound.
use Rattle.std.proofs.Common.{◌≡◌, ℕ, ◌+◌, ◌<◌, ◌≤◌, Bool, true, false, cond, not, ◌&&◌, ◌||◌, List, set, ℤ, pos, ◌-ℤ◌, ◌<ℤ◌, Some, None, Option, is_some, IsSomeAnd, sym, refl, ap, ◌∙◌, subst, inl, inr, arith, below_more}
use lib.Signed.{lt_z}
use Rattle.std.proofs.lemmas.Int.{ints, clamps}
use Rattle.std.proofs.lemmas.List.{get_or-set_same, get_or-set_other, length-set}
use Rattle.std.proofs.lemmas.Bool.{cases_eq, and_parts, not-true, both_ways, or_parts, or_cases}
use Rattle.network.specs.Network.{Net}
use Rattle.flow.specs.declared.reach.Step.{Step}
use Rattle.flow.specs.declared.reach.Label.{Label}
use Rattle.flow.specs.Labels.{is_along, label_of, reached_in, unreached, end_of, start_of, room_on, extends, onward, onward_from, Stepped, Justified, Labelled, ClosedIn}
use Rattle.network.proofs.Counts.{count_more}

-- what the one is, the other is
pub same_some : {A : Type 0} (x y : A) → Some x ≡ Some y → x ≡ y
same_some x y e = cc

-- what a label that is there satisfies
pub taken : {A : Type 0} (P : A → Type 0) (o : Option A) → IsSomeAnd o P → (x : A) × (o ≡ Some x) × P x
taken P None h = absurd h
taken P (Some x) h = (x, refl, h)

some_of : {A : Type 0} (o : Option A) → is_some o ≡ true → (x : A) × (o ≡ Some x)
some_of None e = absurd (both_ways false refl e)
some_of (Some x) e = (x, refl)

none_of : {A : Type 0} (o : Option A) → is_some o ≡ false → o ≡ None
none_of None e = refl
none_of (Some x) e = absurd (both_ways true e refl)

module _ (net : Net) (low high load : ℕ → ℤ) (labels : List (Option Label)) (labelled : Labelled net low high load labels)
    (step : Step) (to : ℕ) (room : ℤ) (arc_in : step.arc < net.arcs) (from_in : step.from < net.nodes) (to_in : to < net.nodes)
    (starts : start_of net (is_along step.way) step.arc ≡ step.from) (ends : end_of net (is_along step.way) step.arc ≡ to) (room_is : room ≡ room_on (is_along step.way) (low step.arc) (high step.arc) (load step.arc))
    (start : Label) (from_is : label_of labels step.from ≡ Some start) (fresh : label_of labels to ≡ None) (above : pos 0 <ℤ room) where
  abbrev more : List (Option Label)
  more = set labels to (Some (onward start step room))

  at_new : label_of more to ≡ Some (onward start step room)
  at_new = get_or-set_same labels to (Some (onward start step room)) None (omega (arith, labelled.long))

  at_old : (v : ℕ) → (v ≡ to → ⊥) → label_of more v ≡ label_of labels v
  at_old v away = get_or-set_other labels to v (Some (onward start step room)) None away

  apart : (v : ℕ) (label : Label) → label_of labels v ≡ Some label → v ≡ to → ⊥
  apart v label is e = both_ways (is_some (label_of labels to)) (ap is_some fresh) (ap (λ k. is_some (label_of labels k)) (sym e) ∙ ap is_some is)

  -- what holds of the new label and of each label before holds of each label now
  by_label : (P : ℕ → Label → Type 0) → P to (onward start step room) → ((v : ℕ) → v < net.nodes → (label : Label) → label_of labels v ≡ Some label → P v label)
      → (v : ℕ) → v < net.nodes → (label : Label) → label_of more v ≡ Some label → P v label
  by_label P new old v h label is =
      elim (cases_eq v to) [
        | inl at ↦ subst (λ k. P k label) (sym at) (subst (P to) (same_some (onward start step room) label (sym at_new ∙ ap (label_of more) (sym at) ∙ is)) new)
        | inr away ↦ old v h label (sym (at_old v away) ∙ is)
      ]

  pub fewer : unreached net.nodes more < unreached net.nodes labels
  fewer =
      count_more net.nodes to (λ v. not (reached_in more v)) (λ v. not (reached_in labels v)) to_in
      (λ v h e. elim (cases_eq v to) [
        | inl at ↦ ap (λ k. not (reached_in labels k)) at ∙ ap (λ (o : Option Label). not (is_some o)) fresh
        | inr away ↦ ap (λ (o : Option Label). not (is_some o)) (sym (at_old v away)) ∙ e
      ])
      (ap (λ (o : Option Label). not (is_some o)) at_new)
      (ap (λ (o : Option Label). not (is_some o)) fresh)

  new_step : Stepped net low high load to (onward start step room) start step
  new_step = record {
    arc_in = arc_in;
    from_in = from_in;
    earlier = omega arith;
    narrower = omega (arith, ints, clamps);
    ends = ends;
    starts = starts;
    fits = omega (arith, ints, clamps);
  }

  new_label : Justified net low high load more to (onward start step room)
  new_label =
      let before = labelled.justified step.from from_in start from_is in
      record {
        wide = omega (arith, ints, clamps, before.wide, above);
        owned = λ none. absurd (both_ways true (ap is_some none) refl);
        stepped = λ s e. subst (λ t. (b : Label) × (label_of more t.from ≡ Some b) × Stepped net low high load to (onward start step room) b t) (same_some step s e)
            (start, at_old step.from (apart step.from start from_is) ∙ from_is, new_step);
        ordered = omega (arith, fewer, before.ordered);
      }

  -- the step that was noted before starts from a node that is not the new one
  kept_label : (v : ℕ) → v < net.nodes → (label : Label) → label_of labels v ≡ Some label → Justified net low high load more v label
  kept_label v h label is =
      let old = labelled.justified v h label is in
      record {
        wide = old.wide;
        owned = old.owned;
        stepped = λ s e. let found = old.stepped s e in (found.0, at_old s.from (apart s.from found.0 found.1) ∙ found.1, found.2);
        ordered = omega (arith, fewer, old.ordered);
      }

  pub extended : Labelled net low high load more
  extended = record {
    long = simp length-set labelled.long;
    sourced = λ v h surplus. elim (cases_eq v to) [
      | inl at ↦ ap (reached_in more) at ∙ ap is_some at_new
      | inr away ↦ ap is_some (at_old v away) ∙ labelled.sourced v h surplus
    ];
    justified = by_label (Justified net low high load more) new_label kept_label;
  }

-- what the labels are after some steps of a pass: as before it, or some more nodes are reached
pub record Grown (net : Net) (low high load : ℕ → ℤ) (before : List (Option Label)) (further : Bool) (labels : List (Option Label)) : Type 0 where
  pub labelled : Labelled net low high load labels
  pub no_more : unreached net.nodes labels ≤ unreached net.nodes before
  pub fewer : further ≡ true → unreached net.nodes labels < unreached net.nodes before
  pub same : further ≡ false → labels ≡ before

-- what a step of the pass finds: it reaches a node more, or there is none to be reached over it
pub record Extended (net : Net) (low high load : ℕ → ℤ) (before : List (Option Label)) (further : Bool) (labels : List (Option Label)) (from to : ℕ) (room : ℤ) : Type 0 where
  pub grown : Grown net low high load before further labels
  pub shut : further ≡ false → reached_in before from ≡ true → pos 0 <ℤ room → reached_in before to ≡ true

shut_if : (from to : Bool) (room : ℤ) → false ≡ (from && (not to && lt_z (pos 0) room)) → from ≡ true → pos 0 <ℤ room → to ≡ true
shut_if true true room test reached above = refl
shut_if true false room test reached above = absurd (both_ways (lt_z (pos 0) room) (sym test) (sym (omega (arith, ints))))
shut_if false to room test reached above = absurd (both_ways false refl reached)

-- a step that reaches a node more or leaves the labels as they are
pub stepped : (net : Net) (low high load : ℕ → ℤ) (labels : List (Option Label)) (r : Bool) (next : List (Option Label)) (from to : ℕ) (room : ℤ) → Labelled net low high load next
    → (r ≡ true → unreached net.nodes next < unreached net.nodes labels) → (r ≡ false → next ≡ labels)
    → (r ≡ false → reached_in labels from ≡ true → pos 0 <ℤ room → reached_in labels to ≡ true)
    → Extended net low high load labels r next from to room
stepped net low high load labels true next from to room labelled fewer same shut = record {
  grown = record { labelled = labelled; no_more = omega (arith, fewer refl); fewer = fewer; same = same };
  shut = shut;
}
stepped net low high load labels false next from to room labelled fewer same shut = record {
  grown = record { labelled = labelled; no_more = rw (same refl) (omega arith); fewer = fewer; same = same };
  shut = shut;
}

parts : (from to : Bool) (room : ℤ) → true ≡ (from && (not to && lt_z (pos 0) room)) → (from ≡ true) × (to ≡ false) × (pos 0 <ℤ room)
parts from to room test =
    let outer = and_parts from (not to && lt_z (pos 0) room) (sym test) in
    let inner = and_parts (not to) (lt_z (pos 0) room) outer.1 in
    (outer.0, not-true to inner.0, omega (arith, ints))

module _ (net : Net) (low high load : ℕ → ℤ) (labels next : List (Option Label)) (labelled : Labelled net low high load labels)
    (step : Step) (to : ℕ) (room : ℤ) (arc_in : step.arc < net.arcs) (from_in : step.from < net.nodes) (to_in : to < net.nodes)
    (starts : start_of net (is_along step.way) step.arc ≡ step.from) (ends : end_of net (is_along step.way) step.arc ≡ to) (room_is : room ≡ room_on (is_along step.way) (low step.arc) (high step.arc) (load step.arc)) where
  pub extend_by : (r : Bool) → r ≡ extends labels step.from to room → next ≡ cond r (set labels to (onward_from (label_of labels step.from) step room)) labels
      → Extended net low high load labels r next step.from to room
  extend_by true test is =
      let told = parts (reached_in labels step.from) (reached_in labels to) room test in
      let start = some_of (label_of labels step.from) told.0 in
      let fresh = none_of (label_of labels to) told.1 in
      let now : next ≡ set labels to (Some (onward start.0 step room)) = is ∙ ap (λ o. set labels to (onward_from o step room)) start.1 in
      stepped net low high load labels true next step.from to room
      (rw now (extended net low high load labels labelled step to room arc_in from_in to_in starts ends room_is start.0 start.1 fresh told.2))
      (λ _. rw now (fewer net low high load labels labelled step to room arc_in from_in to_in starts ends room_is start.0 start.1 fresh told.2))
      (λ e. absurd (both_ways true e refl))
      (λ e. absurd (both_ways true e refl))
  extend_by false test is =
      stepped net low high load labels false next step.from to room (rw is labelled) (λ e. absurd (both_ways false refl e)) (λ _. is)
      (λ _. shut_if (reached_in labels step.from) (reached_in labels to) room test)

-- a step that follows others
pub step_on : (net : Net) (low high load : ℕ → ℤ) (before labels next : List (Option Label)) (further r : Bool) (from to : ℕ) (room : ℤ)
    → Grown net low high load before further labels → Extended net low high load labels r next from to room → Extended net low high load before (further || r) next from to room
step_on net low high load before labels next further r from to room grown step = record {
  grown = record {
    labelled = step.grown.labelled;
    no_more = omega (arith, step.grown.no_more, grown.no_more);
    fewer = λ e. elim (or_cases further r e) [
      | inl f ↦ omega (arith, step.grown.no_more, grown.fewer f)
      | inr f ↦ omega (arith, step.grown.fewer f, grown.no_more)
    ];
    same = λ e. let none = or_parts further r e in step.grown.same none.1 ∙ grown.same none.0;
  };
  shut = λ e. let none = or_parts further r e in rw (← grown.same none.0) (step.shut none.1);
}

-- the pass has come to the arc a
pub record Passing (net : Net) (low high load : ℕ → ℤ) (before : List (Option Label)) (further : Bool) (labels : List (Option Label)) (a : ℕ) : Type 0 where
  pub grown : Grown net low high load before further labels
  pub closed : further ≡ false → (k : ℕ) → k < a → ClosedIn net low high load before k

pub pass_on : (net : Net) (low high load : ℕ → ℤ) (before labels first second : List (Option Label)) (further along against : Bool) (a : ℕ)
    → Passing net low high load before further labels a
    → Extended net low high load before (further || along) first (net.tail a) (net.head a) (high a -ℤ load a)
    → Extended net low high load before (further || along || against) second (net.head a) (net.tail a) (load a -ℤ low a)
    → Passing net low high load before (further || along || against) second (a + 1)
pass_on net low high load before labels first second further along against a passing over back = record {
  grown = back.grown;
  closed = λ e.
      let none = or_parts (further || along) against e in
      below_more _ _ (passing.closed (or_parts further along none.0).0) (record {
        along = λ reached under. over.shut none.0 reached (omega (arith, ints));
        against = λ reached under. back.shut e reached (omega (arith, ints));
      });
}
