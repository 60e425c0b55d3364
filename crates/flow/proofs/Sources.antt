-- A search starts from the nodes of positive surplus.
use Rattle.std.proofs.Common.{◌≡◌, ℕ, ◌<◌, ◌≤◌, Bool, true, false, cond, not, List, length, ℤ, pos, ◌<ℤ◌, int_lt, Some, None, Option, is_some, subst, refl, sym, ap, ◌∙◌, arith}
use Rattle.std.proofs.lemmas.Int.{ints}
use Rattle.std.proofs.lemmas.Bool.{both_ways}
use Rattle.network.specs.Network.{Net, surplus}
use Rattle.flow.specs.declared.reach.Label.{Label}
use Rattle.flow.specs.Labels.{label_of, reached_in, source, Justified, Labelled}
use Rattle.flow.proofs.Marks.{same_some}
use Rattle.network.proofs.Counts.{count_under}

-- what a source tells of the surplus that made it
source_is : (x : ℤ) (label : Label) (b : Bool) → int_lt (pos 0) x ≡ b → cond b (Some (record { order = 0; width = x; step = None })) None ≡ Some label
    → (pos 0 <ℤ x) × (record { order = 0; width = x; step = None } ≡ label)
source_is x label true test is = (omega (arith, ints), same_some _ label is)
source_is x label false test is = absurd (both_ways false refl (ap is_some is))

source_reached : (x : ℤ) → pos 0 <ℤ x → is_some (source x) ≡ true
source_reached x above = let test : int_lt (pos 0) x ≡ true = sym (omega (arith, ints)) in rw test refl

pub sources_labelled : (net : Net) (low high load : ℕ → ℤ) (labels : List (Option Label)) → net.nodes ≤ length labels
    → ((v : ℕ) → v < net.nodes → label_of labels v ≡ source (surplus net load v)) → Labelled net low high load labels
sources_labelled net low high load labels long is = record {
  long = long;
  sourced = λ v h above. ap is_some (is v h) ∙ source_reached (surplus net load v) above;
  justified = λ v h label at.
      let told = source_is (surplus net load v) label (int_lt (pos 0) (surplus net load v)) refl (sym (is v h) ∙ at) in
      subst (Justified net low high load labels v) told.1 (record {
        wide = told.0;
        owned = λ none. omega (arith, ints);
        stepped = λ step e. absurd (both_ways true (sym (ap is_some e)) refl);
        ordered = omega (arith, count_under net.nodes v (λ k. not (reached_in labels k)) h (ap (λ (o : Option Label). not (is_some o)) at));
      });
}
