-- What a draft holds after all supplies were fed and all arcs laid.
use Rattle.std.proofs.Common.{◌≡◌, ℕ, zero, suc, ◌+◌, ◌-◌, ◌≤◌, Bool, true, false, cond, ◌&&◌, eqb, ltb, List, [], ◌∷◌, ◌++◌, length, get_or, take, ℤ, pos, negsuc, ◌≤ℤ◌, Some, None, Ok, Option, sym, refl, ap, ◌∙◌, subst, append_assoc, append-nil, arith}
use lib.Signed.{le_z}
use Rattle.std.proofs.lemmas.List.{length-set, map-append, take_all}
use Rattle.std.proofs.lemmas.Int.{ints}
use Rattle.std.proofs.lemmas.Bool.{eqb-false}
use Rattle.cost.specs.Meaning.{natural}
use Rattle.cost.specs.Places.{or_else}
use Rattle.cost.proofs.Refusing.{both, neither, not_met}
use Rattle.network.specs.Records.{no_node}
use Rattle.network.specs.declared.records.Arc.{Arc}
use Rattle.network.specs.declared.records.Node.{Node}
use Rattle.ledger.specs.Calls.{with_supply}
use Rattle.sheet.specs.Drafts.{Sketch, feed_refusal, lay_refusal, no_such_node, with_arc, with_fed}
use Rattle.ledger.specs.declared.faults.DraftFault.{DraftFault}
use Rattle.ledger.specs.declared.faults.DraftFault.TheVariants.{Full, Unknown, Loop}
use Rattle.record.specs.Faults.{spot}
use Rattle.record.specs.Readings.{fed, laid}
use Rattle.record.specs.Theorems.{LoopFree}
use Rattle.record.specs.Texts.{supplies_of, tails_of, heads_of}
use Rattle.record.proofs.Inverting.{not_refused}
use Rattle.record.proofs.Rowing.{taken_more}

-- ---- supplies

pub record Fed (k : Sketch) (xs : List ℤ) (after : Sketch) : Type 0 where
  pub supplies : supplies_of after.nodes ≡ supplies_of (take k.fed k.nodes) ++ xs
  pub nodes : length after.nodes ≡ length k.nodes
  pub arcs : after.arcs ≡ k.arcs

pub all_fed : (xs : List ℤ) (k : Sketch) (field : ℕ) (after : Sketch) → fed k field xs ≡ Ok after → k.fed + length xs ≡ length k.nodes → Fed k xs after
all_fed [] k field after e all =
    let same : k ≡ after = cc in
    record {
      supplies = sym (ap (λ (s : Sketch). supplies_of s.nodes) same) ∙ sym (append-nil (supplies_of (take k.fed k.nodes)) ∙ ap supplies_of (take_all k.fed k.nodes (omega arith)));
      nodes = sym (ap (λ (s : Sketch). length s.nodes) same);
      arcs = sym (ap (λ (s : Sketch). s.arcs) same);
    }
all_fed (x ∷ xs) k field after e all =
    let made = not_refused (feed_refusal k x) (spot 2 field) (fed (with_fed k x) (field + 1) xs) after e in
    let here = with_supply x (get_or k.nodes k.fed no_node) in
    let long = length-set k.nodes k.fed here in
    let rest = all_fed xs (with_fed k x) (field + 1) after made.1 (omega arith) in
    record {
      supplies =
          rest.supplies ∙ ap (λ (ys : List ℤ). ys ++ xs) (taken_more (λ (n : Node). n.supply) k.nodes k.fed here (omega arith))
          ∙ append_assoc (supplies_of (take k.fed k.nodes)) (x ∷ []) xs;
      nodes = rest.nodes ∙ long;
      arcs = rest.arcs;
    }

-- ---- arcs

-- a node's number that is known is one from 1 to the count
abbrev Known : ℕ → ℤ → Type 0
Known count x = (pos (natural x - 1 + 1) ≡ x) × (1 ≤ natural x) × (natural x ≤ count)

known_node : (count position : ℕ) (x : ℤ) → no_such_node count position x ≡ None → Known count x
known_node count position x e =
    let parts = both (le_z (pos 1) x) (le_z x (pos count)) (found (le_z (pos 1) x && le_z x (pos count)) (natural x - 1) e) in
    shape x (omega (arith, ints, parts.0)) (omega (arith, ints, parts.1))
  where
    found : (b : Bool) (v : ℕ) → ◌≡◌ {A = Option DraftFault} (elim (cond {A = Option ℕ} b (Some v) None) [ None ↦ Some (Unknown position) | Some w ↦ None ]) None → b ≡ true
    found true v none = refl
    found false v none = absurd (let z : ◌≡◌ {A = ℕ} 0 1 = cc in omega arith)

    shape : (y : ℤ) → pos 1 ≤ℤ y → y ≤ℤ pos count → Known count y
    shape (pos n) low high = (ap pos (omega (arith, ints)), omega (arith, ints), omega (arith, ints))
    shape (negsuc n) low high = absurd (omega (arith, ints))

-- the ends of an arc that is not refused
two_ends : (k : Sketch) (t h : ℤ) → lay_refusal k t h ≡ None → Known (length k.nodes) t × Known (length k.nodes) h × (natural t ≡ natural h → ⊥)
two_ends k t h none =
    let loop = cond (eqb (natural t) (natural h)) (Some (Loop (length k.arcs + 1))) None in
    let tail = no_such_node (length k.nodes) 1 t in
    let head = no_such_node (length k.nodes) 2 h in
    let first = neither (cond (ltb (length k.arcs) 256) None (Some (Full 256))) (or_else tail (or_else head loop)) none in
    let second = neither tail (or_else head loop) first.1 in
    let third = neither head loop second.1 in (
      known_node (length k.nodes) 1 t second.0,
      known_node (length k.nodes) 2 h third.0,
      eqb-false (natural t) (natural h) (not_met (Loop (length k.arcs + 1)) (eqb (natural t) (natural h)) third.1),
    )

-- one arc more that has two ends
loop_free_more : (arcs : List Arc) (arc : Arc) → LoopFree arcs → (arc.tail ≡ arc.head → ⊥) → LoopFree (arcs ++ (arc ∷ []))
loop_free_more [] arc free apart zero h same = apart same
loop_free_more [] arc free apart (suc a) h same = omega arith
loop_free_more (x ∷ arcs) arc free apart zero h same = free zero (omega arith) same
loop_free_more (x ∷ arcs) arc free apart (suc a) h same = loop_free_more arcs arc (λ b less. free (suc b) (omega arith)) apart a (omega arith) same

pub record Laid (k : Sketch) (ts hs : List ℤ) (after : Sketch) : Type 0 where
  pub tails : tails_of after.arcs ≡ tails_of k.arcs ++ ts
  pub heads : heads_of after.arcs ≡ heads_of k.arcs ++ hs
  pub nodes : after.nodes ≡ k.nodes
  pub apart : LoopFree k.arcs → LoopFree after.arcs

pub all_laid : (ts hs : List ℤ) (k : Sketch) (field : ℕ) (after : Sketch) → laid k field ts hs ≡ Ok after → length ts ≡ length hs → Laid k ts hs after
all_laid [] [] k field after e each =
    let same : k ≡ after = cc in
    record {
      tails = sym (ap (λ (s : Sketch). tails_of s.arcs) same) ∙ sym (append-nil (tails_of k.arcs));
      heads = sym (ap (λ (s : Sketch). heads_of s.arcs) same) ∙ sym (append-nil (heads_of k.arcs));
      nodes = sym (ap (λ (s : Sketch). s.nodes) same);
      apart = λ free. subst (λ (s : Sketch). LoopFree s.arcs) same free;
    }
all_laid [] (h ∷ hs) k field after e each = absurd (omega arith)
all_laid (t ∷ ts) [] k field after e each = absurd (omega arith)
all_laid (t ∷ ts) (h ∷ hs) k field after e each =
    let made = not_refused (lay_refusal k t h) (spot 4 field) (laid (with_arc k t h) (field + 1) ts hs) after e in
    let rest = all_laid ts hs (with_arc k t h) (field + 1) after made.1 (omega arith) in
    let ends = two_ends k t h made.0 in
    let from = ends.0 in
    let to = ends.1 in
    let tail = from.0 in
    let head = to.0 in
    let arc : Arc = record { tail = natural t - 1; head = natural h - 1; load = pos 0 } in
    record {
      tails =
          rest.tails ∙ ap (λ (ys : List ℤ). ys ++ ts) (map-append (λ (a : Arc). pos (a.tail + 1)) k.arcs (arc ∷ []))
          ∙ append_assoc (tails_of k.arcs) (pos (natural t - 1 + 1) ∷ []) ts ∙ ap (λ (x : ℤ). tails_of k.arcs ++ (x ∷ ts)) tail;
      heads =
          rest.heads ∙ ap (λ (ys : List ℤ). ys ++ hs) (map-append (λ (a : Arc). pos (a.head + 1)) k.arcs (arc ∷ []))
          ∙ append_assoc (heads_of k.arcs) (pos (natural h - 1 + 1) ∷ []) hs ∙ ap (λ (x : ℤ). heads_of k.arcs ++ (x ∷ hs)) head;
      nodes = rest.nodes;
      apart = λ free. rest.apart (loop_free_more k.arcs arc free (λ same. ends.2 (omega (arith, from.1, to.1, same))));
    }
