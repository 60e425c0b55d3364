-- The first four lines are read only where the text of the draft stands.
use Rattle.std.proofs.Common.{◌≡◌, ℕ, ◌+◌, Bool, true, false, cond, leb, List, [], ◌∷◌, ◌++◌, length, take, ℤ, pos, negsuc, ◌≤ℤ◌, Ok, Err, codes, sym, refl, ap, ◌∙◌, arith}
use Rattle.std.specs.Option.{option_map}
use Rattle.std.proofs.lemmas.List.{length-map}
use Rattle.std.proofs.lemmas.Int.{ints}
use Rattle.cost.specs.Limits.{outside}
use Rattle.cost.specs.Meaning.{natural}
use Rattle.network.specs.declared.records.Arc.{Arc}
use Rattle.sheet.specs.Drafts.{Sketch, begun}
use Rattle.ledger.specs.Limits.{size_limits}
use Rattle.ledger.specs.declared.faults.DraftFault.TheVariants.{Number}
use Rattle.text.specs.Theorems.{Stands}
use Rattle.text.proofs.Standing.{stands_then}
use Rattle.record_form.specs.Lines.{line, net_line, net_start, first_line_at, list_at}
use Rattle.record_form.specs.declared.lines.Counts.{Counts}
use Rattle.record_form.proofs.Wording.{first_line_is_written, list_is_written}
use Rattle.record.specs.Faults.{spot}
use Rattle.record.specs.Readings.{Stage, formed, go_on, up_to, unless_refused, fed, laid, begun_by, net_stage, supply_stage, arc_stage, network_stage}
use Rattle.record.specs.Theorems.{LoopFree}
use Rattle.record.specs.Texts.{supplies_of, tails_of, heads_of, network_text}
use Rattle.record.specs.declared.faults.RecordFault.TheVariants.{Space}
use Rattle.record.proofs.Handed.{all_fed, all_laid}
use Rattle.record.proofs.Inverting.{both_stages, formed_made, not_refused, up_to_made}
use Rattle.record.proofs.Stages.{begun_long}
use Rattle.record.proofs.Wholes.{same_network}

-- a draft is begun for the counts of the first line, if there are places enough
begun_for : (places : ℕ) (counts : Counts) (k : Sketch) (m : ℕ) → begun_by places counts ≡ Ok (k, m) → (k ≡ begun (natural counts.nodes)) × (m ≡ natural counts.arcs) × (leb (natural counts.arcs) places ≡ true)
begun_for places counts k m e = go (leb (natural counts.arcs) places) refl e
  where
    go : (b : Bool) → leb (natural counts.arcs) places ≡ b
        → cond b (unless_refused {T = Sketch × ℕ} (option_map Number (outside size_limits 1 counts.nodes)) (spot 1 3) (Ok (begun (natural counts.nodes), natural counts.arcs))) (Err (Space (natural counts.arcs))) ≡ Ok (k, m)
        → (k ≡ begun (natural counts.nodes)) × (m ≡ natural counts.arcs) × (leb (natural counts.arcs) places ≡ true)
    go true here made =
        let rest = (not_refused (option_map Number (outside size_limits 1 counts.nodes)) (spot 1 3) (Ok (begun (natural counts.nodes), natural counts.arcs)) (k, m) made).1 in
        let same : (begun (natural counts.nodes), natural counts.arcs) ≡ (k, m) = cc in
        (sym (ap (λ (p : Sketch × ℕ). p.0) same), sym (ap (λ (p : Sketch × ℕ). p.1) same), here)
    go false here made = absurd (let z : ◌≡◌ {A = ℕ} 0 1 = cc in omega arith)

whole : (x : ℤ) (n : ℕ) → pos 0 ≤ℤ x → natural x ≡ n → x ≡ pos n
whole (pos m) n low is = ap pos is
whole (negsuc m) n low is = absurd (omega (arith, ints))

module _ (text : List ℕ) where
  -- the first line
  pub record Started (letter places : ℕ) (k : Sketch) (m next : ℕ) : Type 0 where
    pub nodes : ℤ
    pub arcs : ℤ
    pub stands : Stands text 0 (net_line letter nodes arcs) next
    pub node_count : nodes ≡ pos (length k.nodes)
    pub arc_count : arcs ≡ pos m
    pub none_fed : k.fed ≡ 0
    pub no_arcs : k.arcs ≡ []
    pub enough : leb m places ≡ true

  started : (letter places : ℕ) (k : Sketch) (m next : ℕ) → net_stage text letter places ≡ Ok ((k, m), next) → Started letter places k m next
  unfolding net_stage
  started letter places k m next e =
      let one = both_stages (formed (first_line_at text 0 letter)) (λ (counts : Counts) (n : ℕ). up_to n (begun_by places counts)) ((k, m), next) e in
      let counts = one.0.0 in
      let n = one.0.1 in
      let two = up_to_made n (begun_by places counts) ((k, m), next) one.2 in
      let begins = begun_for places counts k m two.0 in
      let read = first_line_is_written text 0 letter counts n (formed_made (first_line_at text 0 letter) (counts, n) one.1) in
      record {
        nodes = counts.nodes;
        arcs = counts.arcs;
        stands = to counts two.1 read.0;
        node_count = whole counts.nodes (length k.nodes) read.1.0 (sym (begun_long begins.0));
        arc_count = whole counts.arcs m read.2.0 (sym begins.1);
        none_fed = ap (λ (s : Sketch). s.fed) begins.0;
        no_arcs = ap (λ (s : Sketch). s.arcs) begins.0;
        enough = ap (λ (j : ℕ). leb j places) begins.1 ∙ begins.2;
      }
    where
      to : (counts : Counts) {a b : ℕ} → a ≡ b → Stands text 0 (net_line letter counts.nodes counts.arcs) a → Stands text 0 (net_line letter counts.nodes counts.arcs) b
      to counts is known = rw (sym is) known

  -- the second line
  pub record Supplied (at : ℕ) (k after : Sketch) (next : ℕ) : Type 0 where
    pub stands : Stands text at (line (codes "sup") (supplies_of after.nodes)) next
    pub node_count : length after.nodes ≡ length k.nodes
    pub same_arcs : after.arcs ≡ k.arcs

  supplied : (at : ℕ) (k after : Sketch) (next : ℕ) → k.fed ≡ 0 → supply_stage text at k ≡ Ok (after, next) → Supplied at k after next
  unfolding supply_stage
  supplied at k after next none e =
      let one = both_stages (formed (list_at text at (codes "sup") (length k.nodes))) (λ (xs : List ℤ) (n : ℕ). up_to n (fed k 2 xs)) (after, next) e in
      let xs = one.0.0 in
      let n = one.0.1 in
      let two = up_to_made n (fed k 2 xs) (after, next) one.2 in
      let read = list_is_written text at (codes "sup") (length k.nodes) xs n (formed_made (list_at text at (codes "sup") (length k.nodes)) (xs, n) one.1) in
      let handed = all_fed xs k 2 after two.0 (omega (arith, none, read.1)) in
      record {
        stands = to (handed.supplies ∙ first_fed xs none) two.1 read.0;
        node_count = handed.nodes;
        same_arcs = handed.arcs;
      }
    where
      first_fed : (xs : List ℤ) → k.fed ≡ 0 → supplies_of (take k.fed k.nodes) ++ xs ≡ xs
      first_fed xs is = ap (λ (j : ℕ). supplies_of (take j k.nodes) ++ xs) is

      to : {xs ys : List ℤ} {a b : ℕ} → ys ≡ xs → a ≡ b → Stands text at (line (codes "sup") xs) a → Stands text at (line (codes "sup") ys) b
      to same is known = rw (same, sym is) known

  -- the third and the fourth line
  pub record Drawn (at : ℕ) (k : Sketch) (m : ℕ) (after : Sketch) (next : ℕ) : Type 0 where
    pub stands : Stands text at (line (codes "from") (tails_of after.arcs) ++ line (codes "to") (heads_of after.arcs)) next
    pub same_nodes : after.nodes ≡ k.nodes
    pub arc_count : length after.arcs ≡ m
    pub apart : LoopFree after.arcs

  drawn : (at : ℕ) (k : Sketch) (m : ℕ) (after : Sketch) (next : ℕ) → k.arcs ≡ [] → arc_stage text at k m ≡ Ok (after, next) → Drawn at k m after next
  unfolding arc_stage
  drawn at k m after next none e =
      let one = both_stages (formed (list_at text at (codes "from") m))
      (λ (ts : List ℤ) (a : ℕ). go_on (formed (list_at text a (codes "to") m)) (λ (hs : List ℤ) (n : ℕ). up_to n (laid k 2 ts hs))) (after, next) e in
      let ts = one.0.0 in
      let a = one.0.1 in
      let two = both_stages (formed (list_at text a (codes "to") m)) (λ (hs : List ℤ) (n : ℕ). up_to n (laid k 2 ts hs)) (after, next) one.2 in
      let hs = two.0.0 in
      let n = two.0.1 in
      let three = up_to_made n (laid k 2 ts hs) (after, next) two.2 in
      let tails = list_is_written text at (codes "from") m ts a (formed_made (list_at text at (codes "from") m) (ts, a) one.1) in
      let heads = list_is_written text a (codes "to") m hs n (formed_made (list_at text a (codes "to") m) (hs, n) two.1) in
      let handed = all_laid ts hs k 2 after three.0 (omega (arith, tails.1, heads.1)) in
      let is_tails : tails_of after.arcs ≡ ts = handed.tails ∙ ap (λ (arcs : List Arc). tails_of arcs ++ ts) none in
      let is_heads : heads_of after.arcs ≡ hs = handed.heads ∙ ap (λ (arcs : List Arc). heads_of arcs ++ hs) none in
      record {
        stands = to is_tails is_heads three.1 (stands_then text at (line (codes "from") ts) a (line (codes "to") hs) n tails.0 heads.0);
        same_nodes = handed.nodes;
        arc_count = sym (length-map after.arcs (λ (x : Arc). pos (x.tail + 1))) ∙ ap length is_tails ∙ tails.1;
        apart = handed.apart (no_loops none);
      }
    where
      no_loops : {arcs : List Arc} → arcs ≡ [] → LoopFree arcs
      no_loops is a h same = omega (arith, ap length is)

      to : {ts hs ts' hs' : List ℤ} {a b : ℕ} → ts' ≡ ts → hs' ≡ hs → a ≡ b → Stands text at (line (codes "from") ts ++ line (codes "to") hs) a → Stands text at (line (codes "from") ts' ++ line (codes "to") hs') b
      to one two is known = rw (one, two, sym is) known

  -- all four
  pub record Sketched (letter places : ℕ) (k : Sketch) (m next : ℕ) : Type 0 where
    pub stands : Stands text 0 (network_text (net_start letter) (pos (length k.nodes) ∷ pos (length k.arcs) ∷ []) (supplies_of k.nodes) (tails_of k.arcs) (heads_of k.arcs)) next
    pub arc_count : length k.arcs ≡ m
    pub apart : LoopFree k.arcs
    pub enough : leb m places ≡ true

  pub sketched : (letter places : ℕ) (k : Sketch) (m next : ℕ) → network_stage text letter places ≡ Ok ((k, m), next) → Sketched letter places k m next
  unfolding network_stage
  sketched letter places k m next e =
      let one = both_stages (net_stage text letter places)
      (λ (start : Sketch × ℕ) (a : ℕ). go_on (supply_stage text a start.0) (λ (all : Sketch) (b : ℕ). go_on (arc_stage text b all start.1) (λ (w : Sketch) (c : ℕ). Ok ((w, start.1), c))))
      ((k, m), next) e in
      let k₀ = one.0.0.0 in
      let m₀ = one.0.0.1 in
      let a = one.0.1 in
      let two = both_stages (supply_stage text a k₀) (λ (all : Sketch) (b : ℕ). go_on (arc_stage text b all m₀) (λ (w : Sketch) (c : ℕ). Ok ((w, m₀), c))) ((k, m), next) one.2 in
      let k₁ = two.0.0 in
      let b = two.0.1 in
      let three = both_stages (arc_stage text b k₁ m₀) (λ (w : Sketch) (c : ℕ). Ok ((w, m₀), c)) ((k, m), next) two.2 in
      let k₂ = three.0.0 in
      let c = three.0.1 in
      let first = started letter places k₀ m₀ a one.1 in
      let second = supplied a k₀ k₁ b first.none_fed two.1 in
      let third = drawn b k₁ m₀ k₂ c (second.same_arcs ∙ first.no_arcs) three.1 in
      join k₀ k₁ k₂ m₀ a b c first second third three.2
    where
      join : (k₀ k₁ k₂ : Sketch) (m₀ a b c : ℕ) → Started letter places k₀ m₀ a → Supplied a k₀ k₁ b → Drawn b k₁ m₀ k₂ c → ◌≡◌ {A = Stage (Sketch × ℕ)} (Ok ((k₂, m₀), c)) (Ok ((k, m), next)) → Sketched letter places k m next
      join k₀ k₁ k₂ m₀ a b c first second third is =
          let lists = line (codes "from") (tails_of k₂.arcs) ++ line (codes "to") (heads_of k₂.arcs) in
          let supplies = line (codes "sup") (supplies_of k₁.nodes) in
          let all = stands_then text 0 (net_line letter first.nodes first.arcs) a (supplies ++ lists) c first.stands (stands_then text a supplies b lists c second.stands third.stands) in
          let nodes : first.nodes ≡ pos (length k₂.nodes) = first.node_count ∙ ap pos (sym second.node_count ∙ sym (ap length third.same_nodes)) in
          let arcs : first.arcs ≡ pos (length k₂.arcs) = first.arc_count ∙ ap pos (sym third.arc_count) in
          let counts = ap (λ (n : ℤ). n ∷ first.arcs ∷ []) nodes ∙ ap (λ (n : ℤ). pos (length k₂.nodes) ∷ n ∷ []) arcs in
          let same = same_network {s = net_start letter} refl counts (ap supplies_of (sym third.same_nodes)) refl refl in
          moved k₂ m₀ c (placed same all) third.arc_count third.apart first.enough is
        where
          placed : {bytes other : List ℕ} {end : ℕ} → bytes ≡ other → Stands text 0 bytes end → Stands text 0 other end
          placed bytes_are known = rw (sym bytes_are) known

          moved : (k₂ : Sketch) (m₀ c : ℕ)
              → Stands text 0 (network_text (net_start letter) (pos (length k₂.nodes) ∷ pos (length k₂.arcs) ∷ []) (supplies_of k₂.nodes) (tails_of k₂.arcs) (heads_of k₂.arcs)) c
              → length k₂.arcs ≡ m₀ → LoopFree k₂.arcs → leb m₀ places ≡ true → ◌≡◌ {A = Stage (Sketch × ℕ)} (Ok ((k₂, m₀), c)) (Ok ((k, m), next)) → Sketched letter places k m next
          moved k₂ m₀ c stands each apart room is =
              let same : ((k₂, m₀), c) ≡ ((k, m), next) = cc in
              let k_is : k ≡ k₂ = sym (ap (λ (p : (Sketch × ℕ) × ℕ). p.0.0) same) in
              let m_is : m ≡ m₀ = sym (ap (λ (p : (Sketch × ℕ) × ℕ). p.0.1) same) in
              let c_is : next ≡ c = sym (ap (λ (p : (Sketch × ℕ) × ℕ). p.1) same) in
              rw (k_is, m_is, c_is) (record { stands = stands; arc_count = each; apart = apart; enough = room })
