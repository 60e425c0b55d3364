-- The surpluses of all nodes are gathered arc by arc.
use Rattle.std.proofs.Common.{◌≡◌, ℕ, ◌+◌, ◌<◌, ◌≤◌, Bool, true, false, eqb, List, [], length, set, ℤ, pos, ◌+ℤ◌, ◌-ℤ◌, neg_ℤ, sym, refl, ap, ◌∙◌, inl, inr, arith}
use Rattle.std.proofs.lemmas.Int.{ints}
use Rattle.std.proofs.lemmas.List.{get_or-set_same, get_or-set_other}
use Rattle.std.proofs.lemmas.Bool.{cases_eq, eq-eqb, ne_eqb, cond-true, cond-false}
use Rattle.cost.specs.Meaning.{Between}
use Rattle.network.specs.Sums.{counted}
use Rattle.network.specs.Network.{Net}
use Rattle.network.specs.Graphs.{net_in}
use Rattle.network.specs.Records.{numbers}
use Rattle.network.specs.declared.graph.Graph.{Graph}
use Rattle.network.proofs.Graphs.{graph_sound}
use Rattle.network.proofs.Sums.{sum_more, sum_within}
use Rattle.network.proofs.Gains.{gain_of, surplus_by}

-- one number of a list changes by an amount
pub set_by : (xs : List ℤ) (p v : ℕ) (y x : ℤ) → p < length xs → y ≡ numbers xs p +ℤ x → numbers (set xs p y) v ≡ numbers xs v +ℤ counted (eqb p v) x
set_by xs p v y x within is =
    elim (cases_eq v p) [
      | inl at ↦ rw at (get_or-set_same xs p y (pos 0) within ∙ is ∙ ap (λ z. numbers xs p +ℤ z) (sym (cond-true (eqb p p) x (pos 0) (eq-eqb p p refl))))
      | inr away ↦ omega (arith, ints, get_or-set_other xs p v y (pos 0) away, cond-false (eqb p v) x (pos 0) (ne_eqb p v (λ e. away (sym e))))
    ]

pub counted_neg : (b : Bool) (x : ℤ) → counted b (neg_ℤ x) ≡ neg_ℤ (counted b x)
counted_neg true x = refl
counted_neg false x = refl

pub counted_limit : (b : Bool) (x : ℤ) (c : ℕ) → Between (pos 0) (pos c) x → Between (pos 0) (pos c) (counted b x)
counted_limit true x c h = h
counted_limit false x c h = omega (arith, ints)

module _ (graph : Graph) (loads : List ℤ) (limits : (a : ℕ) → a < length graph.arcs.now → Between (pos 0) (pos 10000) (numbers loads a)) where
  abbrev net : Net
  net = net_in graph []

  pub moderate : (v n : ℕ) → v < length graph.nodes.now → n ≤ length graph.arcs.now → Between (neg_ℤ (pos 2660000)) (pos 2660000) (surplus_by net (numbers loads) v n)
  moderate v n place h =
      let gains = sum_within n 10000 (gain_of net (numbers loads) v) (λ a l.
      omega (arith, ints, counted_limit (eqb (net.head a) v) (numbers loads a) 10000 (limits a (omega arith)), counted_limit (eqb (net.tail a) v) (numbers loads a) 10000 (limits a (omega arith)))) in
      omega (arith, ints, (graph_sound graph).arc_limit, (graph_sound graph).supply_limit v place)

  module _ (xs : List ℤ) (a : ℕ) (within : a < length graph.arcs.now) (so_far : (v : ℕ) → v < length graph.nodes.now → numbers xs v ≡ surplus_by net (numbers loads) v a) where
    -- the numbers at the ends of the arc are far from the limits
    pub limits_here : Between (neg_ℤ (pos 2660000)) (pos 2660000) (numbers xs (net.tail a)) × Between (neg_ℤ (pos 2660000)) (pos 2660000) (numbers xs (net.head a))
    limits_here =
        let head_in = (graph_sound graph).heads a within in
        let tail_in = (graph_sound graph).tails a within in
        (rw (so_far (net.tail a) tail_in) (moderate (net.tail a) a tail_in (omega arith)), rw (so_far (net.head a) head_in) (moderate (net.head a) a head_in (omega arith)))

    pub gathered : (ys : List ℤ) → ((v : ℕ) → numbers ys v ≡ numbers xs v +ℤ counted (eqb (net.head a) v) (numbers loads a) -ℤ counted (eqb (net.tail a) v) (numbers loads a))
        → (v : ℕ) → v < length graph.nodes.now → numbers ys v ≡ surplus_by net (numbers loads) v (a + 1)
    gathered ys is v h = omega (arith, ints, is v, so_far v h, sum_more a (gain_of net (numbers loads) v))
