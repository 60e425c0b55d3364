-- A surplus is gathered arc by arc.
use Rattle.std.proofs.Common.{◌≡◌, ℕ, ◌+◌, ◌<◌, ◌≤◌, Bool, true, false, eqb, List, [], length, ℤ, pos, ◌+ℤ◌, ◌-ℤ◌, neg_ℤ, arith}
use Rattle.std.proofs.lemmas.Int.{ints}
use Rattle.cost.specs.Meaning.{Between}
use Rattle.network.specs.Sums.{sum, counted}
use Rattle.network.specs.Network.{Net, surplus}
use Rattle.network.specs.Records.{numbers, net_of, Sound, Within}
use Rattle.network.specs.declared.records.Node.{Node}
use Rattle.network.specs.declared.records.Arc.{Arc}
use Rattle.network.proofs.Sums.{sum_more, sum_minus, sum_within}
use Rattle.network.proofs.Gathers.{Gathers, Moderate, gathers}

-- what an arc brings to the surplus of a node: a load enters the head of its arc and leaves the tail
abbrev pub gain_of : Net → (ℕ → ℤ) → ℕ → ℕ → ℤ
gain_of net load v a = counted (eqb (net.head a) v) (load a) -ℤ counted (eqb (net.tail a) v) (load a)

-- the surplus that the first n arcs make
abbrev pub surplus_by : Net → (ℕ → ℤ) → ℕ → ℕ → ℤ
surplus_by net load v n = net.supply v +ℤ sum n (gain_of net load v)

pub surplus_by_all : (net : Net) (load : ℕ → ℤ) (v : ℕ) → surplus net load v ≡ surplus_by net load v net.arcs
surplus_by_all net load v =
    omega (arith, ints, sum_minus net.arcs (λ a. counted (eqb (net.head a) v) (load a)) (λ a. counted (eqb (net.tail a) v) (load a)))

gain_limit : (head tail : Bool) (x : ℤ) (c : ℕ) → Between (neg_ℤ (pos c)) (pos c) x → Between (neg_ℤ (pos c)) (pos c) (counted head x -ℤ counted tail x)
gain_limit true true x c h = omega (arith, ints)
gain_limit true false x c h = omega (arith, ints)
gain_limit false true x c h = omega (arith, ints)
gain_limit false false x c h = omega (arith, ints)

module _ (nodes : List Node) (arcs : List Arc) (loads : List ℤ) (sound : Sound nodes arcs) (loaded : length loads ≡ length arcs) (limits : Within 10000 loads) (v : ℕ) (place : v < length nodes) where
  abbrev net : Net
  net = net_of nodes arcs []

  moderate : (n : ℕ) → n ≤ length arcs → Moderate (surplus_by net (numbers loads) v n)
  moderate n h =
      let gains = sum_within n 10000 (gain_of net (numbers loads) v) (λ a l. gain_limit (eqb (net.head a) v) (eqb (net.tail a) v) (numbers loads a) 10000 (limits a (omega arith))) in
      omega (arith, ints, sound.arc_limit, sound.supply_limit v place)

  pub surplus_gathers : (a : ℕ) → a < length arcs → Gathers (surplus_by net (numbers loads) v) a (gain_of net (numbers loads) v a)
  surplus_gathers a h =
      gathers (surplus_by net (numbers loads) v) a (gain_of net (numbers loads) v a) (omega (arith, ints, sum_more a (gain_of net (numbers loads) v))) (moderate a (omega arith)) (moderate (a + 1) (omega arith))
