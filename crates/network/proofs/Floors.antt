-- A floor is gathered node by node and then arc by arc.
use Rattle.std.proofs.Common.{◌≡◌, ℕ, ◌+◌, ◌*◌, ◌<◌, ◌≤◌, List, length, ℤ, pos, ◌+ℤ◌, neg_ℤ, arith}
use Rattle.std.proofs.lemmas.Int.{ints}
use Rattle.cost.specs.Meaning.{Meaning, Between, Lawful}
use Rattle.network.specs.Sums.{sum}
use Rattle.network.specs.Network.{Net, tension, reduced, least, worth, least_on}
use Rattle.network.specs.Records.{numbers, net_of, cost_of, Sound, Within}
use Rattle.network.specs.declared.records.Node.{Node}
use Rattle.network.specs.declared.records.Arc.{Arc}
use Rattle.network.proofs.Products.{times_limit}
use Rattle.network.proofs.Sums.{sum_more, sum_within}
use Rattle.network.proofs.Least.{least_of_over, least_under}
use Rattle.network.proofs.Walk.{Tension, reduced_limit}
use Rattle.network.proofs.Gathers.{Gathers, Moderate, gathers}

-- what the first n supplies are worth
abbrev pub floor_by_nodes : Net → (ℕ → ℤ) → ℕ → ℤ
floor_by_nodes net price n = sum n (worth net price)

-- what all supplies are worth, with the least reduced amounts of the first n arcs
abbrev pub floor_by_arcs : Net → (ℕ → ℤ) → ℕ → ℤ
floor_by_arcs net price n = floor_by_nodes net price net.nodes +ℤ sum n (least_on net price)

least_limit : (m : Meaning) (t : ℤ) → Lawful m → Tension t → Between (neg_ℤ (pos 2011000000000)) (pos 2011000000000) (least m t)
least_limit m t lawful tense = (
  least_of_over (length m.increments) (neg_ℤ (pos 2011000000000)) (λ k. reduced m t (pos (m.first + k))) (λ k h. (reduced_limit m t (pos (m.first + k)) lawful tense (omega (arith, ints))).0),
  omega (arith, ints, least_under m t (pos m.first) (omega (arith, ints)), reduced_limit m t (pos m.first) lawful tense (omega (arith, ints))),
)

module _ (nodes : List Node) (arcs : List Arc) (costs : List Meaning) (prices : List ℤ) (sound : Sound nodes arcs) (priced : length prices ≡ length nodes) (limits : Within 100000000 prices) where
  abbrev net : Net
  net = net_of nodes arcs costs

  worths_limit : (n : ℕ) → n ≤ length nodes → Between (neg_ℤ (pos (n * 10000000000000))) (pos (n * 10000000000000)) (floor_by_nodes net (numbers prices) n)
  worths_limit n h =
      sum_within n 10000000000000 (worth net (numbers prices)) (λ v l. times_limit (net.supply v) (numbers prices v) 100000 100000000 (sound.supply_limit v (omega arith)) (limits v (omega arith)))

  pub nodes_gather : (v : ℕ) → v < length nodes → Gathers (floor_by_nodes net (numbers prices)) v (worth net (numbers prices) v)
  nodes_gather v h =
      gathers (floor_by_nodes net (numbers prices)) v (worth net (numbers prices) v) (sum_more v (worth net (numbers prices)))
      (omega (arith, ints, worths_limit v (omega arith), sound.node_limit)) (omega (arith, ints, worths_limit (v + 1) (omega arith), sound.node_limit))

  tense : (a : ℕ) → a < length arcs → Tension (tension net (numbers prices) a)
  tense a h = omega (arith, ints, limits (net.tail a) (omega (arith, sound.tails a h)), limits (net.head a) (omega (arith, sound.heads a h)))

  module _ (lawful : (a : ℕ) → a < length arcs → Lawful (cost_of costs a)) where
    moderate : (n : ℕ) → n ≤ length arcs → Moderate (floor_by_arcs net (numbers prices) n)
    moderate n h =
        let worths = worths_limit (length nodes) (omega arith) in
        let leasts = sum_within n 2011000000000 (least_on net (numbers prices)) (λ a l. least_limit (net.cost a) (tension net (numbers prices) a) (lawful a (omega arith)) (tense a (omega arith))) in
        omega (arith, ints, sound.node_limit, sound.arc_limit)

    pub arcs_gather : (a : ℕ) → a < length arcs → Gathers (floor_by_arcs net (numbers prices)) a (least_on net (numbers prices) a)
    arcs_gather a h =
        gathers (floor_by_arcs net (numbers prices)) a (least_on net (numbers prices) a) (omega (arith, ints, sum_more a (least_on net (numbers prices))))
        (moderate a (omega arith)) (moderate (a + 1) (omega arith))
