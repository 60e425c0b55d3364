-- An arc that a loop reads at a place of the graph.
use Rattle.std.proofs.Common.{◌≡◌, ℕ, ◌<◌, ◌≤◌, List, length, get_or, ℤ, pos, negsuc, ◌-ℤ◌, ap, arith}
use Rattle.std.proofs.lemmas.Int.{ints}
use Rattle.cost.specs.Meaning.{Between}
use Rattle.network.specs.Records.{numbers, no_arc}
use Rattle.network.specs.declared.graph.Graph.{Graph}
use Rattle.network.specs.declared.records.Arc.{Arc}
use Rattle.search.specs.Prices.{Modest}

module _ (graph : Graph) (prices : List ℤ) (priced : length graph.nodes.now ≤ length prices) (modest : Modest (length graph.nodes.now) prices)
    (a : ℕ) (h : a < length graph.arcs.now) (arc : Arc) (is : arc ≡ get_or graph.arcs.now a no_arc) where
  tail_at : arc.tail < length graph.nodes.now
  tail_at = omega (arith, ap (λ (x : Arc). x.tail) is, graph.tails a h)

  head_at : arc.head < length graph.nodes.now
  head_at = omega (arith, ap (λ (x : Arc). x.head) is, graph.heads a h)

  pub tail_in : arc.tail < length prices
  tail_in = omega (arith, tail_at)

  pub head_in : arc.head < length prices
  head_in = omega (arith, head_at)

  pub price_limits : Between (negsuc 999999999999999) (pos 1000000000000000) (numbers prices arc.tail) × Between (negsuc 999999999999999) (pos 1000000000000000) (numbers prices arc.head)
  price_limits = (omega (arith, ints, modest arc.tail tail_at), omega (arith, ints, modest arc.head head_at))

  pub tension_limits : Between (negsuc 999999999999999) (pos 1000000000000000) (numbers prices arc.tail -ℤ numbers prices arc.head)
  tension_limits = omega (arith, ints, modest arc.tail tail_at, modest arc.head head_at)
