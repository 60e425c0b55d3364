-- The surpluses, weighed by prices, are the supplies weighed by prices less the loads weighed by tensions.
use Rattle.std.proofs.Common.{◌≡◌, ℕ, ◌<◌, eqb, ℤ, ◌+ℤ◌, ◌-ℤ◌, ◌*ℤ◌, sym, ◌∙◌, arith}
use lib.IntN.{*ℤ_comm}
use Rattle.std.proofs.lemmas.Int.{ints}
use Rattle.network.specs.Sums.{sum, counted}
use Rattle.network.specs.Network.{inflow, outflow}
use Rattle.network.specs.Theorems.{Identity}
use Rattle.network.proofs.Products.{times_plus, times_minus, minus_times}
use Rattle.network.proofs.Counted.{times_counted}
use Rattle.network.proofs.Sums.{sum_same, sum_plus, sum_minus, sum_times, sum_swap, sum_at}

-- loads gathered at the nodes at one end of their arcs, weighed by prices: each load times the price at that end
gathered : (nodes arcs : ℕ) (end : ℕ → ℕ) (load price : ℕ → ℤ) → ((a : ℕ) → a < arcs → end a < nodes)
    → sum nodes (λ v. price v *ℤ sum arcs (λ a. counted (eqb (end a) v) (load a))) ≡ sum arcs (λ a. price (end a) *ℤ load a)
gathered nodes arcs end load price ends =
    sum_same nodes _ (λ v. sum arcs (λ a. part v a))
    (λ v h. sym (sum_times arcs (price v) (λ a. counted (eqb (end a) v) (load a))) ∙ sum_same arcs _ (λ a. part v a) (λ a g. times_counted (price v) (eqb (end a) v) (load a)))
    ∙ sum_swap nodes arcs part
    ∙ sum_same arcs _ _ (λ a h. sum_at nodes (end a) (λ v. price v *ℤ load a) (ends a h))
  where
    part : ℕ → ℕ → ℤ
    part v a = counted (eqb (end a) v) (price v *ℤ load a)

pub identity : Identity
identity net load price ends =
    sum_same net.nodes _ (λ v. supplied v +ℤ arrived v -ℤ departed v)
    (λ v h. cc (times_minus (price v) (net.supply v +ℤ inflow net load v) (outflow net load v), times_plus (price v) (net.supply v) (inflow net load v), *ℤ_comm (price v) (net.supply v)))
    ∙ omega (
      arith,
      ints,
      sum_minus net.nodes (λ v. supplied v +ℤ arrived v) departed,
      sum_plus net.nodes supplied arrived,
      gathered net.nodes net.arcs net.head load price ends.heads,
      gathered net.nodes net.arcs net.tail load price ends.tails,
      sum_same net.arcs _ _ (λ a h. minus_times (price (net.tail a)) (price (net.head a)) (load a)),
      sum_minus net.arcs (λ a. price (net.tail a) *ℤ load a) (λ a. price (net.head a) *ℤ load a),
    )
  where
    supplied : ℕ → ℤ
    supplied v = net.supply v *ℤ price v

    arrived : ℕ → ℤ
    arrived v = price v *ℤ inflow net load v

    departed : ℕ → ℤ
    departed v = price v *ℤ outflow net load v
