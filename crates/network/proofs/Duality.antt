-- No floor passes a charge, slack loads make them equal, and equal means cheapest and highest.
use Rattle.std.proofs.Common.{◌≡◌, ℕ, ℤ, ◌+ℤ◌, ◌*ℤ◌, ap, ◌∙◌, arith}
use lib.IntN.{*ℤ-zero}
use Rattle.std.proofs.lemmas.Int.{ints}
use Rattle.cost.specs.Meaning.{amount_at}
use Rattle.network.specs.Sums.{sum}
use Rattle.network.specs.Network.{Net, Ends, Meets, charge, tension, reduced, surplus}
use Rattle.network.specs.Theorems.{WeakDuality, Slackness, EqualIsBest, EqualExactlyWhenBest}
use Rattle.network.proofs.Sums.{sum_same, sum_order, sum_minus, sum_none}
use Rattle.network.proofs.Least.{least_under, least_slack}
use Rattle.network.proofs.Balance.{identity}

-- whatever the prices, the charge of a routing that meets is supply times price over the nodes and the reduced amounts over the arcs
pub charge_by_prices : (net : Net) (load price : ℕ → ℤ) → Ends net → Meets net load
    → charge net load ≡ sum net.nodes (λ v. net.supply v *ℤ price v) +ℤ sum net.arcs (λ a. reduced (net.cost a) (tension net price a) (load a))
charge_by_prices net load price ends meets =
    omega (
      arith,
      ints,
      identity net load price ends,
      sum_none net.nodes (λ v. price v *ℤ surplus net load v) (λ v h. ap (λ x. price v *ℤ x) (meets.balanced v h) ∙ *ℤ-zero (price v)),
      sum_minus net.arcs (λ a. amount_at (net.cost a) (load a)) (λ a. tension net price a *ℤ load a),
    )

pub weak_duality : WeakDuality
weak_duality net load price ends meets =
    omega (arith, ints, charge_by_prices net load price ends meets, sum_order net.arcs _ _ (λ a h. least_under (net.cost a) (tension net price a) (load a) (meets.routing a h)))

pub slackness : Slackness
slackness net load price ends convex meets slack =
    omega (arith, ints, charge_by_prices net load price ends meets, sum_same net.arcs _ _ (λ a h. least_slack (net.cost a) (tension net price a) (load a) (convex a h) (slack a h)))

pub equal_is_best : EqualIsBest
equal_is_best net load price ends meets equal = (
  record { meets = meets; no_cheaper = λ other also. omega (arith, ints, weak_duality net other price ends also) },
  λ other. omega (arith, ints, weak_duality net load other ends meets),
)

pub equal_exactly_when_best : EqualExactlyWhenBest
equal_exactly_when_best net load₀ price₀ ends meets₀ equal₀ load price meets = (
  equal_is_best net load price ends meets,
  λ best. omega (arith, ints, best.0.no_cheaper load₀ meets₀, best.1 price₀, weak_duality net load price ends meets),
)
