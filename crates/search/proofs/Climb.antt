-- Prices that rise only where the floor rises as much stay modest, since no floor passes a charge.
use Rattle.std.proofs.Common.{◌≡◌, ℕ, ◌+◌, ◌<◌, ◌≤◌, Bool, true, false, length, ℤ, pos, ◌+ℤ◌, ◌-ℤ◌, neg_ℤ, ◌≤ℤ◌, arith}
use lib.IntN.{*ℤ-zero}
use Rattle.std.proofs.lemmas.Int.{ints}
use Rattle.cost.specs.Meaning.{Meaning, natural, amount_at, Between, Lawful}
use Rattle.cost.proofs.Amount.{amount_limit}
use Rattle.network.specs.Sums.{counted}
use Rattle.network.specs.Network.{Net, Ends, Meets, charge, floor, reduced, least, least_on, worth}
use Rattle.network.proofs.Sums.{sum_within, sum_none}
use Rattle.network.proofs.Least.{least_of_over, least_under}
use Rattle.network.proofs.Walk.{reduced_limit}
use Rattle.network.proofs.Changes.{floor_same}
use Rattle.network.proofs.Duality.{weak_duality}
use Rattle.search.specs.Prices.{raised}
use Rattle.flow.proofs.Excess.{natural_less}

-- the prices with which the search starts
abbrev pub zero_prices : ℕ → ℤ
zero_prices v = pos 0

-- no price is higher than the floor has risen
abbrev pub Climbed : Net → (ℕ → ℤ) → Type 0
Climbed net price = (v : ℕ) → v < net.nodes → Between (pos 0) (floor net price -ℤ floor net zero_prices) (price v)

least_limit : (m : Meaning) → Lawful m → Between (neg_ℤ (pos 2011000000000)) (pos 2011000000000) (least m (pos 0))
least_limit m lawful = (
  least_of_over (length m.increments) (neg_ℤ (pos 2011000000000)) (λ k. reduced m (pos 0) (pos (m.first + k))) (λ k h. (reduced_limit m (pos 0) (pos (m.first + k)) lawful (omega (arith, ints)) (omega (arith, ints))).0),
  omega (arith, ints, least_under m (pos 0) (pos m.first) (omega (arith, ints)), reduced_limit m (pos 0) (pos m.first) lawful (omega (arith, ints)) (omega (arith, ints))),
)

counted_up : (b : Bool) (step : ℤ) → pos 0 ≤ℤ step → Between (pos 0) step (counted b step)
counted_up true step above = omega (arith, ints)
counted_up false step above = omega (arith, ints)

module _ (net : Net) (ends : Ends net) where
  pub climb_starts : (price : ℕ → ℤ) → ((v : ℕ) → v < net.nodes → price v ≡ pos 0) → Climbed net price
  climb_starts price none v h = omega (arith, ints, none v h, floor_same net price zero_prices ends none)

  -- what the code writes down as the raised prices
  raised_floor : (price next : ℕ → ℤ) (marked : ℕ → Bool) (step : ℤ) → ((v : ℕ) → v < net.nodes → next v ≡ raised price marked step v)
      → (floor net price +ℤ step) ≤ℤ floor net (raised price marked step) → (floor net price +ℤ step) ≤ℤ floor net next
  raised_floor price next marked step is rises = rw (floor_same net next (raised price marked step) ends is) rises

  pub climb_on : (price next : ℕ → ℤ) (marked : ℕ → Bool) (step : ℤ) → pos 0 ≤ℤ step → Climbed net price → ((v : ℕ) → v < net.nodes → next v ≡ raised price marked step v)
      → (floor net price +ℤ step) ≤ℤ floor net (raised price marked step) → Climbed net next
  climb_on price next marked step above climbed is rises v h =
      omega (arith, ints, climbed v h, is v h, counted_up (marked v) step above, raised_floor price next marked step is rises)

  module _ (load : ℕ → ℤ) (meets : Meets net load) where
    -- how far the floor is from the charge
    abbrev pub gap : (ℕ → ℤ) → ℕ
    gap price = natural (charge net load -ℤ floor net price)

    pub gap_less : (price next : ℕ → ℤ) (marked : ℕ → Bool) (step : ℤ) → pos 1 ≤ℤ step → ((v : ℕ) → v < net.nodes → next v ≡ raised price marked step v)
        → (floor net price +ℤ step) ≤ℤ floor net (raised price marked step) → gap next < gap price
    gap_less price next marked step above is rises =
        natural_less (charge net load -ℤ floor net next) (charge net load -ℤ floor net price)
        (omega (arith, ints, weak_duality net load next ends meets)) (omega (arith, ints, raised_floor price next marked step is rises))

    module _ (few : net.arcs ≤ 256) (lawful : (a : ℕ) → a < net.arcs → Lawful (net.cost a)) where
      charge_limit : Between (neg_ℤ (pos 2816000000000)) (pos 2816000000000) (charge net load)
      charge_limit =
          omega (arith, ints, sum_within net.arcs 11000000000 (λ a. amount_at (net.cost a) (load a)) (λ a h. amount_limit (net.cost a) (load a) (lawful a h) (meets.routing a h)))

      floor_limit : Between (neg_ℤ (pos 514816000000000)) (pos 514816000000000) (floor net zero_prices)
      floor_limit =
          omega (
            arith,
            ints,
            sum_none net.nodes (worth net zero_prices) (λ v h. *ℤ-zero (net.supply v)),
            sum_within net.arcs 2011000000000 (least_on net zero_prices) (λ a h. least_limit (net.cost a) (lawful a h)),
          )

      pub climb_limit : (price : ℕ → ℤ) → Climbed net price → (v : ℕ) → v < net.nodes → Between (pos 0) (pos 1000000000000000) (price v)
      climb_limit price climbed v h = omega (arith, ints, climbed v h, charge_limit, floor_limit, weak_duality net load price ends meets)
