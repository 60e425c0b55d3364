-- What holds of every network: the statements that the functions of this crate assert.
use Rattle.std.specs.Prelude.{◌≡◌, ℕ, ◌<◌, Bool, ◌↔◌, ℤ, pos, ◌-ℤ◌, ◌*ℤ◌, ◌≤ℤ◌, ◌<ℤ◌}
use Rattle.cost.specs.Meaning.{Meaning, InRange, Rising}
use Rattle.network.specs.Sums.{sum}
use Rattle.network.specs.Network.{Net, Ends, Convex, surplus, Meets, charge, tension, reduced, least, floor, Cheapest, Highest, Slack, sum_marked, OverFull, Closed}

-- The surpluses, each times its node's price, sum to the supplies times the prices less the loads times the tensions.
abbrev pub Identity : Type 0
Identity =
    (net : Net) (load price : ℕ → ℤ) → Ends net
    → sum net.nodes (λ v. price v *ℤ surplus net load v)
    ≡ sum net.nodes (λ v. net.supply v *ℤ price v) -ℤ sum net.arcs (λ a. tension net price a *ℤ load a)

-- The surpluses sum to the supplies, so a routing can meet the network only if the supplies sum to 0.
abbrev pub Conservation : Type 0
Conservation = (net : Net) (load : ℕ → ℤ) → Ends net → sum net.nodes (surplus net load) ≡ sum net.nodes net.supply

-- No reduced amount of the range is below the least, and where the increments rise the least is reached at every slack load.
abbrev pub LeastIsReached : Type 0
LeastIsReached =
    (m : Meaning) (t x : ℤ)
    → (InRange m x → least m t ≤ℤ reduced m t x) × (Rising m.increments → Slack m t x → least m t ≡ reduced m t x)

-- The floor of any prices is at most the charge of any routing that meets the network.
abbrev pub WeakDuality : Type 0
WeakDuality = (net : Net) (load price : ℕ → ℤ) → Ends net → Meets net load → floor net price ≤ℤ charge net load

-- Where the load of every arc is slack at its tension, the charge equals the floor.
abbrev pub Slackness : Type 0
Slackness =
    (net : Net) (load price : ℕ → ℤ) → Ends net → Convex net → Meets net load
    → ((a : ℕ) → a < net.arcs → Slack (net.cost a) (tension net price a) (load a))
    → charge net load ≡ floor net price

-- Where the charge equals the floor, the routing is cheapest and the prices are highest.
abbrev pub EqualIsBest : Type 0
EqualIsBest =
    (net : Net) (load price : ℕ → ℤ) → Ends net → Meets net load
    → charge net load ≡ floor net price → Cheapest net load × Highest net price

-- Where some routing's charge equals some prices' floor, charge and floor are equal exactly for the cheapest routings and the highest prices.
abbrev pub EqualExactlyWhenBest : Type 0
EqualExactlyWhenBest =
    (net : Net) (load₀ price₀ : ℕ → ℤ) → Ends net → Meets net load₀ → charge net load₀ ≡ floor net price₀
    → (load price : ℕ → ℤ) → Meets net load
    → (charge net load ≡ floor net price) ↔ (Cheapest net load × Highest net price)

-- Where a set of nodes is over full, no routing meets the network.
abbrev pub OverFullBars : Type 0
OverFullBars = (net : Net) (marked : ℕ → Bool) → Ends net → OverFull net marked → (load : ℕ → ℤ) → Meets net load → ⊥

-- A closed set whose surpluses sum above 0 is over full.
abbrev pub ClosedIsOverFull : Type 0
ClosedIsOverFull =
    (net : Net) (load : ℕ → ℤ) (marked : ℕ → Bool) → Ends net → Closed net load marked
    → pos 0 <ℤ sum_marked net marked (surplus net load) → OverFull net marked
