-- A network, and what its routings charge and its prices promise.
use Rattle.std.specs.Prelude.{◌≡◌, ℕ, ◌+◌, ◌<◌, Bool, true, not, ◌&&◌, length, ℤ, pos, ◌+ℤ◌, ◌-ℤ◌, ◌*ℤ◌, ◌≤ℤ◌, ◌<ℤ◌, Some, ◌==◌}
use Rattle.cost.specs.Meaning.{Meaning, last, InRange, amount_at, increment_at, Rising}
use Rattle.network.specs.Sums.{sum, least_of, counted}

-- A network has nodes, each with a supply, and arcs, each with a tail, a head and a cost; nodes and arcs are counted from 0.
pub record Net : Type 0 where
  pub nodes : ℕ
  pub arcs : ℕ
  pub supply : ℕ → ℤ
  pub tail : ℕ → ℕ
  pub head : ℕ → ℕ
  pub cost : ℕ → Meaning

-- Each arc goes from a node of the network to a node of the network.
pub record Ends (net : Net) : Type 0 where
  pub tails : (a : ℕ) → a < net.arcs → net.tail a < net.nodes
  pub heads : (a : ℕ) → a < net.arcs → net.head a < net.nodes

-- On no arc does a further request add less than the request before it.
abbrev pub Convex : Net → Type 0
Convex net = (a : ℕ) → a < net.arcs → Rising (net.cost a).increments

-- The loads of the arcs whose head is the node.
abbrev pub inflow : Net → (ℕ → ℤ) → ℕ → ℤ
inflow net load v = sum net.arcs (λ a. counted (net.head a == v) (load a))

-- The loads of the arcs whose tail is the node.
abbrev pub outflow : Net → (ℕ → ℤ) → ℕ → ℤ
outflow net load v = sum net.arcs (λ a. counted (net.tail a == v) (load a))

-- The surplus of a node: its supply and the loads that enter it, less the loads that leave it.
abbrev pub surplus : Net → (ℕ → ℤ) → ℕ → ℤ
surplus net load v = net.supply v +ℤ inflow net load v -ℤ outflow net load v

-- Loads are a routing when each lies in the range of its arc.
abbrev pub Routing : Net → (ℕ → ℤ) → Type 0
Routing net load = (a : ℕ) → a < net.arcs → InRange (net.cost a) (load a)

-- A routing meets the network when it leaves nothing over at any node, and nothing missing.
pub record Meets (net : Net) (load : ℕ → ℤ) : Type 0 where
  pub routing : Routing net load
  pub balanced : (v : ℕ) → v < net.nodes → surplus net load v ≡ pos 0

-- The charge of loads: the sum of the amounts of the arcs.
abbrev pub charge : Net → (ℕ → ℤ) → ℤ
charge net load = sum net.arcs (λ a. amount_at (net.cost a) (load a))

-- The tension of an arc: the price of its tail less the price of its head.
abbrev pub tension : Net → (ℕ → ℤ) → ℕ → ℤ
tension net price a = price (net.tail a) -ℤ price (net.head a)

-- The amount at a load, less the tension times the load.
abbrev pub reduced : Meaning → ℤ → ℤ → ℤ
reduced m t x = amount_at m x -ℤ t *ℤ x

-- The least reduced amount over the range.
abbrev pub least : Meaning → ℤ → ℤ
least m t = least_of (length m.increments) (λ k. reduced m t (pos (m.first + k)))

-- What the supply of a node is worth at its price.
abbrev pub worth : Net → (ℕ → ℤ) → ℕ → ℤ
worth net price v = net.supply v *ℤ price v

-- The least reduced amount of an arc at its tension.
abbrev pub least_on : Net → (ℕ → ℤ) → ℕ → ℤ
least_on net price a = least (net.cost a) (tension net price a)

-- The floor of prices: the sum of supply times price over the nodes, and of the least reduced amounts over the arcs.
abbrev pub floor : Net → (ℕ → ℤ) → ℤ
floor net price = sum net.nodes (worth net price) +ℤ sum net.arcs (least_on net price)

-- A routing that meets the network is cheapest when none that meets it has a smaller charge.
pub record Cheapest (net : Net) (load : ℕ → ℤ) : Type 0 where
  pub meets : Meets net load
  pub no_cheaper : (other : ℕ → ℤ) → Meets net other → charge net load ≤ℤ charge net other

-- Prices are highest when no prices, of whatever size, have a higher floor.
abbrev pub Highest : Net → (ℕ → ℤ) → Type 0
Highest net price = (other : ℕ → ℤ) → floor net other ≤ℤ floor net price

-- A load is slack at a tension when the increment that leads to it is at most the tension and the increment that leads on from it is at least the tension, where there are such increments.
pub record Slack (m : Meaning) (t x : ℤ) : Type 0 where
  pub within : InRange m x
  pub before : (i : ℤ) → increment_at m (x -ℤ pos 1) ≡ Some i → i ≤ℤ t
  pub after : (i : ℤ) → increment_at m x ≡ Some i → t ≤ℤ i

-- An arc that leaves a set of nodes: its tail is in the set, and its head is not.
abbrev pub leaves : Net → (ℕ → Bool) → ℕ → Bool
leaves net marked a = marked (net.tail a) && not (marked (net.head a))

-- An arc that enters a set of nodes: its head is in the set, and its tail is not.
abbrev pub enters : Net → (ℕ → Bool) → ℕ → Bool
enters net marked a = marked (net.head a) && not (marked (net.tail a))

-- The sum of what the marked nodes have.
abbrev pub sum_marked : Net → (ℕ → Bool) → (ℕ → ℤ) → ℤ
sum_marked net marked f = sum net.nodes (λ v. counted (marked v) (f v))

-- What may leave a set of nodes at most: the last loads of the arcs that leave it, less the first loads of the arcs that enter it.
abbrev pub room : Net → (ℕ → Bool) → ℤ
room net marked =
    sum net.arcs (λ a. counted (leaves net marked a) (pos (last (net.cost a))))
    -ℤ sum net.arcs (λ a. counted (enters net marked a) (pos (net.cost a).first))

-- Over full: the nodes of the set supply more than may leave the set.
abbrev pub OverFull : Net → (ℕ → Bool) → Type 0
OverFull net marked = room net marked <ℤ sum_marked net marked net.supply

-- No load can change so that more leaves the set: each arc that leaves it carries its last load, each that enters it its first.
pub record Closed (net : Net) (load : ℕ → ℤ) (marked : ℕ → Bool) : Type 0 where
  pub leaving : (a : ℕ) → a < net.arcs → leaves net marked a ≡ true → load a ≡ pos (last (net.cost a))
  pub entering : (a : ℕ) → a < net.arcs → enters net marked a ≡ true → load a ≡ pos (net.cost a).first
