-- The network that lists of nodes, arcs and costs stand for.
use Rattle.std.specs.Prelude.{ℕ, ◌<◌, ◌≤◌, Bool, false, not, List, length, get_or, ℤ, pos, negsuc, neg_ℤ, Option, ◌==◌, slice_index_or, unsigned_abs}
use Rattle.cost.specs.Meaning.{Meaning, empty_cost, in_range, InRange, amount_at, Between}
use Rattle.cost.specs.Places.{first_place}
use Rattle.network.specs.Sums.{sum}
use Rattle.network.specs.Network.{Net, surplus}
use Rattle.network.specs.declared.records.TheConstants.{MOST_NODES, MOST_ARCS}
use Rattle.network.specs.declared.records.Node.{Node}
use Rattle.network.specs.declared.records.Arc.{Arc}

-- What stands past the end of a list of nodes: a node with no supply and no price, not marked.
abbrev pub no_node : Node
no_node = record { supply = pos 0; price = pos 0; marked = false }

-- What stands past the end of a list of arcs: an arc without load, from the first node to itself.
abbrev pub no_arc : Arc
no_arc = record { tail = 0; head = 0; load = pos 0 }

-- A list of numbers by index; 0 past its end.
abbrev pub numbers : List ℤ → ℕ → ℤ
numbers xs k = slice_index_or xs k (pos 0)

-- A list of costs by index; the empty cost past its end.
abbrev pub cost_of : List Meaning → ℕ → Meaning
cost_of costs a = slice_index_or costs a empty_cost

-- The network of nodes, arcs and their costs, each counted from 0 by its place in its list.
abbrev pub net_of : List Node → List Arc → List Meaning → Net
net_of nodes arcs costs = record {
  nodes = length nodes;
  arcs = length arcs;
  supply = λ v. (get_or nodes v no_node).supply;
  tail = λ a. (get_or arcs a no_arc).tail;
  head = λ a. (get_or arcs a no_arc).head;
  cost = cost_of costs;
}

-- The limits that every network keeps.
pub record Sound (nodes : List Node) (arcs : List Arc) : Type 0 where
  pub node_limit : length nodes ≤ MOST_NODES
  pub arc_limit : length arcs ≤ MOST_ARCS
  pub tails : (a : ℕ) → a < length arcs → (get_or arcs a no_arc).tail < length nodes
  pub heads : (a : ℕ) → a < length arcs → (get_or arcs a no_arc).head < length nodes
  pub supply_limit : (v : ℕ) → v < length nodes → Between (negsuc 99999) (pos 100000) (get_or nodes v no_node).supply

-- Each number of the list lies from -limit to limit.
abbrev pub Within : ℕ → List ℤ → Type 0
Within limit xs = (k : ℕ) → k < length xs → Between (neg_ℤ (pos limit)) (pos limit) (numbers xs k)

-- Each load lies in the range of its cost.
abbrev pub Ranged : List Meaning → List ℤ → Type 0
Ranged costs loads = (a : ℕ) → a < length loads → InRange (cost_of costs a) (numbers loads a)

-- The place, from 1, of the first arc whose load lies outside the range of its cost.
abbrev pub out_of_range : List Meaning → List ℤ → Option ℕ
out_of_range costs loads = first_place (λ a. not (in_range (cost_of costs a) (numbers loads a))) (length loads)

-- The number is 0.
abbrev pub is_zero : ℤ → Bool
is_zero x = unsigned_abs x == 0

-- The place, from 1, of the first node whose surplus is not 0.
abbrev pub unmet : Net → (ℕ → ℤ) → Option ℕ
unmet net load = first_place (λ v. not (is_zero (surplus net load v))) net.nodes

-- The amount of an arc at its load.
abbrev pub amount_of : List Meaning → List ℤ → ℕ → ℤ
amount_of costs loads a = amount_at (cost_of costs a) (numbers loads a)

-- The amounts of all arcs, summed: the charge of every network with these costs.
abbrev pub amounts : List Meaning → List ℤ → ℤ
amounts costs loads = sum (length loads) (amount_of costs loads)
