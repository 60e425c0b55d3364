-- What the calls on a book answer, and the book that they leave.
use Rattle.std.specs.Prelude.{ℕ, ◌-◌, Bool, cond, ◌&&◌, List, length, ℤ, Some, None, Option, Result, ◌==◌, slice_index_or, slice_set}
use Rattle.std.specs.Option.{option_map}
use Rattle.cost.specs.Limits.{outside, outside_each}
use Rattle.cost.specs.Meaning.{Meaning, natural}
use Rattle.cost.specs.Places.{or_else, unless}
use Rattle.network.specs.Records.{no_node, net_of, numbers, out_of_range, unmet}
use Rattle.network.specs.Network.{charge, floor}
use Rattle.network.specs.declared.records.Node.{Node}
use Rattle.network.specs.declared.records.Arc.{Arc}
use Rattle.ledger.specs.Books.{Book, opened, network_of}
use Rattle.ledger.specs.Limits.{supply_limits, price_limits}
use Rattle.ledger.specs.Lookups.{place_in}
use Rattle.ledger.specs.declared.faults.SheetFault.{SheetFault}
use Rattle.ledger.specs.declared.faults.SheetFault.TheVariants as fault

-- A condition that refuses where it does not hold.
abbrev pub needed : Bool → SheetFault → Option SheetFault
needed holds fault = cond holds None (Some fault)

-- A number, the first of its call, that nothing among `count` has.
abbrev pub unknown : ℕ → ℤ → Option SheetFault
unknown count number = elim (place_in count number) [ None ↦ Some (fault.Unknown 1) | Some k ↦ None ]

-- ---- charge and floor

-- Why loads are not charged: a wrong number of costs or loads, then a load outside its range, then a surplus.
abbrev pub charge_refusal : List Node → List Arc → List Meaning → List ℤ → Option SheetFault
charge_refusal nodes arcs costs loads =
    or_else (needed (length costs == length arcs && length loads == length arcs) fault.List)
    (or_else (option_map fault.Range (out_of_range costs loads)) (option_map fault.Surplus (unmet (net_of nodes arcs costs) (numbers loads))))

-- The charge of loads, or why there is none.
abbrev pub charge_answer : Book → List Meaning → List ℤ → Result ℤ SheetFault
charge_answer b costs loads = unless (charge_refusal b.nodes b.arcs costs loads) (charge (network_of b costs) (numbers loads))

-- Why prices have no floor: a wrong number of costs or prices, then a price outside its limits.
abbrev pub floor_refusal : List Node → List Arc → List Meaning → List ℤ → Option SheetFault
floor_refusal nodes arcs costs prices =
    or_else (needed (length costs == length arcs && length prices == length nodes) fault.List)
    (option_map fault.Number (outside_each price_limits 0 prices))

-- The floor of prices, or why there is none.
abbrev pub floor_answer : Book → List Meaning → List ℤ → Result ℤ SheetFault
floor_answer b costs prices = unless (floor_refusal b.nodes b.arcs costs prices) (floor (network_of b costs) (numbers prices))

-- ---- edits

-- A node with another supply.
abbrev pub with_supply : ℤ → Node → Node
with_supply amount n = record { supply = amount; price = n.price; marked = n.marked }

-- Why a supply is not set: the amount outside its limits, then an unknown node.
abbrev pub supply_refusal : Book → ℤ → ℤ → Option SheetFault
supply_refusal b node amount = or_else (option_map fault.Number (outside supply_limits 2 amount)) (unknown (length b.nodes) node)

-- The book after a supply is set: it stands open.
abbrev pub supplied : Book → ℤ → ℤ → Book
supplied b node amount =
    let v = natural node - 1 in
    opened (slice_set b.nodes v (with_supply amount (slice_index_or b.nodes v no_node))) b.arcs

-- Why a cost is not swapped: a wrong number of costs, then an unknown arc. `count` is how many costs there are.
abbrev pub swap_refusal : Book → ℕ → ℤ → Option SheetFault
swap_refusal b count arc = or_else (needed (count == length b.arcs) fault.List) (unknown (length b.arcs) arc)

-- The costs after one is swapped.
abbrev pub swapped : {C : Type 0} → List C → ℤ → C → List C
swapped costs arc cost = slice_set costs (natural arc - 1) cost
