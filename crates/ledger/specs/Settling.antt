-- What settling a book comes to: a cheapest routing with prices that show it, or a set of nodes that bars every routing.
use Rattle.std.specs.Prelude.{◌≡◌, ℕ, suc, ◌<◌, Bool, false, ◌↔◌, List, length, ℤ, pos, negsuc, Some, None, Ok, Err, Option, Result, ◌==◌, slice_index_or}
use Rattle.cost.specs.Meaning.{Meaning, Between}
use Rattle.cost.specs.Places.{or_else}
use Rattle.network.specs.Sums.{count, sum}
use Rattle.network.specs.Network.{Net, Meets, Cheapest, Highest, charge, floor, OverFull}
use Rattle.network.specs.Records.{no_node, no_arc, is_zero}
use Rattle.network.specs.declared.records.Node.{Node}
use Rattle.network.specs.declared.records.Arc.{Arc}
use Rattle.ledger.specs.Books.{Book, opened, network_of}
use Rattle.ledger.specs.Calls.{needed}
use Rattle.ledger.specs.Lookups.{load_at, price_at, mark_at}
use Rattle.ledger.specs.declared.faults.SheetFault.{SheetFault}
use Rattle.ledger.specs.declared.faults.SheetFault.TheVariants as fault
use Rattle.ledger.specs.declared.settling.Amounts.{Amounts}
use Rattle.ledger.specs.declared.standing.Standing.TheVariants.{Settled, Barred}

-- The supplies of the nodes, summed.
abbrev pub supply_sum : List Node → ℤ
supply_sum nodes = sum (length nodes) (λ v. (slice_index_or nodes v no_node).supply)

-- Why settle does not look for a routing: a wrong number of costs, then supplies that do not sum to 0. `costs` is how many costs there are.
abbrev pub settle_refusal : List Node → List Arc → ℕ → Option SheetFault
settle_refusal nodes arcs costs = or_else (needed (costs == length arcs) fault.List) (needed (is_zero (supply_sum nodes)) fault.Unbalanced)

-- ---- what looking up answers

-- What a look-up answers, and something else where it is refused.
abbrev pub answered : {T : Type 0} → T → Result T SheetFault → T
answered other (Ok x) = x
answered other (Err f) = other

-- The load of each arc, as looking it up answers.
abbrev pub loads_in : Book → ℕ → ℤ
loads_in b a = answered (pos 0) (load_at b (pos (suc a)))

-- The price of each node, as looking it up answers.
abbrev pub prices_in : Book → ℕ → ℤ
prices_in b v = answered (pos 0) (price_at b (pos (suc v)))

-- Whether each node is marked, as looking it up answers.
abbrev pub marks_in : Book → ℕ → Bool
marks_in b v = answered false (mark_at b (pos (suc v)))

-- How many nodes of a barred book are marked.
abbrev pub marked_count : Book → ℕ
marked_count b = count (length b.nodes) (marks_in b)

-- ---- what settling leaves

-- The books differ in loads, prices, marks and standing alone: opened again, they are the same.
abbrev pub SameNetwork : Book → Book → Type 0
SameNetwork before after = opened after.nodes after.arcs ≡ opened before.nodes before.arcs

-- In a settled book the loads meet the network, the prices keep their limits and have a floor that equals the charge, and no mark is set.
pub record SettledBook (net : Net) (b : Book) : Type 0 where
  pub stands : b.standing ≡ Settled
  pub meets : Meets net (loads_in b)
  pub equal : charge net (loads_in b) ≡ floor net (prices_in b)
  pub price_limit : (v : ℕ) → v < net.nodes → Between (negsuc 99999999) (pos 100000000) (prices_in b v)
  pub unmarked : (v : ℕ) → v < net.nodes → (slice_index_or b.nodes v no_node).marked ≡ false

-- The marked nodes of a barred book are over full, and its loads and prices are 0.
pub record BarredBook (net : Net) (b : Book) : Type 0 where
  pub stands : b.standing ≡ Barred
  pub over_full : OverFull net (marks_in b)
  pub no_loads : (a : ℕ) → a < net.arcs → (slice_index_or b.arcs a no_arc).load ≡ pos 0
  pub no_prices : (v : ℕ) → v < net.nodes → (slice_index_or b.nodes v no_node).price ≡ pos 0

-- The charge of the loads and the floor of the prices of a settled book.
abbrev pub amounts_in : Net → Book → Amounts
amounts_in net b = record { charge = charge net (loads_in b); floor = floor net (prices_in b) }

-- What settling a book answers, and the book that it leaves: refused beforehand, it leaves the book; else it settles it, or bars it and says how many nodes are marked.
abbrev pub SettlesUnless : Option SheetFault → Net → Book → Book → Result Amounts SheetFault → Type 0
SettlesUnless (Some f) net before after r = (r ≡ Err f) × (after ≡ before)
SettlesUnless None net before after (Ok amounts) = SameNetwork before after × SettledBook net after × (amounts ≡ amounts_in net after)
SettlesUnless None net before after (Err f) = SameNetwork before after × BarredBook net after × (f ≡ fault.Barred (marked_count after))

-- What settling a book under costs comes to.
abbrev pub Settles : Book → List Meaning → Book → Result Amounts SheetFault → Type 0
Settles before costs after r = SettlesUnless (settle_refusal before.nodes before.arcs (length costs)) (network_of before costs) before after r

-- ---- what an answer says of the network

-- Some routing meets the network.
abbrev pub Feasible : Net → Type 0
Feasible net = (load : ℕ → ℤ) × Meets net load

-- For every routing that meets the network and any prices: the charge equals the floor exactly when no routing that meets is cheaper and no prices have a higher floor.
abbrev pub EqualWhenBest : Net → Type 0
EqualWhenBest net = (load price : ℕ → ℤ) → Meets net load → (charge net load ≡ floor net price) ↔ (Cheapest net load × Highest net price)

-- What settling answers for a network: beforehand a refusal; else equal amounts, the charge of a routing that meets it and the floor of some prices; or how many nodes of an over-full set are marked.
abbrev pub Answers : Option SheetFault → Net → Result Amounts SheetFault → Type 0
Answers (Some f) net r = r ≡ Err f
Answers None net (Ok amounts) =
    (load : ℕ → ℤ) × (price : ℕ → ℤ) × Meets net load × (charge net load ≡ floor net price) × (amounts ≡ record { charge = charge net load; floor = floor net price })
Answers None net (Err f) = (marked : ℕ → Bool) × OverFull net marked × (f ≡ fault.Barred (count net.nodes marked))
