-- Chains of calls: what they set, which of them are accepted, and what settling answers for a network.
use Rattle.std.specs.Prelude.{◌≡◌, false, ◌⊎◌, ◌↔◌, List, [], ◌∷◌, map, length, IfSome, is_ok, Some, None, Option}
use Rattle.cost.specs.Meaning.{Meaning}
use Rattle.cost.specs.Places.{kept_or}
use Rattle.network.specs.Network.{Net}
use Rattle.ledger.specs.Books.{Book, network_of}
use Rattle.ledger.specs.Calls.{supply_refusal, supplied, swap_refusal, swapped}
use Rattle.ledger.specs.Settling.{settle_refusal, SameNetwork, SettledBook, BarredBook, Feasible, EqualWhenBest, Answers}
use Rattle.ledger.specs.declared.faults.SheetFault.{SheetFault}
use Rattle.ledger.specs.declared.standing.Standing.TheVariants as standing
use Rattle.chain.specs.declared.calls.Call.{Call}
use Rattle.chain.specs.declared.calls.Call.TheVariants as call
use Rattle.chain.specs.declared.calls.Kind.{Kind}
use Rattle.chain.specs.declared.calls.Kind.TheVariants as kind
use Rattle.chain.specs.declared.calls.Progress.{Progress}
use Rattle.chain.specs.declared.calls.Report.{Report}
use Rattle.chain.specs.Steps.{at_start, Made}

-- A book and the list of costs that goes with it.
pub record Desk (C : Type 0) : Type 0 where
  pub book : Book
  pub costs : List C

-- The network of a book under its costs; `meaning` says what a cost means.
abbrev pub network : {C : Type 0} → (C → Meaning) → Desk C → Net
network meaning d = network_of d.book (map meaning d.costs)

-- Why settle does not look for a routing, if it does not.
abbrev pub unsettled : {C : Type 0} → Desk C → Option SheetFault
unsettled d = settle_refusal d.book.nodes d.book.arcs (length d.costs)

-- What a call sets if it is accepted: a supply puts its number at its node, a swap its cost at its arc, and settle sets neither.
abbrev pub set_by : {C : Type 0} → Call C → Desk C → Desk C
set_by (call.Supply node amount) d = record { book = kept_or d.book (supply_refusal d.book node amount) (supplied d.book node amount); costs = d.costs }
set_by (call.Swap arc cost) d = record { book = d.book; costs = kept_or d.costs (swap_refusal d.book (length d.costs) arc) (swapped d.costs arc cost) }
set_by call.Settle d = d

-- The supplies and the costs set last: those at the start, with what each accepted call sets, in turn.
abbrev pub set_last : {C : Type 0} → Desk C → List (Call C) → Desk C
set_last d [] = d
set_last d (c ∷ calls) = set_last (set_by c d) calls

-- A call is accepted exactly when no condition refuses it; the last condition of settle is that no routing meets the network.
abbrev pub Accepted : {C : Type 0} → (C → Meaning) → Call C → Desk C → Type 0
Accepted meaning (call.Supply node amount) d = supply_refusal d.book node amount ≡ None
Accepted meaning (call.Swap arc cost) d = swap_refusal d.book (length d.costs) arc ≡ None
Accepted meaning call.Settle d = (unsettled d ≡ None) × Feasible (network meaning d)

-- Which call it is.
abbrev pub kind_of : {C : Type 0} → Call C → Kind
kind_of (call.Supply node amount) = kind.Supply
kind_of (call.Swap arc cost) = kind.Swap
kind_of call.Settle = kind.Settle

-- After the calls `k` is the kind of the call that was accepted last; it was `before` before them.
abbrev pub LastAccepted : {C : Type 0} → (C → Meaning) → Desk C → Option Kind → List (Call C) → Option Kind → Type 0
LastAccepted meaning d before [] k = k ≡ before
LastAccepted meaning d before (c ∷ calls) k =
    (Accepted meaning c d × LastAccepted meaning (set_by c d) (Some (kind_of c)) calls k)
    ⊎ ((Accepted meaning c d → ⊥) × LastAccepted meaning (set_by c d) before calls k)

-- A book stands settled exactly when settle was the last call accepted, and is then settled under the network; one that stands barred is barred under it.
pub record Stands (net : Net) (b : Book) (last : Option Kind) : Type 0 where
  pub exactly : (b.standing ≡ standing.Settled) ↔ (last ≡ Some kind.Settle)
  pub settled : b.standing ≡ standing.Settled → SettledBook net b
  pub barred : b.standing ≡ standing.Barred → BarredBook net b

-- What a chain of calls comes to, from a book and costs to a book and costs, and what its report says.
pub record Replayed {C : Type 0} (meaning : C → Meaning) (start : Desk C) (calls : List (Call C)) (end : Desk C) (report : Report) : Type 0 where
  -- each call was made in turn, as its own contract says; the report has what was known at the end, and the last answer of settle, if no edit was accepted since
  pub made : (q : Progress) × Made meaning calls start.book start.costs at_start end.book end.costs q × (report.last ≡ q.last) × IfSome q.answer (λ r. report.outlook ≡ r)
  -- the book has the nodes, arcs and supplies set last, and the list the costs set last
  pub network_set : SameNetwork (set_last start calls).book end.book
  pub costs_set : end.costs ≡ (set_last start calls).costs
  -- the report tells which accepted call came last
  pub last : LastAccepted meaning start None calls report.last
  -- a book just opened stands settled exactly when that was settle, and then holds a routing that meets the network, whose charge equals the floor of its prices
  pub stands : start.book.standing ≡ standing.Open → Stands (network meaning (set_last start calls)) end.book report.last
  -- for every routing that meets the network and any prices, charge and floor are equal exactly when both are best
  pub exactly : length (set_last start calls).costs ≡ length (set_last start calls).book.arcs → EqualWhenBest (network meaning (set_last start calls))
  -- the report has what settle answers for the network; with one cost for each arc and balanced supplies it refuses exactly when no routing meets the network
  pub outlook : Answers (unsettled (set_last start calls)) (network meaning (set_last start calls)) report.outlook
  pub refuses : unsettled (set_last start calls) ≡ None → (is_ok report.outlook ≡ false) ↔ (Feasible (network meaning (set_last start calls)) → ⊥)
