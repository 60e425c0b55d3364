-- A book in the making: what the steps of a draft answer and leave.
use Rattle.std.specs.Prelude.{ℕ, ◌+◌, ◌-◌, cond, List, [], ◌∷◌, ◌++◌, length, replicate, ℤ, pos, Some, None, Option, ◌==◌, nat_lt, slice_index_or, slice_set}
use Rattle.std.specs.Option.{option_map}
use Rattle.cost.specs.Limits.{outside}
use Rattle.cost.specs.Meaning.{natural}
use Rattle.cost.specs.Places.{or_else}
use Rattle.network.specs.Records.{no_node}
use Rattle.network.specs.declared.records.Node.{Node}
use Rattle.network.specs.declared.records.Arc.{Arc}
use Rattle.sheet.specs.Sheets.{book_of}
use Rattle.ledger.specs.Books.{Book}
use Rattle.ledger.specs.Calls.{with_supply}
use Rattle.ledger.specs.Limits.{supply_limits}
use Rattle.ledger.specs.Lookups.{place_in}
use Rattle.ledger.specs.declared.faults.DraftFault.{DraftFault}
use Rattle.ledger.specs.declared.faults.DraftFault.TheVariants.{Number, Full, Unknown, Loop}
use Rattle.sheet.specs.declared.sheets.drafting.Draft.{Draft}
use Rattle.ledger.specs.declared.standing.Standing.TheVariants.{Open}

-- A draft has the book that it will open, and how many of its nodes were fed a supply.
pub record Sketch : Type 0 where
  pub nodes : List Node
  pub arcs : List Arc
  pub fed : ℕ

-- What a draft holds.
abbrev pub sketch_of : Draft → Sketch
sketch_of d = record { nodes = (book_of d.book).nodes; arcs = (book_of d.book).arcs; fed = d.fed }

-- A draft begins with nodes whose supplies are 0, and with no arcs.
abbrev pub begun : ℕ → Sketch
begun count = record { nodes = replicate count no_node; arcs = []; fed = 0 }

-- The book that a draft opens stands open.
abbrev pub drafted : Sketch → Book
drafted k = record { nodes = k.nodes; arcs = k.arcs; standing = Open }

-- ---- feed

-- Why a supply is not fed: outside its limits, or after the last node.
abbrev pub feed_refusal : Sketch → ℤ → Option DraftFault
feed_refusal k supply =
    or_else (option_map Number (outside supply_limits 1 supply)) (cond (nat_lt k.fed (length k.nodes)) None (Some (Full (length k.nodes))))

-- The next node has the supply.
abbrev pub with_fed : Sketch → ℤ → Sketch
with_fed k supply = record { nodes = slice_set k.nodes k.fed (with_supply supply (slice_index_or k.nodes k.fed no_node)); arcs = k.arcs; fed = k.fed + 1 }

-- ---- lay

-- A node's number, at a position of the call, that no node has.
abbrev pub no_such_node : ℕ → ℕ → ℤ → Option DraftFault
no_such_node count position number = elim (place_in count number) [ None ↦ Some (Unknown position) | Some v ↦ None ]

-- Why an arc is not laid: after arc 256, an unknown tail, an unknown head, or a tail that is the head.
abbrev pub lay_refusal : Sketch → ℤ → ℤ → Option DraftFault
lay_refusal k tail head =
    or_else (cond (nat_lt (length k.arcs) 256) None (Some (Full 256)))
    (or_else (no_such_node (length k.nodes) 1 tail)
    (or_else (no_such_node (length k.nodes) 2 head)
    (cond (natural tail == natural head) (Some (Loop (length k.arcs + 1))) None)))

-- One arc more, without load.
abbrev pub with_arc : Sketch → ℤ → ℤ → Sketch
with_arc k tail head =
    record { nodes = k.nodes; arcs = k.arcs ++ record { tail = natural tail - 1; head = natural head - 1; load = pos 0 } ∷ []; fed = k.fed }
