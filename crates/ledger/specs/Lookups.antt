-- What looking something up in a book answers.
use Rattle.std.specs.Prelude.{ℕ, ◌+◌, ◌-◌, Bool, cond, ◌&&◌, length, ℤ, pos, Some, None, Ok, Err, Option, Result, int_le, slice_index_or}
use Rattle.cost.specs.Meaning.{natural}
use Rattle.network.specs.Records.{no_node, no_arc}
use Rattle.cost.specs.Places.{unless}
use Rattle.ledger.specs.Standings.{unread}
use Rattle.ledger.specs.declared.standing.Event.TheVariants.{ReadRouting, ReadMarks}
use Rattle.ledger.specs.declared.faults.SheetFault.{SheetFault}
use Rattle.ledger.specs.declared.faults.SheetFault.TheVariants.{Unknown}
use Rattle.ledger.specs.Books.{Book}

-- The place, from 0, of what has this number, from 1, among `count`; absent where nothing has it.
abbrev pub place_in : ℕ → ℤ → Option ℕ
place_in count number = cond (int_le (pos 1) number && int_le number (pos count)) (Some (natural number - 1)) None

-- What is asked of something by its number, which is the first number of the call.
abbrev pub at_number : {T : Type 0} → Option ℕ → (ℕ → Result T SheetFault) → Result T SheetFault
at_number None answer = Err (Unknown 1)
at_number (Some k) answer = answer k

-- The supply of a node.
abbrev pub supply_at : Book → ℤ → Result ℤ SheetFault
supply_at b node = at_number (place_in (length b.nodes) node) (λ v. Ok (slice_index_or b.nodes v no_node).supply)

-- The ends of an arc, as the numbers of its nodes.
abbrev pub ends_at : Book → ℤ → Result (ℕ × ℕ) SheetFault
ends_at b arc = at_number (place_in (length b.arcs) arc) (λ a. Ok ((slice_index_or b.arcs a no_arc).tail + 1, (slice_index_or b.arcs a no_arc).head + 1))

-- The load of an arc, while settled.
abbrev pub load_at : Book → ℤ → Result ℤ SheetFault
load_at b arc = at_number (place_in (length b.arcs) arc) (λ a. unless (unread ReadRouting b.standing) (slice_index_or b.arcs a no_arc).load)

-- The price of a node, while settled.
abbrev pub price_at : Book → ℤ → Result ℤ SheetFault
price_at b node = at_number (place_in (length b.nodes) node) (λ v. unless (unread ReadRouting b.standing) (slice_index_or b.nodes v no_node).price)

-- Whether a node is marked, while barred.
abbrev pub mark_at : Book → ℤ → Result Bool SheetFault
mark_at b node = at_number (place_in (length b.nodes) node) (λ v. unless (unread ReadMarks b.standing) (slice_index_or b.nodes v no_node).marked)
