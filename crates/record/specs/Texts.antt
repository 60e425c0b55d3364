-- The text of a book and the rows of its costs, and what writing it answers.
use Rattle.std.specs.Prelude.{ℕ, ◌+◌, cond, List, [], ◌∷◌, ◌++◌, map, length, ℤ, pos, Some, None, codes, Option, ◌==◌, nat_le}
use Rattle.cost.specs.Places.{or_else}
use Rattle.network.specs.declared.records.Arc.{Arc}
use Rattle.network.specs.declared.records.Node.{Node}
use Rattle.ledger.specs.Books.{Book}
use Rattle.record_form.specs.Lines.{line, net_start, row_lines}
use Rattle.record.specs.declared.faults.WritingFault.{WritingFault}
use Rattle.record.specs.declared.faults.WritingFault.TheVariants as writing

-- The supplies of nodes.
abbrev pub supplies_of : List Node → List ℤ
supplies_of nodes = map (λ n. n.supply) nodes

-- The tails of arcs, as the numbers of their nodes.
abbrev pub tails_of : List Arc → List ℤ
tails_of arcs = map (λ a. pos (a.tail + 1)) arcs

-- The heads of arcs, as the numbers of their nodes.
abbrev pub heads_of : List Arc → List ℤ
heads_of arcs = map (λ a. pos (a.head + 1)) arcs

-- The first four lines, by what stands in them.
abbrev pub network_text : List ℕ → List ℤ → List ℤ → List ℤ → List ℤ → List ℕ
network_text start counts supplies tails heads =
    line start counts ++ (line (codes "sup") supplies ++ (line (codes "from") tails ++ line (codes "to") heads))

-- The first four lines of a book; the letter is that of the kind of its costs.
abbrev pub book_text : ℕ → Book → List ℕ
book_text letter book =
    network_text (net_start letter) (pos (length book.nodes) ∷ pos (length book.arcs) ∷ [])
    (supplies_of book.nodes) (tails_of book.arcs) (heads_of book.arcs)

-- The text of a book whose costs have these rows; the letter is that of their kind.
unfoldable pub record_text : ℕ → Book → List (List ℤ) → List ℕ
record_text letter book rows = book_text letter book ++ row_lines rows

-- Why a text of so many bytes is not written: too little room.
abbrev pub no_room : ℕ → ℕ → Option WritingFault
no_room long room = cond (nat_le long room) None (Some (writing.Space long))

-- Why a record is not written: another number of costs than arcs, or too little room.
abbrev pub unwritten : ℕ → ℕ → ℕ → ℕ → Option WritingFault
unwritten arcs costs long room = or_else (cond (costs == arcs) None (Some writing.List)) (no_room long room)
