-- What joins reading and writing: the statements that the public calls assert.
use Rattle.std.specs.Prelude.{◌≡◌, ℕ, ◌<◌, ◌≤◌, List, length, ℤ, None, ◌≢◌, slice_index_or}
use Rattle.network.specs.Records.{no_arc}
use Rattle.network.specs.declared.records.Arc.{Arc}
use Rattle.ledger.specs.Books.{Book, opened}
use Rattle.record.specs.Readings.{Kind, reading}

-- No arc goes from a node to that same node. Every draft keeps to it, so every book that was opened does.
abbrev pub LoopFree : List Arc → Type 0
LoopFree arcs = (a : ℕ) → a < length arcs → (slice_index_or arcs a no_arc).tail ≢ (slice_index_or arcs a no_arc).head

-- The text reads back, given places enough: it is accepted, the book has the same nodes, supplies, arcs and ends and is just opened, and the costs have the same rows.
abbrev pub ReadsBack : Kind → Book → List (List ℤ) → List ℕ → Type 0
ReadsBack kind book rows text =
    (places : ℕ) → length rows ≤ places → reading kind text places ≡ record { refusal = None; book = opened book.nodes book.arcs; rows = rows }
