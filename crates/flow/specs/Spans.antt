-- How far the load of each arc may go.
use Rattle.std.specs.Prelude.{ℕ, List, ℤ, pos, slice_index_or}
use Rattle.flow.specs.declared.spans.Span.{Span}

-- What stands past the end of a list of spans: no load but 0.
abbrev pub no_span : Span
no_span = record { low = pos 0; high = pos 0 }

-- The least load of each arc.
abbrev pub low_of : List Span → ℕ → ℤ
low_of spans a = (slice_index_or spans a no_span).low

-- The greatest load of each arc.
abbrev pub high_of : List Span → ℕ → ℤ
high_of spans a = (slice_index_or spans a no_span).high
