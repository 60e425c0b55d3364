-- Loads that are brought into the spans of their arcs.
use Rattle.std.specs.Prelude.{ℕ, ◌<◌, List, length, ℤ, ◌≤ℤ◌}
use Rattle.cost.specs.Meaning.{Between}
use Rattle.network.specs.Records.{numbers}
use Rattle.flow.specs.declared.spans.Span.{Span}
use Rattle.flow.specs.Spans.{low_of, high_of}

-- Each load lies in its span, where the span has a load at all.
abbrev pub HeldIn : List Span → List ℤ → Type 0
HeldIn spans loads = (a : ℕ) → a < length spans → low_of spans a ≤ℤ high_of spans a → Between (low_of spans a) (high_of spans a) (numbers loads a)
