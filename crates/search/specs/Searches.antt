-- Where a search has come to.
use Rattle.cost.specs.Meaning.{Meaning}
use Rattle.network.specs.Records.{numbers}
use Rattle.flow.specs.Spans.{low_of, high_of}
use Rattle.search.specs.Networks.{network_of}
use Rattle.search.specs.Turns.{Narrowed}
use Rattle.search.specs.declared.improve.Search.{Search}

-- Each span holds the loads of its arc that are slack within the step of the tension.
abbrev pub IsNarrow : {C : Type 0} → (C → Meaning) → Search C → Type 0
IsNarrow meaning search = Narrowed (network_of meaning search.network.now) (numbers search.prices) search.step (low_of search.spans) (high_of search.spans)
