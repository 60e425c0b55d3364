-- What the refusals of a record carry, case by case.
use Rattle.std.specs.Prelude.{ℕ, Some, None, Option}
use Rattle.std.specs.Option.{unwrap_or}
use Rattle.cost.specs.Refusals.{refusal, cost_refusal}
use Rattle.cost.specs.declared.refusals.Layer.TheVariants as layer
use Rattle.cost.specs.declared.refusals.Refusal.{Refusal}
use Rattle.ledger.specs.Faults.{draft_refusal}
use Rattle.record.specs.declared.faults.RecordFault.{RecordFault}
use Rattle.record.specs.declared.faults.RecordFault.TheVariants.{Form, Space, Draft, Cost}
use Rattle.record.specs.declared.faults.Spot.{Spot}
use Rattle.record.specs.declared.faults.WritingFault.{WritingFault}
use Rattle.record.specs.declared.faults.WritingFault.TheVariants as writing

-- A line and a field of it.
abbrev pub spot : ℕ → ℕ → Spot
spot line field = record { line = line; field = Some field }

-- A whole line.
abbrev pub line_spot : ℕ → Spot
line_spot line = record { line = line; field = None }

-- The form and the space are refusals of the record; a refusal from below keeps its number, its place and its layer.
abbrev pub record_refusal : RecordFault → Refusal
record_refusal (Form offset) = refusal 15 offset layer.Record
record_refusal (Space needed) = refusal 16 needed layer.Record
record_refusal (Draft fault place) = draft_refusal fault
record_refusal (Cost fault place) = cost_refusal fault

-- A refusal from below has the line and the field that it was met at, and the form and the space have none.
abbrev pub record_spot : RecordFault → Option Spot
record_spot (Form offset) = None
record_spot (Space needed) = None
record_spot (Draft fault place) = Some place
record_spot (Cost fault place) = Some place

-- The line and the field as numbers, with 0 for what a refusal does not name.
abbrev pub line_and_field : RecordFault → ℕ × ℕ
line_and_field (Form offset) = (0, 0)
line_and_field (Space needed) = (0, 0)
line_and_field (Draft fault place) = (place.line, unwrap_or place.field 0)
line_and_field (Cost fault place) = (place.line, unwrap_or place.field 0)

-- Every refusal of writing is one of the record.
abbrev pub writing_refusal : WritingFault → Refusal
writing_refusal writing.List = refusal 2 0 layer.Record
writing_refusal (writing.Space needed) = refusal 16 needed layer.Record
