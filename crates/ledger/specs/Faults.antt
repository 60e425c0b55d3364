-- What the refusals of the draft and of the sheet carry, case by case.
use Rattle.cost.specs.Refusals.{refusal, number_refusal}
use Rattle.cost.specs.declared.refusals.Layer.TheVariants.{Draft, Sheet}
use Rattle.cost.specs.declared.refusals.Refusal.{Refusal}
use Rattle.ledger.specs.declared.faults.DraftFault.{DraftFault}
use Rattle.ledger.specs.declared.faults.DraftFault.TheVariants as draft
use Rattle.ledger.specs.declared.faults.SheetFault.{SheetFault}
use Rattle.ledger.specs.declared.faults.SheetFault.TheVariants as sheet

-- Every refusal of a draft is in the layer of drafts.
abbrev pub draft_refusal : DraftFault → Refusal
draft_refusal (draft.Number fault) = number_refusal Draft fault
draft_refusal (draft.Full count) = refusal 7 count Draft
draft_refusal (draft.Unknown position) = refusal 8 position Draft
draft_refusal (draft.Loop arc) = refusal 9 arc Draft

-- Every refusal of a call on a sheet is in the layer of sheets.
abbrev pub sheet_refusal : SheetFault → Refusal
sheet_refusal sheet.List = refusal 2 0 Sheet
sheet_refusal (sheet.Number fault) = number_refusal Sheet fault
sheet_refusal (sheet.Unknown position) = refusal 8 position Sheet
sheet_refusal sheet.Unbalanced = refusal 10 0 Sheet
sheet_refusal (sheet.Barred count) = refusal 11 count Sheet
sheet_refusal sheet.Unread = refusal 12 0 Sheet
sheet_refusal (sheet.Range arc) = refusal 13 arc Sheet
sheet_refusal (sheet.Surplus node) = refusal 14 node Sheet
