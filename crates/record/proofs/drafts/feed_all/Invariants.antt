use Rattle.std.proofs.Common.{◌≡◌, ◌+◌, drop}
use Rattle.sheet.specs.Drafts.{sketch_of}
use Rattle.record.specs.Readings.{fed}
use Rattle.record.proofs.drafts.feed_all.Given as goal

abbrev pub invariant-loop-i : goal.invariant-loop-i
invariant-loop-i l = fed (sketch_of l.initial.draft) 2 l.supplies ≡ fed (sketch_of l.draft) (l.i + 2) (drop l.i l.supplies)
