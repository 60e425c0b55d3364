-- What the first four lines of a text are made of.
use Rattle.std.specs.Prelude.{ℕ, List}
use Rattle.record.specs.Texts.{network_text}
use Rattle.record.specs.declared.outlines.Outline.{Outline}

-- The first four lines of an outline.
abbrev pub outline_text : Outline → List ℕ
outline_text o = network_text o.start o.counts o.supplies.items o.ends.tails.items o.ends.heads.items
