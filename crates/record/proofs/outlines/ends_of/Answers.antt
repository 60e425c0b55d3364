use Rattle.std.proofs.Common.{◌+◌, ◌<◌, length, pos, ◌∙◌, arith, w64, SFits, rules}
use Rattle.std.proofs.lemmas.Int.{to_z-of_z}
use Rattle.network.specs.Records.{no_arc}
use Rattle.network.specs.declared.records.Arc.{Arc}
use Rattle.sheet.specs.Sheets.{book_of}
use Rattle.record.proofs.Listed.{listed_more}
use Rattle.record.proofs.outlines.ends_of.Goals as goal

pub loop-place-preserved : goal.loop-place-preserved
loop-place-preserved c =
    let arcs = (book_of c.args.sheet.now).arcs in
    let there : c.loop-place.place < length arcs = omega (arith, c.arc_count-place-end.ensures) in
    let tail : SFits w64 c.ends_at-tail.result.0 = search rules in
    let head : SFits w64 c.ends_at-tail.result.1 = search rules in
    let tails = simp to_z-of_z at c.push.ensures.items in
    let heads = simp to_z-of_z at c.push-in-loop-place.ensures.items in (
      tails ∙ listed_more (λ (a : Arc). pos (a.tail + 1)) arcs c.loop-place.place c.loop-place.invariant.0 no_arc c.ends_at-tail.result.0 there c.ends_at-tail.ensures.tail,
      heads ∙ listed_more (λ (a : Arc). pos (a.head + 1)) arcs c.loop-place.place c.loop-place.invariant.1 no_arc c.ends_at-tail.result.1 there c.ends_at-tail.ensures.head,
    )
