use Rattle.std.proofs.Common.{◌<◌, length, ◌∙◌, arith, w64, SFits, rules}
use Rattle.std.proofs.lemmas.Int.{to_z-of_z}
use Rattle.network.specs.Records.{no_node}
use Rattle.network.specs.declared.records.Node.{Node}
use Rattle.sheet.specs.Sheets.{book_of}
use Rattle.record.proofs.Listed.{listed_more}
use Rattle.record.proofs.outlines.supplies_of.Goals as goal

pub loop-place-preserved : goal.loop-place-preserved
loop-place-preserved c =
    let nodes = (book_of c.args.sheet.now).nodes in
    let there : c.loop-place.place < length nodes = omega (arith, c.node_count-place-end.ensures) in
    let fits : SFits w64 c.supply_at.result = search rules in
    let pushed = simp to_z-of_z at c.push.ensures.items in
    pushed ∙ listed_more (λ (n : Node). n.supply) nodes c.loop-place.place c.loop-place.invariant no_node c.supply_at.result there c.supply_at.ensures
