use Rattle.std.proofs.Common.{map, get_or, arith, rules}
use Rattle.std.proofs.lemmas.List.Edits.{map_over_more}
use Rattle.std.proofs.lemmas.List.{append-nil, drop_all, get_or_default, take_all}
use Rattle.network.specs.Records.{no_arc}
use Rattle.ledger.specs.Books.{reset_arc}
use Rattle.sheet.proofs.sheets.edits.reset_arcs.Goals as goal

pub loop-arc-preserved : goal.loop-arc-preserved
loop-arc-preserved c =
    let k = c.loop-arc.arc-index in
    let here = get_or c.loop-arc.arcs k no_arc in
    map_over_more reset_arc c.args.arcs.now c.loop-arc.arcs k here c.loop-arc-test.true c.loop-arc.invariant (get_or_default c.loop-arc.arcs k no_arc here (omega arith))

pub returns : goal.returns
returns c =
    let all = take_all c.loop-arc.arc-index c.args.arcs.now c.loop-arc-test.false in
    let none = drop_all c.loop-arc.arc-index c.args.arcs.now c.loop-arc-test.false in
    let end = append-nil (map reset_arc c.args.arcs.now) in
    search rules
