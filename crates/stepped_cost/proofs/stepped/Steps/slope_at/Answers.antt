use Rattle.std.proofs.Common.{length, pos, arith, rules}
use Rattle.std.proofs.lemmas.List.{length_push}
use Rattle.std.proofs.lemmas.Int.{ints}
use Rattle.std.proofs.lemmas.Slice.Zip.{zip_turn}
use Rattle.stepped_cost.specs.Pieces.{in_piece, past_piece}
use Rattle.stepped_cost.proofs.stepped.Steps.slope_at.Goals as goal

pub returns-then-left-width : goal.returns-then-left-width
returns-then-left-width c =
    let ws = c.args.self.widths.now in
    let ss = c.args.self.slopes.now in
    let k = length c.loop-width.yielded in
    let turn =
    zip_turn ws ss c.loop-width.yielded c.into_iter-width-iterator.result c.loop-width.width-iterator c.next.new.self c.next.result
    (search rules) (search rules) c.loop-width.yielded_by (c.in-Some.width, c.in-Some.slope) c.in-Some.is c.next.ensures.steps in
    let width = turn.2 (pos 0) in
    let slope = turn.3 (pos 0) in
    let here = in_piece ws ss k turn.0 c.args.self.pairs c.loop-width.left (omega (arith, ints)) (omega (arith, ints, c.if-left-width.true)) in
    search rules

pub loop-width-preserved : goal.loop-width-preserved
loop-width-preserved c =
    let ws = c.args.self.widths.now in
    let ss = c.args.self.slopes.now in
    let k = length c.loop-width.yielded in
    let turn =
    zip_turn ws ss c.loop-width.yielded c.into_iter-width-iterator.result c.loop-width.width-iterator c.next.new.self c.next.result
    (search rules) (search rules) c.loop-width.yielded_by (c.in-Some.width, c.in-Some.slope) c.in-Some.is c.next.ensures.steps in
    let width = turn.2 (pos 0) in
    let limits = c.requires.within k turn.0 in
    let rest = past_piece ws ss k turn.0 c.args.self.pairs c.loop-width.left (omega (arith, ints)) (omega (arith, ints, c.if-left-width.false)) in
    let more = length_push c.loop-width.yielded (c.in-Some.width, c.in-Some.slope) in
    (search rules, search rules, omega (arith, ints), rw more (search rules))
