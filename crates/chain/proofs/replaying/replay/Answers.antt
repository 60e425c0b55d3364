-- Each call takes the chain one further, and its end says what is promised.
use Rattle.std.proofs.Common.{List, subst, rules}
use Rattle.std.proofs.lemmas.List.{take_all}
use Rattle.sheet.specs.Sheets.{book_of}
use Rattle.sheet.proofs.Tables.{sheet_sound}
use Rattle.chain.specs.Chains.{Desk}
use Rattle.chain.specs.declared.calls.Call.{Call}
use Rattle.chain.proofs.Whole.{Reached, reached_more, replayed_end}
use Rattle.chain.proofs.replaying.replay.Goals as goal

pub loop-call-preserved : goal.loop-call-preserved
loop-call-preserved g c =
    reached_more g.C.Cost.meaning (record { book = book_of c.args.sheet.now; costs = c.args.costs.now }) c.args.calls.now c.loop-call.call-index c.call-item.result c.loop-call-test.true c.call-item.is
    (book_of c.loop-call.sheet) (book_of c.make-so_far.new.sheet) c.loop-call.costs c.make-so_far.new.costs c.loop-call.so_far c.make-so_far.result (sheet_sound c.loop-call.sheet)
    c.loop-call.invariant c.make-so_far.ensures

pub returns : goal.returns
returns g c =
    let start : Desk g.row.C.Denot = record { book = book_of c.args.sheet.now; costs = c.args.costs.now } in
    let whole = subst (λ (seen : List (Call g.row.C.Denot)). Reached g.C.Cost.meaning start seen (book_of c.loop-call.sheet) c.loop-call.costs c.loop-call.so_far)
    (take_all c.loop-call.call-index c.args.calls.now c.loop-call-test.false) c.loop-call.invariant in
    replayed_end g.C.Cost.meaning start c.args.calls.now (book_of c.loop-call.sheet) c.loop-call.costs c.loop-call.so_far (sheet_sound c.loop-call.sheet) whole c.unwrap_or_else-outlook.result (search rules)
