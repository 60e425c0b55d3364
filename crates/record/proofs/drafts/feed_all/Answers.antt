use Rattle.std.proofs.Common.{◌+◌, get_or, pos, sym, ap, ◌∙◌, w64, SFits, rules}
use Rattle.std.specs.Result.{result_err}
use Rattle.std.proofs.lemmas.Result.{err_from_is_err_and}
use Rattle.std.proofs.lemmas.Int.{to_z-of_z}
use Rattle.sheet.specs.Drafts.{sketch_of}
use Rattle.record.specs.Faults.{spot}
use Rattle.record.specs.declared.faults.RecordFault.TheVariants.{Draft}
use Rattle.record.proofs.Below.{met_by, met_value, met_refused}
use Rattle.record.proofs.Handing.{fed_more, fed_refused, fed_all}
use Rattle.record.proofs.drafts.feed_all.Goals as goal

pub returns-in_err-map_err : goal.returns-in_err-map_err
returns-in_err-map_err c =
    let p = err_from_is_err_and c.from_residual.result c.from_residual.ensures.1 in
    let met = met_by (λ fault. Draft fault (spot 2 (c.loop-i.i + 2))) c.feed.result c.map_err.result _ c.map_err.ensures.cases (λ below f gives. search rules) in
    let refused = met_refused _ c.feed.result (sym c.in_err-map_err.was ∙ met) in
    let fits : SFits w64 (get_or c.args.supplies.now c.loop-i.i (pos 0)) = search rules in
    let answer = simp to_z-of_z at c.feed.ensures.answer in
    rw (p.1, p.2, refused.2) (sym (c.loop-i.invariant ∙ fed_refused _ _ _ c.loop-i-test.true (sym answer ∙ ap result_err refused.1)))

pub loop-i-preserved : goal.loop-i-preserved
loop-i-preserved c =
    let met = met_by (λ fault. Draft fault (spot 2 (c.loop-i.i + 2))) c.feed.result c.map_err.result _ c.map_err.ensures.cases (λ below f gives. search rules) in
    let done = met_value _ c.feed.result (sym c.in_ok-map_err.was ∙ met) in
    let fits : SFits w64 (get_or c.args.supplies.now c.loop-i.i (pos 0)) = search rules in
    let answer = simp to_z-of_z at c.feed.ensures.answer in
    let after = simp to_z-of_z at c.feed.ensures.after in
    c.loop-i.invariant ∙ fed_more _ _ _ c.loop-i-test.true (sketch_of c.feed.new.self) (sym answer ∙ ap result_err done) after

pub returns : goal.returns
returns c = sym (c.loop-i.invariant ∙ fed_all _ _ _ c.loop-i-test.false)
