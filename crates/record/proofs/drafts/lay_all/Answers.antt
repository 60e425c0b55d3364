use Rattle.std.proofs.Common.{◌≡◌, ℕ, ◌+◌, ◌≤◌, ◌∷◌, ◌++◌, [], length, pos, Err, sym, ap, ◌∙◌, w64, SFits, arith, rules}
use Rattle.std.specs.Result.{result_err}
use Rattle.std.proofs.lemmas.Result.{err_from_is_err_and}
use Rattle.std.proofs.lemmas.Int.{to_z-of_z}
use Rattle.std.proofs.lemmas.List.{length-append}
use Rattle.std.proofs.lemmas.Slice.Zip.{zip_turn, zip_end}
use Rattle.sheet.specs.Drafts.{sketch_of}
use Rattle.record.specs.declared.faults.RecordFault.TheVariants.{Draft}
use Rattle.record.specs.Faults.{spot}
use Rattle.record.proofs.Below.{met_by, met_value, met_refused}
use Rattle.record.proofs.Handing.{laid_more, laid_refused, laid_all}
use Rattle.record.proofs.drafts.lay_all.Goals as goal

pub returns-in_err-map_err : goal.returns-in_err-map_err
returns-in_err-map_err c =
    let p = err_from_is_err_and c.from_residual.result c.from_residual.ensures.1 in
    let n = length c.loop-tail.yielded in
    let turn = zip_turn c.args.tails.now c.args.heads.now c.loop-tail.yielded c.into_iter-tail-iterator.result c.loop-tail.tail-iterator c.next.new.self _ (cc) (cc) c.loop-tail.yielded_by _ c.in-Some.is c.next.ensures.steps in
    let met = met_by (λ fault. Draft fault (spot 4 c.loop-tail.field)) c.lay.result c.map_err.result _ c.map_err.ensures.cases (λ below f gives. search rules) in
    let tail : SFits w64 c.in-Some.tail.now = search rules in
    let head : SFits w64 c.in-Some.head.now = search rules in
    let answer = simp to_z-of_z at c.lay.ensures.answer in
    let refused = met_refused _ c.lay.result (sym c.in_err-map_err.was ∙ met) in
    rw (p.1, p.2, refused.2)
    (ap (λ (field : ℕ). Err (Draft refused.0 (spot 4 field))) c.loop-tail.invariant.2
    ∙ sym (c.loop-tail.invariant.3 ∙ laid_refused _ _ _ n _ _ turn.0 turn.1 (turn.2 (pos 0)) (turn.3 (pos 0)) (sym answer ∙ ap result_err refused.1)))

pub loop-tail-preserved : goal.loop-tail-preserved
loop-tail-preserved c =
    let n = length c.loop-tail.yielded in
    let turn = zip_turn c.args.tails.now c.args.heads.now c.loop-tail.yielded c.into_iter-tail-iterator.result c.loop-tail.tail-iterator c.next.new.self _ (cc) (cc) c.loop-tail.yielded_by _ c.in-Some.is c.next.ensures.steps in
    let met = met_by (λ fault. Draft fault (spot 4 c.loop-tail.field)) c.lay.result c.map_err.result _ c.map_err.ensures.cases (λ below f gives. search rules) in
    let tail : SFits w64 c.in-Some.tail.now = search rules in
    let head : SFits w64 c.in-Some.head.now = search rules in
    let answer = simp to_z-of_z at c.lay.ensures.answer in
    let after = simp to_z-of_z at c.lay.ensures.after in
    let done = met_value _ c.lay.result (sym c.in_ok-map_err.was ∙ met) in
    let long : length (c.loop-tail.yielded ++ ((c.in-Some.tail, c.in-Some.head) ∷ [])) ≡ n + 1 = length-append c.loop-tail.yielded ((c.in-Some.tail, c.in-Some.head) ∷ []) in
    rw long (
      (tt, tt),
      tt,
      omega (arith, c.loop-tail.invariant.2),
      c.loop-tail.invariant.3 ∙ laid_more _ _ _ n _ _ turn.0 turn.1 (turn.2 (pos 0)) (turn.3 (pos 0)) (sketch_of c.lay.new.self) (sym answer ∙ ap result_err done) after,
    )

pub returns : goal.returns
returns c =
    let all = zip_end c.args.tails.now c.args.heads.now c.loop-tail.yielded c.into_iter-tail-iterator.result c.loop-tail.tail-iterator c.next.new.self _ (cc) (cc) c.loop-tail.yielded_by c.in-None.is c.next.ensures.steps in
    let over : length c.args.tails.now ≤ length c.loop-tail.yielded = omega (arith, all, c.requires.pairs) in
    sym (c.loop-tail.invariant.3 ∙ laid_all _ c.args.tails.now c.args.heads.now (length c.loop-tail.yielded) over)
