use Rattle.std.proofs.Common.{sym, refl, w64, SFits, rules}
use Rattle.std.proofs.lemmas.Result.{err_from_is_err_and}
use Rattle.std.proofs.lemmas.Int.{to_z-of_z}
use Rattle.cost.proofs.Refusing.{between}
use Rattle.text.proofs.Calls.{call_made, call_refused, makes, refuses}
use Rattle.record_form.proofs.Sequences.{count_space, count_number, count_outside, count_made}
use Rattle.record_form.proofs.lines.count.Goals as goal

pub returns-in_err-space : goal.returns-in_err-space
returns-in_err-space c =
    let p = err_from_is_err_and c.from_residual.result c.from_residual.ensures.1 in
    rw (p.1, p.2) (record { step = refuses _ (count_space _ _ _ (call_refused refl c.in_err-space.ensures)) refl refl; within = tt })

pub returns-in_err-number : goal.returns-in_err-number
returns-in_err-number c =
    let p = err_from_is_err_and c.from_residual-in_err-number.result c.from_residual-in_err-number.ensures.1 in
    let space = c.in_ok-space.ensures in
    rw (p.1, p.2) (record { step = refuses _ (count_number _ _ _ (call_made refl space) (call_refused space.keeps c.in_err-number.ensures)) refl refl; within = tt })

pub returns-then-not-contain : goal.returns-then-not-contain
returns-then-not-contain c =
    let space = c.in_ok-space.ensures in
    let number = c.in_ok-number.ensures in
    let most : SFits w64 c.args.most = c.ranges.most in
    let fits : SFits w64 c.in_ok-number.number = search rules in
    let beyond = sym (simp to_z-of_z at c.if-not-contain.ensures) in
    record { step = refuses _ (count_outside _ _ _ (call_made refl space) (call_made space.keeps number) beyond) refl refl; within = tt }

pub returns : goal.returns
returns c =
    let space = c.in_ok-space.ensures in
    let number = c.in_ok-number.ensures in
    let most : SFits w64 c.args.most = c.ranges.most in
    let fits : SFits w64 c.in_ok-number.number = search rules in
    let inside = sym (simp to_z-of_z at c.if-not-contain.ensures) in
    simp to_z-of_z (record { step = makes _ (count_made _ _ _ (call_made refl space) (call_made space.keeps number) inside) refl; within = between _ _ inside })
