use Rattle.std.proofs.Common.{sym, refl, ◌∙◌}
use Rattle.std.proofs.lemmas.Result.{err_from_is_err_and}
use Rattle.sheet.specs.Drafts.{sketch_of}
use Rattle.text.proofs.Calls.{call_made, call_refused}
use Rattle.record.proofs.Stages.{arc_tails, arc_heads, arc_read, shown_up_to}
use Rattle.record.proofs.drafts.arc_lines.Goals as goal

pub returns-in_err-list : goal.returns-in_err-list
returns-in_err-list c =
    let p = err_from_is_err_and c.from_residual.result c.from_residual.ensures.1 in
    let tails = c.in_err-list.ensures in
    rw (p.1, p.2) (record { answer = sym (arc_tails _ _ _ _ (call_refused refl tails)); keeps = tails.keeps })

pub returns-in_err-list-2 : goal.returns-in_err-list-2
returns-in_err-list-2 c =
    let p = err_from_is_err_and c.from_residual-in_err-list-2.result c.from_residual-in_err-list-2.ensures.1 in
    let tails = c.in_ok-list.ensures in
    let heads = c.in_err-list-2.ensures in
    rw (p.1, p.2) (record {
      answer = sym (arc_heads _ _ _ _ (call_made refl tails) c.requires.pairs (call_refused tails.keeps heads));
      keeps = heads.keeps ∙ tails.keeps;
    })

pub returns : goal.returns
returns c =
    let tails = c.in_ok-list.ensures in
    let heads = c.in_ok-list-2.ensures in
    record {
      answer = shown_up_to sketch_of _ c.lay_all.result ∙ sym (arc_read _ _ _ _ (call_made refl tails) c.requires.pairs (call_made tails.keeps heads) (sym c.lay_all.ensures));
      keeps = heads.keeps ∙ tails.keeps;
    }
