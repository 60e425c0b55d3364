use Rattle.std.proofs.Common.{sym, refl, ◌∙◌}
use Rattle.std.proofs.lemmas.Result.{err_from_is_err_and}
use Rattle.sheet.specs.Drafts.{sketch_of}
use Rattle.text.proofs.Calls.{call_made, call_refused}
use Rattle.record.proofs.Stages.{supply_form, supply_read, shown_up_to}
use Rattle.record.proofs.drafts.supply_line.Goals as goal

pub returns-in_err-list : goal.returns-in_err-list
returns-in_err-list c =
    let p = err_from_is_err_and c.from_residual.result c.from_residual.ensures.1 in
    let list = c.in_err-list.ensures in
    rw (p.1, p.2) (record { answer = sym (supply_form _ _ _ c.requires.each (call_refused refl list)); keeps = list.keeps })

pub returns : goal.returns
returns c =
    let list = c.in_ok-list.ensures in
    record {
      answer = shown_up_to sketch_of _ c.feed_all.result ∙ sym (supply_read _ _ _ c.requires.each (call_made refl list) (sym c.feed_all.ensures));
      keeps = list.keeps;
    }
