use Rattle.std.proofs.Common.{sym, refl, ◌∙◌, w64, SFits, rules}
use Rattle.std.proofs.lemmas.Result.{err_from_is_err_and}
use Rattle.std.proofs.lemmas.Int.{to_z-of_z}
use Rattle.text.proofs.Calls.{call_made, call_refused, makes, refuses}
use Rattle.record_form.proofs.Sequences.{row_word, row_space, row_number, row_told, told_none, told_some, row_further, many_further}
use Rattle.record_form.proofs.lines.row.Goals as goal

pub returns-in_err-word : goal.returns-in_err-word
returns-in_err-word g c =
    let p = err_from_is_err_and c.from_residual.result c.from_residual.ensures.1 in
    rw (p.1, p.2) (refuses _ (row_word _ _ _ (call_refused refl c.in_err-word.ensures)) refl refl)

pub returns-in_err-space : goal.returns-in_err-space
returns-in_err-space g c =
    let p = err_from_is_err_and c.from_residual-in_err-space.result c.from_residual-in_err-space.ensures.1 in
    let word = c.in_ok-word.ensures in
    rw (p.1, p.2) (refuses _ (row_space _ _ _ (call_made refl word) (call_refused word.keeps c.in_err-space.ensures)) refl refl)

pub returns-in_err-first : goal.returns-in_err-first
returns-in_err-first g c =
    let p = err_from_is_err_and c.from_residual-in_err-first.result c.from_residual-in_err-first.ensures.1 in
    let word = c.in_ok-word.ensures in
    let space = c.in_ok-space.ensures in
    rw (p.1, p.2) (refuses _ (row_number _ _ _ (call_made refl word) (call_made word.keeps space) (call_refused (space.keeps ∙ word.keeps) c.in_err-first.ensures)) refl refl)

pub returns-in_default : goal.returns-in_default
returns-in_default g c =
    let word = c.in_ok-word.ensures in
    let space = c.in_ok-space.ensures in
    let number = c.in_ok-first.ensures in
    let first : SFits w64 c.in_ok-first.first = search rules in
    let told = simp to_z-of_z at (sym c.row_length.ensures ∙ c.in_default.is) in
    refuses _
    (row_told _ _ _ (call_made refl word) (call_made word.keeps space) (call_made (space.keeps ∙ word.keeps) number)
    ∙ told_none _ _ _ _ told)
    refl refl

pub overflow_sub-count : goal.overflow_sub-count
overflow_sub-count g c = (g.met.W.Recorded.few _ c.in-Some.count (sym c.row_length.ensures ∙ c.in-Some.is)).0

pub slice_bounds-further-end : goal.slice_bounds-further-end
slice_bounds-further-end g c =
    let many = g.met.W.Recorded.few _ c.in-Some.count (sym c.row_length.ensures ∙ c.in-Some.is) in
    search rules

pub row_end-requires : goal.row_end-requires
row_end-requires g c =
    let many = g.met.W.Recorded.few _ c.in-Some.count (sym c.row_length.ensures ∙ c.in-Some.is) in
    search rules

pub returns-in_err-row : goal.returns-in_err-row
returns-in_err-row g c =
    let p = err_from_is_err_and c.from_residual-in_err-row.result c.from_residual-in_err-row.ensures.1 in
    let word = c.in_ok-word.ensures in
    let space = c.in_ok-space.ensures in
    let number = c.in_ok-first.ensures in
    let first : SFits w64 c.in_ok-first.first = search rules in
    let told = simp to_z-of_z at (sym c.row_length.ensures ∙ c.in-Some.is) in
    let many = g.met.W.Recorded.few _ c.in-Some.count told in
    let end = simp to_z-of_z at c.in_err-row.ensures in
    rw (p.1, p.2)
    (refuses _
    (row_told _ _ _ (call_made refl word) (call_made word.keeps space) (call_made (space.keeps ∙ word.keeps) number)
    ∙ told_some _ _ _ _ _ told
    ∙ row_further _ _ _ (many_further c.in-Some.count many.1) (call_refused (number.keeps ∙ space.keeps ∙ word.keeps) end))
    refl refl)

pub returns : goal.returns
returns g c =
    let word = c.in_ok-word.ensures in
    let space = c.in_ok-space.ensures in
    let number = c.in_ok-first.ensures in
    let first : SFits w64 c.in_ok-first.first = search rules in
    let told = simp to_z-of_z at (sym c.row_length.ensures ∙ c.in-Some.is) in
    let many = g.met.W.Recorded.few _ c.in-Some.count told in
    let end = simp to_z-of_z at c.in_ok-row.ensures in
    makes _
    (row_told _ _ _ (call_made refl word) (call_made word.keeps space) (call_made (space.keeps ∙ word.keeps) number)
    ∙ told_some _ _ _ _ _ told
    ∙ row_further _ _ _ (many_further c.in-Some.count many.1) (call_made (number.keeps ∙ space.keeps ∙ word.keeps) end))
    refl
