use Rattle.std.proofs.Common.{length, refl, ◌∙◌, arith, w64, SFits, rules}
use Rattle.std.proofs.lemmas.Result.{err_from_is_err_and}
use Rattle.std.proofs.lemmas.Int.{to_z-of_z}
use Rattle.text.specs.Walks.{text_of}
use Rattle.text.proofs.Calls.{call_made, call_refused, makes, refuses}
use Rattle.text.proofs.Listing.{holds_more, holds_all, refused_space, refused_number}
use Rattle.text.proofs.cursor.Cursor.numbers.Goals as goal

pub returns-in_err-space : goal.returns-in_err-space
returns-in_err-space c =
    let p = err_from_is_err_and c.from_residual.result c.from_residual.ensures.1 in
    let loop = c.loop-number in
    let refused = call_refused loop.invariant.0 c.in_err-space.ensures in
    rw (p.1, p.2)
    (refuses c.in_err-space.field-0.0
    (refused_space (text_of c.args.self.now) c.args.self.now.at (length c.args.into.now) loop.ahead.at loop.into loop.number-index (omega arith) loop.invariant.1 _ refused)
    refl refl)

pub returns-in_err-number : goal.returns-in_err-number
returns-in_err-number c =
    let p = err_from_is_err_and c.from_residual-in_err-number.result c.from_residual-in_err-number.ensures.1 in
    let loop = c.loop-number in
    let space = c.in_ok-space.ensures in
    let made = call_made loop.invariant.0 space in
    let refused = call_refused (space.keeps ∙ loop.invariant.0) c.in_err-number.ensures in
    rw (p.1, p.2)
    (refuses c.in_err-number.field-0.0
    (refused_number (text_of c.args.self.now) c.args.self.now.at (length c.args.into.now) loop.ahead.at loop.into loop.number-index (omega arith) loop.invariant.1 _ _ made refused)
    refl refl)

pub loop-number-preserved : goal.loop-number-preserved
loop-number-preserved c =
    let loop = c.loop-number in
    let space = c.in_ok-space.ensures in
    let number = c.in_ok-number.ensures in
    let fits : SFits w64 c.in_ok-number.field-0 = search rules in
    simp to_z-of_z (
      number.keeps ∙ space.keeps ∙ loop.invariant.0,
      holds_more (text_of c.args.self.now) c.args.self.now.at (length c.args.into.now) loop.ahead.at loop.into loop.number-index (omega arith) loop.invariant.1
          c.space.new.self.at c.number.new.self.at c.in_ok-number.field-0 (omega arith)
          (call_made loop.invariant.0 space) (call_made (space.keeps ∙ loop.invariant.0) number),
    )

pub returns : goal.returns
returns c =
    makes c.loop-number.into
    (holds_all (text_of c.args.self.now) c.args.self.now.at (length c.args.into.now) c.loop-number.ahead.at c.loop-number.into c.loop-number.number-index (omega arith) (omega arith) c.loop-number.invariant.1)
    refl
