-- Each turn puts the number of the next item behind the others.
use Rattle.std.proofs.Common.{◌≡◌, get_or, pos, refl, ◌∙◌, subst, w64, SFits, rules}
use Rattle.std.specs.Fn.{FnReturnsAt}
use Rattle.std.proofs.lemmas.List.{get_or_default}
use Rattle.std.proofs.lemmas.Int.{to_z-of_z}
use Rattle.ledger.proofs.Parts.{appended}
use Rattle.ledger.proofs.settling.numbers_of.Goals as goal

pub loop-item-preserved : goal.loop-item-preserved
loop-item-preserved g c =
    let items = c.args.items.now in
    let i = c.loop-item.item-index in
    record {
      many = search rules;
      numbers = λ k other h.
          let here : c.item-item.result ≡ get_or items i other = c.item-item.is ∙ get_or_default items i c.item-item.result other c.loop-item-test.true in
          let last : FnReturnsAt g.F.Fn c.args.number c.item-item.result c.number.result = record { shown = _; shows = refl; says = record { met = c.number.ensures } } in
          let fits : SFits w64 c.number.result = search rules in
          rw c.push.ensures.items (simp to_z-of_z
          (appended (λ k n. FnReturnsAt g.F.Fn c.args.number (get_or items k other) n) c.loop-item.numbers.items c.number.result (pos 0) i c.loop-item.invariant.many (λ k h. c.loop-item.invariant.numbers k other h)
          (subst (λ item. FnReturnsAt g.F.Fn c.args.number item c.number.result) here last) k h));
    }
