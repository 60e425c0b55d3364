use Rattle.std.proofs.Common.{◌≡◌, length, pos, sym, ap, ◌∙◌, arith, w64, SFits, to_z, rules}
use Rattle.std.proofs.lemmas.Int.{ints, to_z-of_z}
use Rattle.stepped_cost.specs.Stepped.{widths_of}
use Rattle.stepped_cost.specs.Pieces.{made_keeps}
use Rattle.stepped_cost.specs.StepRowsLemmas.{honest, kept_row, put_together}
use Rattle.stepped_cost.proofs.stepped.SteppedWritten.row.Goals as goal

pub returns-then-is_made : goal.returns-then-is_made
returns-then-is_made c =
    let self = c.args.self.now in
    let made = c.if-is_made.ensures in
    let own = kept_row self made in
    let first : SFits w64 self.first = search rules in
    let opening : SFits w64 self.opening = search rules in
    let kept = made_keeps self made in
    let few = kept.few in
    let long = ap length c.steps-steps.ensures.widths in
    let count : to_z w64 (length c.steps-steps.result.widths.now) ≡ pos (length (widths_of self)) = omega (arith, ints) in
    let front = simp to_z-of_z at c.extend.ensures in
    let row = put_together _ _ _ _ _ _ _ _ _ _ _ _ c.empty-row.ensures front c.extend-then-is_made.ensures c.extend-then-is_made-2.ensures c.steps-steps.ensures.widths c.steps-steps.ensures.slopes count kept.few (omega (arith, kept.pairs)) in
    record { row = row ∙ sym own; means = (honest self).means }
