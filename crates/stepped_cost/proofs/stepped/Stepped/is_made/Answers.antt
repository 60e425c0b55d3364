-- The content is made of pieces that fit, or some condition refuses it.
use Rattle.std.proofs.Common.{sym, w64, SFits, rules}
use Rattle.std.proofs.lemmas.Int.{to_z-of_z}
use Rattle.cost.specs.Limits.{load_limits}
use Rattle.cost.proofs.Refusing.{between}
use Rattle.stepped_cost.specs.Stepped.{widths_of, slopes_of}
use Rattle.stepped_cost.proofs.Fitting.{tells_made}
use Rattle.stepped_cost.proofs.stepped.Stepped.is_made.Goals as goal

pub fit-requires : goal.fit-requires
fit-requires c = between load_limits _ (sym c.if-not-contain.ensures)

pub returns : goal.returns
returns c =
    let content = c.args.self.now in
    let steps = c.steps.result in
    let first : SFits w64 content.first = search rules in
    let opening : SFits w64 content.opening = search rules in
    tells_made content.first content.opening steps.widths.now steps.slopes.now steps.pairs steps.few
    (sym (simp to_z-of_z at c.if-not-contain.ensures)) (sym (simp to_z-of_z at c.if-not-contain-2.ensures)) (widths_of content) (slopes_of content) c.steps.ensures.widths c.steps.ensures.slopes
    c.fit.result (simp to_z-of_z at c.fit.ensures.fit) (simp to_z-of_z at c.fit.ensures.unfit)
