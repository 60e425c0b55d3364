-- Each turn walks over one piece more, or finds one that breaks a law.
use Rattle.std.proofs.Common.{◌≡◌, length, get_or, pos, ◌+ℤ◌, ◌≤ℤ◌, sym, ◌∙◌, arith, w64, SFits, rules}
use Rattle.std.proofs.lemmas.List.{length_push}
use Rattle.std.proofs.lemmas.Int.{ints, to_z-of_z}
use Rattle.std.proofs.lemmas.Bool.{both_ways}
use Rattle.std.proofs.lemmas.Slice.Zip.{zip_turn, zip_end}
use Rattle.cost.specs.Meaning.{Between}
use Rattle.cost.specs.Limits.{within, width_limits}
use Rattle.cost.proofs.Refusing.{between}
use Rattle.stepped_cost.proofs.Fitting.{Walked, passes, walk_on, falls_short, walk_ends, too_far, too_high}
use Rattle.stepped_cost.proofs.stepped.Steps.fit.Goals as goal
use Rattle.stepped_cost.proofs.stepped.Steps.fit.Goals.{then-not-contain-via-then-not-contain, then-not-contain-via-else-not-contain+then-slope-least}

pub returns-then-not-contain-clause-unfit : goal.returns-then-not-contain-clause-unfit
returns-then-not-contain-clause-unfit c =
    let ws = c.args.self.widths.now in
    let ss = c.args.self.slopes.now in
    let k = length c.loop-width.yielded in
    let first = c.ranges.first in
    let inv : Walked c.args.first ws ss k c.loop-width.last c.loop-width.least = simp (to_z-of_z, c.loop-width.last-is, c.loop-width.least-is) at c.loop-width.invariant.2 in
    let w_fits : SFits w64 c.in-Some.width.now = search rules in
    let turn =
    zip_turn ws ss c.loop-width.yielded c.into_iter-width-iterator.result c.loop-width.width-iterator c.next.new.self c.next.result
    (search rules) (search rules) c.loop-width.yielded_by (c.in-Some.width, c.in-Some.slope) c.in-Some.is c.next.ensures.steps in
    let at_width = turn.2 (pos 0) in
    let at_slope = turn.3 (pos 0) in
    let test = rw at_width at (simp to_z-of_z at c.contain.ensures) in
    λ _ fit. elim c.then-not-contain.branch [
      | then-not-contain-via-then-not-contain w ↦ both_ways (within width_limits (get_or ws k (pos 0))) (sym test ∙ w.if-not-contain.true) (passes width_limits (get_or ws k (pos 0)) (fit.widths_within k turn.0))
      | then-not-contain-via-else-not-contain+then-slope-least w ↦
          let s_fits : SFits w64 c.in-Some.slope.now = search rules in
          falls_short c.args.first ws ss k c.loop-width.last c.loop-width.least inv turn.1 (omega (arith, ints, w.if-slope-least.true)) fit
    ]

pub overflow_add-last : goal.overflow_add-last
overflow_add-last c =
    let ws = c.args.self.widths.now in
    let ss = c.args.self.slopes.now in
    let k = length c.loop-width.yielded in
    let first = c.ranges.first in
    let inv : Walked c.args.first ws ss k c.loop-width.last c.loop-width.least = simp (to_z-of_z, c.loop-width.last-is, c.loop-width.least-is) at c.loop-width.invariant.2 in
    let w_fits : SFits w64 c.in-Some.width.now = search rules in
    let s_fits : SFits w64 c.in-Some.slope.now = search rules in
    let turn =
    zip_turn ws ss c.loop-width.yielded c.into_iter-width-iterator.result c.loop-width.width-iterator c.next.new.self c.next.result
    (search rules) (search rules) c.loop-width.yielded_by (c.in-Some.width, c.in-Some.slope) c.in-Some.is c.next.ensures.steps in
    let at_width = turn.2 (pos 0) in
    let at_slope = turn.3 (pos 0) in
    let width : Between (pos 1) (pos 10000) c.in-Some.width.now = between width_limits c.in-Some.width.now (sym (simp to_z-of_z at c.if-not-contain.ensures)) in
    omega (arith, ints, inv.limit, c.args.self.few, width.0, width.1)

pub loop-width-preserved : goal.loop-width-preserved
loop-width-preserved c =
    let ws = c.args.self.widths.now in
    let ss = c.args.self.slopes.now in
    let k = length c.loop-width.yielded in
    let first = c.ranges.first in
    let inv : Walked c.args.first ws ss k c.loop-width.last c.loop-width.least = simp (to_z-of_z, c.loop-width.last-is, c.loop-width.least-is) at c.loop-width.invariant.2 in
    let w_fits : SFits w64 c.in-Some.width.now = search rules in
    let s_fits : SFits w64 c.in-Some.slope.now = search rules in
    let turn =
    zip_turn ws ss c.loop-width.yielded c.into_iter-width-iterator.result c.loop-width.width-iterator c.next.new.self c.next.result
    (search rules) (search rules) c.loop-width.yielded_by (c.in-Some.width, c.in-Some.slope) c.in-Some.is c.next.ensures.steps in
    let at_width = turn.2 (pos 0) in
    let at_slope = turn.3 (pos 0) in
    let width : Between (pos 1) (pos 10000) c.in-Some.width.now = between width_limits c.in-Some.width.now (sym (simp to_z-of_z at c.if-not-contain.ensures)) in
    let rise : c.loop-width.least ≤ℤ get_or ss k (pos 0) = omega (arith, ints, c.if-slope-least.false) in
    let sum : SFits w64 (c.loop-width.last +ℤ c.in-Some.width.now) = omega (arith, ints, inv.limit, c.args.self.few, width.0, width.1) in
    let more = length_push c.loop-width.yielded (c.in-Some.width, c.in-Some.slope) in
    let on = rw (← at_width, ← at_slope) at (walk_on c.args.first ws ss k c.loop-width.last c.loop-width.least inv turn.0 (rw at_width at width) rise) in
    (search rules, search rules, rw more (simp (to_z-of_z, c.loop-width.last-is) on))

pub returns-then-last-clause-fit : goal.returns-then-last-clause-fit
returns-then-last-clause-fit c =
    let ws = c.args.self.widths.now in
    let ss = c.args.self.slopes.now in
    let k = length c.loop-width.yielded in
    let first = c.ranges.first in
    let inv : Walked c.args.first ws ss k c.loop-width.last c.loop-width.least = simp (to_z-of_z, c.loop-width.last-is, c.loop-width.least-is) at c.loop-width.invariant.2 in
    let end : k ≡ length ws = zip_end ws ss c.loop-width.yielded c.into_iter-width-iterator.result c.loop-width.width-iterator c.next.new.self c.next.result
    (search rules) (search rules) c.loop-width.yielded_by c.in-None.is c.next.ensures.steps ∙ omega (arith, c.args.self.pairs) in
    λ e. walk_ends c.args.first ws ss c.args.self.pairs k end c.loop-width.last c.loop-width.least inv (omega (arith, ints, c.if-last.true)) (omega (arith, ints, e))

pub returns-then-last-clause-unfit : goal.returns-then-last-clause-unfit
returns-then-last-clause-unfit c =
    let ws = c.args.self.widths.now in
    let ss = c.args.self.slopes.now in
    let k = length c.loop-width.yielded in
    let first = c.ranges.first in
    let inv : Walked c.args.first ws ss k c.loop-width.last c.loop-width.least = simp (to_z-of_z, c.loop-width.last-is, c.loop-width.least-is) at c.loop-width.invariant.2 in
    let end : k ≡ length ws = zip_end ws ss c.loop-width.yielded c.into_iter-width-iterator.result c.loop-width.width-iterator c.next.new.self c.next.result
    (search rules) (search rules) c.loop-width.yielded_by c.in-None.is c.next.ensures.steps ∙ omega (arith, c.args.self.pairs) in
    λ e. too_high c.args.first ws ss c.args.self.pairs k end c.loop-width.last c.loop-width.least inv (omega (arith, ints, e))

pub returns-else-last : goal.returns-else-last
returns-else-last c =
    let ws = c.args.self.widths.now in
    let ss = c.args.self.slopes.now in
    let k = length c.loop-width.yielded in
    let first = c.ranges.first in
    let inv : Walked c.args.first ws ss k c.loop-width.last c.loop-width.least = simp (to_z-of_z, c.loop-width.last-is, c.loop-width.least-is) at c.loop-width.invariant.2 in
    let end : k ≡ length ws = zip_end ws ss c.loop-width.yielded c.into_iter-width-iterator.result c.loop-width.width-iterator c.next.new.self c.next.result
    (search rules) (search rules) c.loop-width.yielded_by c.in-None.is c.next.ensures.steps ∙ omega (arith, c.args.self.pairs) in
    record {
      fit = λ e. absurd (both_ways _ c.if-last.false e);
      unfit = λ e. too_far c.args.first ws ss c.args.self.pairs k end c.loop-width.last c.loop-width.least inv (omega (arith, ints, c.if-last.false));
    }
