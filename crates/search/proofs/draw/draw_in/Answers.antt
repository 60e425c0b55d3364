-- The next price above is drawn to the level next to the one before.
use Rattle.std.proofs.Common.{◌≡◌, length, pos, ◌+ℤ◌, ◌-ℤ◌, refl, arith, rules, w64, to_z, SFits}
use lib.Signed.{le_z}
use Rattle.std.specs.Int.{int_min}
use Rattle.std.proofs.lemmas.Int.{ints, to_z-of_z}
use Rattle.std.proofs.lemmas.List.{get_or-replicate}
use Rattle.network.specs.Records.{numbers}
use Rattle.network.proofs.Counts.{count_limit}
use Rattle.search.proofs.Drawing.{drawing_starts, drawing_on, drawing_ends, level_fits, next_within, passed_more}
use Rattle.search.proofs.draw.draw_in.Goals as goal

pub loop-next-init : goal.loop-next-init
loop-next-init c = (refl, drawing_starts c.args.prices.now c.requires.modest _ (λ v h. get_or-replicate 64 v (pos 0) (pos 0) (omega (arith, c.requires.few))))

pub level_above-level-requires : goal.level_above-level-requires
level_above-level-requires c =
    let prices = c.args.prices.now in
    let drawing = c.loop-next.invariant.1 in
    let level = level_fits prices c.requires.modest (numbers c.loop-next.levels) _ _ c.requires.few drawing in
    let next = next_within prices c.requires.modest _ _ c.in-Some.ensures in
    let fits : SFits w64 c.in-Some.next = omega (arith, ints, drawing.from, next, c.in-Some.ensures.above) in
    record { level = level; limits = (drawing.from, simp to_z-of_z (omega (arith, ints, drawing.from, next, c.in-Some.ensures.above))) }

pub loop-next-smaller : goal.loop-next-smaller
loop-next-smaller c =
    let prices = c.args.prices.now in
    let drawing = c.loop-next.invariant.1 in
    let next = next_within prices c.requires.modest _ _ c.in-Some.ensures in
    let fits : SFits w64 c.in-Some.next = omega (arith, ints, drawing.from, next, c.in-Some.ensures.above) in
    let higher = passed_more prices c.requires.modest _ _ c.in-Some.ensures in
    simp to_z-of_z (omega (arith, count_limit (length prices) (λ v. le_z (numbers prices v) c.in-Some.next)))

pub loop-next-preserved : goal.loop-next-preserved
loop-next-preserved c =
    let prices = c.args.prices.now in
    let drawing = c.loop-next.invariant.1 in
    let next = next_within prices c.requires.modest _ _ c.in-Some.ensures in
    let fits : SFits w64 c.in-Some.next = omega (arith, ints, drawing.from, next, c.in-Some.ensures.above) in
    let is : c.level_above-level.result ≡ to_z w64 c.loop-next.level-bits +ℤ int_min (c.in-Some.next -ℤ to_z w64 c.loop-next.price-bits) (pos 1000000) = simp to_z-of_z at c.level_above-level.ensures in
    let within : SFits w64 c.level_above-level.result = search rules in (
      omega arith,
      simp to_z-of_z (drawing_on prices c.requires.modest (numbers c.loop-next.levels) (numbers c.level_at.new.levels) _ _ c.in-Some.next c.level_above-level.result is drawing c.in-Some.ensures
          (simp to_z-of_z at c.level_at.ensures.here) (simp to_z-of_z at c.level_at.ensures.elsewhere)),
    )

pub returns-clause-limits : goal.returns-clause-limits
returns-clause-limits c =
    let prices = c.args.prices.now in
    let done = drawing_ends prices c.requires.modest (numbers c.loop-next.levels) _ _ c.loop-next.invariant.1 c.in_default.ensures in
    λ v h. omega (arith, ints, done.limits v h, c.requires.few)
