-- Each turn holds one load more.
use Rattle.std.proofs.Common.{pos, ◌≤ℤ◌, arith, w64, to_z, of_z}
use Rattle.std.proofs.lemmas.Int.{ints, clamps}
use Rattle.cost.specs.Meaning.{Between}
use Rattle.flow.specs.Spans.{low_of, high_of}
use Rattle.search.proofs.Written.{one_more}
use Rattle.search.proofs.narrow.hold.Goals as goal

pub loop-a-preserved : goal.loop-a-preserved
loop-a-preserved c =
    let a = c.loop-a.a in
    let here : low_of c.args.spans.now a ≤ℤ high_of c.args.spans.now a → Between (low_of c.args.spans.now a) (high_of c.args.spans.now a) (to_z w64 (of_z w64 c.min.result)) =
    λ order. omega (arith, ints, clamps, c.min.ensures.value, c.max.ensures.value) in
    one_more (λ k x. low_of c.args.spans.now k ≤ℤ high_of c.args.spans.now k → Between (low_of c.args.spans.now k) (high_of c.args.spans.now k) x) c.loop-a.loads a (pos 0) (to_z w64 (of_z w64 c.min.result)) (omega arith) c.loop-a.invariant here
