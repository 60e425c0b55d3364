use Rattle.std.proofs.Common.{◌≡◌, ◌≤◌, length, get_or, pos, Some, List, map, ℤ, ap, ◌∙◌, arith, rules}
use Rattle.std.specs.Slice.Iter.{iter_rest}
use Rattle.std.proofs.lemmas.Int.{ints}
use Rattle.cost.specs.Meaning.{total}
use Rattle.stepped_cost.proofs.Summing.{summed, now, sum_between}
use Rattle.stepped_cost.proofs.stepped.Steps.width.Goals as goal

pub sum-requires-clause-fits : goal.sum-requires-clause-fits
sum-requires-clause-fits c =
    λ p seen from.
    let items = c.iter.ensures.runs p seen in
    let rest : iter_rest p.from ≡ c.args.self.widths.now = ap iter_rest from ∙ c.iter.ensures.rest in
    let few : p.len ≤ length c.args.self.widths.now = rw (← rest) items.0 in
    let limits =
    sum_between p.items p.at c.args.self.widths.now p.len p.long few p.reads (λ k d h. items.2 k d h ∙ ap (λ (xs : List ℤ). Some (get_or xs k d)) rest) c.requires in
    omega (arith, ints, limits, c.args.self.few)

pub returns : goal.returns
returns c =
    let run = c.sum.ensures.runs tt in
    let p = run.0 in
    let items = c.iter.ensures.runs p p.seen in
    let rest : iter_rest p.from ≡ c.args.self.widths.now = ap iter_rest run.1 ∙ c.iter.ensures.rest in
    let all : map now p.items ≡ c.args.self.widths.now = items.4 run.2 ∙ rest in
    let sum : c.sum.result ≡ total c.args.self.widths.now = run.3 ∙ summed (pos 0) p.items ∙ omega (arith, ints) ∙ ap total all in
    search rules
