use Rattle.std.proofs.Common.{not, length, get_or, pos, sym, rules}
use Rattle.cost.specs.Limits.{within}
use Rattle.cost.proofs.FirstPlace.{first_place_tells}
use Rattle.stepped_cost.proofs.stepped.check_each.Goals as goal

pub overflow_add-result : goal.overflow_add-result
overflow_add-result c =
    let xs = c.args.numbers.now in
    let found = first_place_tells (λ k. not (within c.args.limits (get_or xs k (pos 0)))) (length xs) c.in-Some.place (sym c.in-Some.ensures) in
    search rules
