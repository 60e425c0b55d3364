use Rattle.std.proofs.Common.{◌≡◌, ◌+◌, not, get_or, pos, ap, ◌∙◌, arith, rules}
use Rattle.std.specs.Option.{option_map}
use Rattle.cost.specs.Limits.{within}
use Rattle.cost.proofs.FirstPlace.{place_of_position}
use Rattle.cost.proofs.numbers.Limits.first_outside.Goals as goal

pub returns : goal.returns
returns c =
    let xs = c.args.numbers.now in
    let more : c.map.result ≡ option_map (λ i. i + 1) c.position_outside.result = search rules in
    more
    ∙ ap (option_map (λ i. i + 1)) c.position_outside.ensures
    ∙ place_of_position (λ x. not (within c.args.self x)) (pos 0) (λ k. not (within c.args.self (get_or xs k (pos 0)))) 0 xs (λ j h. ap (λ k. not (within c.args.self (get_or xs k (pos 0)))) (omega arith))
